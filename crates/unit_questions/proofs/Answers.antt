-- Question 11 on numbers, by the ways through the code. Assumes nothing.
use mathlib.Core.Path.{◌∙◌, ◌≡◌, sym}
use mathlib.Core.Bool.{Bool, ◌&&◌, false, true}
use mathlib.Core.Option.{some}
use Prim.Native.Nat.{ℕ}
use lib.Dec.{eqb, leb}
use borrow.Author.Tests.{eqb-true}
use Rattle.model.specs.Word.{none_word, of_word}
use Rattle.model.proofs.Word.{of_word-none}
use Rattle.model.specs.Limits.{most_time}
use Rattle.model.specs.Set.{settable}

-- of the base time b and the time t, once the code has asked whether t is the mark of a closed road
module _ (b t : ℕ) {closed : Bool} (asked : closed ≡ eqb t none_word) where
  pub allowed-closed : closed ≡ true → true ≡ settable (some b) (of_word t)
  allowed-closed e = rw (eqb-true t none_word (sym asked ∙ e), of_word-none)

  pub allowed_open : closed ≡ false → leb b t && leb t most_time ≡ settable (some b) (of_word t)
  unfolding of_word
  allowed_open e = rw (sym asked ∙ e)
