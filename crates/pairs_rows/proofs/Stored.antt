-- The test that keeps a pair. Assumes nothing.
use mathlib.Core.Path.{◌∙◌, ◌≡◌, refl, sym}
use mathlib.Core.Bool.{Bool, cond, false, not, true}
use mathlib.Core.Option.{none, some}
use Prim.Native.Nat.{ℕ}
use lib.Dec.{eqb}
use Rattle.graph.specs.Records.{exists}
use Rattle.model.specs.Word.{none_word, of_word}

pub kept_by-down : (u d : ℕ) {b c : Bool} → b ≡ eqb u none_word → b ≡ true → c ≡ eqb d none_word → not c ≡ exists (of_word u) (of_word d)
unfolding of_word
kept_by-down u d e t f = let g : eqb u none_word ≡ true = sym e ∙ t in rw (g, f) (go (eqb d none_word))
  where
    go : (b : Bool) → not b ≡ exists none (cond b none (some d))
    go true = refl
    go false = refl

pub kept_by-up : (u d : ℕ) {b : Bool} → b ≡ eqb u none_word → b ≡ false → not b ≡ exists (of_word u) (of_word d)
unfolding of_word
kept_by-up u d e t = let g : eqb u none_word ≡ false = sym e ∙ t in rw (t, g) refl
