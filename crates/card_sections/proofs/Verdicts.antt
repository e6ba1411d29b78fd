-- The ways through questions 4 to 6: the first that refuses is the answer. Assumes nothing.
use mathlib.Core.Path.{◌≡◌, refl, sym}
use mathlib.Core.Bool.{Bool, false, true}
use mathlib.Core.Option.{Option, none, some}
use Prim.Native.Nat.{ℕ}
use Rattle.graph.proofs.Total.{none-some}
use Rattle.model.specs.Types.{Place, Refusal, Road, Sizes}
use Rattle.model.specs.Card.{Rows, ask, failing_place, failing_road, rows_refusal, sizes_ok}
use Rattle.model.proofs.Laws.{ask-none}

-- a question that was asked alone: it passed, or its refusal is the answer, whatever is asked after it
pub passed : (x : Bool) (q : Refusal) → none ≡ ask x q none → x ≡ true
passed x q h = (ask-none x q none (sym h)).0

pub refused : (x : Bool) (q : Refusal) {t : Refusal} (rest : Option Refusal) → some t ≡ ask x q none → some t ≡ ask x q rest
refused true q rest h = absurd (none-some h refl)
refused false q rest h = h

module _ (a b : ℕ) (r : Rows) {x : Bool} (asked : x ≡ sizes_ok a b) where
  pub by_4 : {q : Refusal} → some q ≡ ask x Sizes none → some q ≡ rows_refusal a b r
  unfolding rows_refusal
  by_4 h = rw (← asked) (refused x Sizes _ h)

  -- question 4 passes
  module _ (passes : none ≡ ask x Sizes none) where
    pub by_5 : {i : ℕ} → some i ≡ failing_road r → some (Road i) ≡ rows_refusal a b r
    unfolding rows_refusal
    by_5 e = rw (← asked, passed x Sizes passes, ← e)

    pub by_6 : {k : ℕ} → none ≡ failing_road r → some k ≡ failing_place r → some (Place k) ≡ rows_refusal a b r
    unfolding rows_refusal
    by_6 e f = rw (← asked, passed x Sizes passes, ← e, ← f)

    pub by-none : none ≡ failing_road r → none ≡ failing_place r → none ≡ rows_refusal a b r
    unfolding rows_refusal
    by-none e f = rw (← asked, passed x Sizes passes, ← e, ← f)
