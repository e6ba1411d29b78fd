-- The pass begins with the total 0 at the target alone (`descend_start`). Each turn hands down by one record more (`Descending`,
-- `descend_turn`), and after all of them the totals are the least ones (`descend_end`).
use Prim.Native.Nat.{ℕ}
use mathlib.Core.Path.{◌≡◌}
use mathlib.Core.List.{List}
use lib.ListN.{length}
use Rattle.pairs_descents.specs.Downs.{Descending}
use Rattle.pairs_descents.proofs.down_totals.Given as goal

pub record Passing (n count : ℕ) (order pairs times : List ℕ) (t i : ℕ) (down : List ℕ) : Type 0 where
  pub down_is : length down ≡ n
  pub descending : Descending n order pairs times count t i down

abbrev pub invariant-loop-i : goal.invariant-loop-i
invariant-loop-i l =
    Passing l.n l.count l.order l.records.pairs.now l.records.times.now l.fn.target.0 l.i l.down
