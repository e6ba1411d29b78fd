-- The two call each other at ever higher ranks, so the number of ranks above falls: twice that number, and one more for the estimate,
-- which calls the walk at its own rank. The walk keeps the least over the records that it has met, and what they lead to filled.
use mathlib.Core.Path.{◌≡◌}
use mathlib.Core.List.{List}
use Prim.Native.Nat.{◌+◌, ◌-◌, ℕ}
use lib.ListN.{length}
use Rattle.pairs_hierarchy.specs.Walks.{Walked}
use Rattle.pairs_hierarchy.proofs.Hierarchy.+estimate_rank_walk_pairs.Given as goal

abbrev pub decreases-estimate_rank : goal.decreases-estimate_rank
decreases-estimate_rank l =
    (l.self.now.sizes.n - l.r.0) + (l.self.now.sizes.n - l.r.0) + 1

abbrev pub decreases-walk_pairs : goal.decreases-walk_pairs
decreases-walk_pairs l =
    (l.self.now.sizes.n - l.r.0) + (l.self.now.sizes.n - l.r.0)

-- the records below k are walked
pub record Walking (n : ℕ) (order pairs times : List ℕ) (count : ℕ) (down e₀ : List ℕ) (r own : ℕ) (e : List ℕ) (best k : ℕ) : Type 0 where
  pub length-kept : length e ≡ n
  pub walked : Walked n order pairs times count down e₀ e r own k best

abbrev pub invariant-walk_pairs-loop-k : goal.invariant-walk_pairs-loop-k
invariant-walk_pairs-loop-k l =
    let h = l.self in
    Walking h.sizes.n h.order.now h.records.pairs.now h.records.times.now h.sizes.pairs h.down.now l.initial.estimates l.r.0
    l.initial.best.0 l.estimates l.best.0 l.k
