-- The order has every junction once, so the place that is written at a junction is its rank (`Filled`, `filled-turn`).
use Rattle.pairs_contraction.proofs.Places.{Filled}
use Rattle.pairs_contraction.proofs.fill_ranks.Given as goal

abbrev pub invariant-loop-k : goal.invariant-loop-k
invariant-loop-k l =
    Filled l.order l.k l.ranks
