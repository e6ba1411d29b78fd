-- The list of a row goes back from its last road (`Walked`): each turn relaxes the row by one road more (`walked_turn`), and the place in
-- the list falls, since the list was linked downwards (`last_of-le`).
use lib.ListN.{length}
use Rattle.pairs_rows.specs.Links.{net_in}
use Rattle.pairs_linking.proofs.Roads.{Walked}
use Rattle.pairs_linking.proofs.relax_roads.Given as goal

abbrev pub invariant-loop-c : goal.invariant-loop-c
invariant-loop-c l =
    Walked (net_in l.roads l.ranks) (length l.ranks) l.fn.r.0 l.c l.rows.ups l.rows.downs l.rows.touched

abbrev pub decreases-loop-c : goal.decreases-loop-c
decreases-loop-c l =
    l.c
