-- One step back at a turn, until the way begins (`count-there`) or n steps are made (`count-end`); what is left to count falls by one
-- (`count_turn`).
use lib.Dec.{eqb}
use Rattle.search_run.specs.Runs.{back_in}
use Rattle.search_run.proofs.Backs.{Counting}
use Rattle.search_run.proofs.arcs_back.Given as goal

abbrev pub invariant-loop-k : goal.invariant-loop-k
invariant-loop-k l =
    Counting (λ u. eqb u l.trip.start.0) (back_in l.atlas.ways.roads.now l.words l.n l.trip.sizes.m) l.n l.trip.target.0 l.k l.u
