-- Back to front: each turn writes the last arc of what is still to be written, and steps back over it (`Writing`, `write_turn`).
use Rattle.search_labels.specs.Labelling.{labels_in}
use Rattle.search_run.specs.Runs.{back_in}
use Rattle.search_run.proofs.Backs.{Writing}
use Rattle.search_run.proofs.write_back.Given as goal

abbrev pub invariant-loop-j : goal.invariant-loop-j
invariant-loop-j l =
    let z = l.trip.sizes in
    Writing (labels_in z.n l.words).vias (back_in l.atlas.ways.roads.now l.words z.n z.m) z.n l.k l.trip.target.0
    l.initial.route l.j l.u l.route
