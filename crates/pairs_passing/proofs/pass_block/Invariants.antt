-- Each turn takes in one rank more: by `pass_rank` where its high ahead is r (`scanned_pass`); else it has no pair with r, and the row
-- stays (`scanned_skip`). The bound stays at most the highs ahead.
use Rattle.graph.specs.Path.{Weights}
use Rattle.pairs_fronts.specs.Fronts.{Scanned, Stage}
use Rattle.pairs_passing.proofs.pass_block.Given as goal

-- the ranks from `from` to before v are taken in
abbrev pub invariant-loop-v : goal.invariant-loop-v
invariant-loop-v l =
    (w : Weights)
    → Stage w l.n l.r.0 l.from l.records.pairs.now l.records.times.now l.initial.cursor l.initial.ahead l.ends
    l.initial.ups l.initial.downs l.initial.touched
    → Scanned w l.n l.r.0 l.from l.v l.bound l.records.pairs.now l.records.times.now l.cursor l.ahead l.ends l.ups l.downs l.touched
