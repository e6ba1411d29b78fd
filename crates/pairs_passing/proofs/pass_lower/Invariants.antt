-- Each turn takes in a block. Where its bound is above r, none of its ranks has a pair with r (`lower_skip`); else `pass_block` passes them
-- and gives the new bound (`lower_pass`).
use Prim.Native.Nat.{◌*◌, min}
use Rattle.graph.specs.Path.{Weights}
use Rattle.pairs_rows.specs.Rows.{block}
use Rattle.pairs_fronts.specs.Fronts.{Lower}
use Rattle.pairs_passing.proofs.pass_lower.Given as goal

-- the blocks before b are taken in
abbrev pub invariant-loop-b : goal.invariant-loop-b
invariant-loop-b l =
    (w : Weights)
    → Lower w l.n l.r.0 0 l.records.pairs.now l.records.times.now l.initial.cursor l.initial.ahead l.ends l.initial.soon
    l.initial.ups l.initial.downs l.initial.touched
    → Lower w l.n l.r.0 (min l.r.0 (block * l.b)) l.records.pairs.now l.records.times.now l.cursor l.ahead l.ends l.soon
    l.ups l.downs l.touched
