-- A block whose bound is at most r is passed (`lower_pass`), another skipped (`lower_skip`).
use Prim.Native.Nat.{◌*◌, ◌<◌}
use Rattle.graph.specs.Path.{Weights}
use Rattle.pairs_rows.specs.Rows.{block}
use Rattle.pairs_fronts.specs.Fronts.{Lower}
use Rattle.pairs_passing.proofs.Blocks.{block-begins, block-below, block-next, blocks-end, lower_pass, lower_skip}
use Rattle.pairs_passing.proofs.pass_lower.Goals as goal
use Rattle.pairs_passing.proofs.pass_lower.Goals.{In-loop-b, else-soon-b, then-soon-b}

-- the block of this turn begins below r
begins-below : (c : In-loop-b) → block * c.loop-b.b < c.args.r.0
begins-below c = block-below _ _ c.div_ceil-b-end.ensures c.loop-b-test.true

pub loop-b-preserved : goal.loop-b-preserved
loop-b-preserved c =
    let a = c.args in
    let l = c.loop-b in
    let r = a.r.0 in
    let below = begins-below (goal.at.loop-b-preserved c).In-loop-b in
    let pairs = a.records.pairs.now in
    let times = a.records.times.now in
    let before : (u : Weights)
    → Lower u a.n r 0 pairs times a.cursor.now a.ahead.now a.ends.now a.soon.now a.ups.now a.downs.now a.touched.now
    → Lower u a.n r (block * l.b) pairs times l.cursor l.ahead a.ends.now l.soon l.ups l.downs l.touched
    = λ u s. rw (block-begins r l.b below) at (l.invariant u s) in
    elim c.if-soon-b.branch [
      | then-soon-b w ↦
          rw (w.cursor-is, w.ahead-is, w.soon-is, w.ups-is, w.downs-is, w.touched-is) (λ u s.
          rw (← (block-next r l.b c.min-to.ensures)) (lower_pass l.b (before u s) below c.min-to.ensures
          (w.pass_block.ensures u (before u s).stage)))
      | else-soon-b w ↦
          rw (w.cursor-is, w.ahead-is, w.soon-is, w.ups-is, w.downs-is, w.touched-is) (λ u s.
          rw (← (block-next r l.b c.min-to.ensures)) (lower_skip l.b (before u s) below c.min-to.ensures w.if-soon-b.false))
    ]

pub returns : goal.returns
returns c =
    λ w s. rw (blocks-end c.args.r.0 c.loop-b.b c.div_ceil-b-end.ensures c.loop-b-test.false) at (c.loop-b.invariant w s)
