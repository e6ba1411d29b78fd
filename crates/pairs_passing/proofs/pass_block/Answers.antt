-- A rank whose high ahead is r is passed (`scanned_pass`), another skipped (`scanned_skip`).
use Prim.Native.Nat.{◌<◌}
use mathlib.Core.Path.{◌∙◌, sym}
use Rattle.pairs_rows.specs.Steps.{lt_le}
use Rattle.pairs_passing.proofs.Blocks.{scanned_end, scanned_pass, scanned_skip}
use Rattle.pairs_passing.proofs.pass_block.Goals as goal
use Rattle.pairs_passing.proofs.pass_block.Goals.{else-high-r, then-high-r}

pub loop-v-preserved : goal.loop-v-preserved
loop-v-preserved c =
    let below-r : c.loop-v.v < c.args.r.0 = lt_le c.loop-v-test.true c.requires.2 in
    let inv = c.loop-v.invariant in
    elim c.if-high-r.branch [
      | then-high-r w ↦
          let passed = w.pass_rank-next.ensures in
          rw (w.cursor-is, w.ahead-is, w.ups-is, w.downs-is, w.touched-is) (λ u s.
          scanned_pass (inv u s) below-r (w.next-is ∙ passed.ahead) c.min-bound.ensures (passed.passed u (inv u s).stage))
      | else-high-r w ↦
          rw (w.cursor-is, w.ahead-is, w.ups-is, w.downs-is, w.touched-is) (λ u s.
          scanned_skip (inv u s) below-r w.next-is (λ q. w.if-high-r.false (sym w.next-is ∙ q)) c.min-bound.ensures)
    ]

pub returns : goal.returns
returns c =
    λ w s. scanned_end (c.loop-v.auto.v-end c.requires.1) c.loop-v-test.false (c.loop-v.invariant w s)
