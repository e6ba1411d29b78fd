-- A byte that is left is taken (`step_takes`); where none is left, or the chunk is shorter than the reader says, the next chunk is read
-- (`step-reads`).
use Rattle.std.proofs.Common.{inl, inr}
use Rattle.line_input.proofs.Steps.{step-reads, step_takes}
use Rattle.line_input.proofs.step.Goals as goal
use Rattle.line_input.proofs.step.Goals.{else-r-via-else-r, else-r-via-then-r+else-r-chunk}

pub returns-then-r-chunk : goal.returns-then-r-chunk
returns-then-r-chunk g c = step_takes c.if-r.true c.if-r-chunk.true c.take_one.ensures

pub returns : goal.returns
returns g c = elim c.else-r.branch [
  | else-r-via-then-r+else-r-chunk w ↦ step-reads (inr w.if-r-chunk.false) c.refill.ensures
  | else-r-via-else-r w ↦ step-reads (inl w.if-r.false) c.refill.ensures
]
