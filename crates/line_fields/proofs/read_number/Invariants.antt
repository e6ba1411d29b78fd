-- The digits that the loop has passed make v (`Passed`).
use Rattle.line_fields.proofs.Numbers.{Passed}
use Rattle.line_fields.proofs.read_number.Given as goal

abbrev pub invariant-loop-b : goal.invariant-loop-b
invariant-loop-b l = Passed l.s l.b-index l.v
