-- Each step goes on with the line or ends it (`Turned`), and leaves fewer steps.
use Rattle.line_input.proofs.Turns.{Turned}
use Rattle.line_input.proofs.next_line.Given as goal

abbrev pub invariant-loop-input : goal.invariant-loop-input
invariant-loop-input g l = Turned l.initial.r l.initial.chunk l.r l.chunk l.line

abbrev pub decreases-loop-input : goal.decreases-loop-input
decreases-loop-input g l = l.r.turns
