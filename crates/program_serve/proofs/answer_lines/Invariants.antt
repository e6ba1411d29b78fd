-- The turns have led from what was at hand first, when the first line was read, to what is at hand now (`Underway`). Each leaves fewer
-- steps
-- to read with.
use Rattle.std.proofs.Common.{◌≡◌, List, length, ℕ}
use Rattle.unit_questions.specs.Lending.{lent_of}
use Rattle.line_input.specs.Input.{NextLine}
use Rattle.line_input.specs.declared.Reader.{Reader}
use Rattle.program_shell.specs.Answering.{Held, areas_at}
use Rattle.program_serve.specs.Serving.{held_in}
use Rattle.program_serve.proofs.Talks.{Underway, steps_left}
use Rattle.program_serve.proofs.answer_lines.Given as goal

abbrev pub invariant-loop-l : goal.invariant-loop-l
invariant-loop-l g l =
    let o = l.initial in
    let first : Held = held_in o.l (areas_at l.p o.live o.down o.estimates o.elapsed) (lent_of o.route o.log) o.out in
    let now : Held = held_in l.l (areas_at l.p l.live l.down l.estimates l.elapsed) (lent_of l.route l.log) l.out in
    record {
      said : l.l.said ≡ length now.text;
      underway : (from : Reader) (start : List ℕ) → NextLine from start o.l.reader o.chunk o.line
          → Underway l.p.card.now first from start now l.l.reader l.chunk l.line;
    }

abbrev pub decreases-loop-l : goal.decreases-loop-l
decreases-loop-l g l = steps_left l.l.reader
