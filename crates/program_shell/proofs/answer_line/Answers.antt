-- An unreadable line is answered by `no 0`, with nothing altered (`unreadable-way`); a readable one by what its call answers, and the call
-- leaves what it left (`call-way`). Each text fits in `out`.
use Rattle.std.proofs.Common.{◌∙◌}
use Rattle.model.specs.State.{State}
use Rattle.model.specs.Promises.{before}
use Rattle.unit_questions.specs.Lending.{lent_of}
use Rattle.unit.specs.Shape.{header_in}
use Rattle.program_shell.specs.Answering.{areas_at}
use Rattle.program_shell.proofs.Bounds.{at_most, room}
use Rattle.program_shell.proofs.Lines.{call-way, counted, unreadable-way}
use Rattle.program_shell.proofs.answer_line.Goals as goal

pub returns-in_default : goal.returns-in_default
returns-in_default c =
    let a = c.args in
    let state : State = before (header_in a.header) (areas_at a.p a.live.now a.down.now a.estimates.now a.elapsed.now) in
    let written = c.write_unreadable in (
      unreadable-way a.line.now c.read_line.ensures (room c.told-out) a.p.card.now state (lent_of a.route.now a.log.now) c.in_default.is
          written.ensures,
      counted written.ensures written.auto.out,
    )

pub returns : goal.returns
returns c =
    let written = c.write_answer in (
      call-way c.args.line.now c.read_line.ensures (room c.told-out) c.in-Some.is (c.told-route, c.told-log)
          (at_most (c.call-called.auto.route ∙ c.told-route)) c.call-called.ensures written.ensures,
      counted written.ensures written.auto.out,
    )
