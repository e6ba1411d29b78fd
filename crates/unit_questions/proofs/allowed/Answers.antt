-- The mark of a closed road is allowed (`allowed-closed`); any other time is tested as the definition has it (`allowed_open`).
use Rattle.unit_questions.proofs.Answers.{allowed-closed, allowed_open}
use Rattle.unit_questions.proofs.allowed.Goals as goal

pub returns-then-is_closed : goal.returns-then-is_closed
returns-then-is_closed c =
    let a = c.args in
    allowed-closed a.base.0 a.t.0 c.is_closed.ensures c.if-is_closed.true

pub returns : goal.returns
returns c =
    let a = c.args in
    allowed_open a.base.0 a.t.0 c.is_closed.ensures c.if-is_closed.false
