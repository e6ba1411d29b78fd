-- A card that is not read is refused by its first question that says no (`asked-unread`); of one that is read the lengths are asked, by its
-- numbers (`asked-passes`, `asked_7`).
use Rattle.std.proofs.Common.{arith}
use Rattle.std.specs.Prelude.{refl}
use Rattle.model.specs.Types.{AreaLengths}
use Rattle.calls.specs.Rows.{handed_on, passes}
use Rattle.unit_switch_on.proofs.Prepares.{asked_7, asked-passes, asked-unread, word-long}
use Rattle.unit_switch_on.proofs.ask.Goals as goal

pub returns-in_err-n : goal.returns-in_err-n
returns-in_err-n c a e = rw (handed_on c.from_residual.ensures.1) (asked-unread c.args.card.now a c.in_err-n.ensures)

pub overflow_cast-s : goal.overflow_cast-s
overflow_cast-s c = omega (arith, word-long c.args.card.now c.in_ok-n.ensures)

pub returns-in_err-ask : goal.returns-in_err-ask
returns-in_err-ask c a e =
    rw (handed_on c.from_residual-in_err-ask.ensures.1)
    (asked_7 c.args.card.now a c.in_ok-n.ensures e c.lengths_fit.ensures c.in_err-ask.ensures)

pub returns : goal.returns
returns c a e =
    asked-passes c.args.card.now a c.in_ok-n.ensures e c.lengths_fit.ensures (passes AreaLengths c.in_ok-ask.ensures refl)
