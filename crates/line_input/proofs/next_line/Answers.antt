-- Each step goes on with the line or ends it (`Turned`, `turned`), and leaves fewer steps. Where no step more is to be made, the line is
-- the next one (`turned-end`).
use Rattle.std.proofs.Common.{◌∙◌, sym}
use Rattle.line_input.proofs.Turns.{anew, turned, turned-end, turned-start}
use Rattle.line_input.proofs.next_line.Goals as goal

pub loop-input-init : goal.loop-input-init
loop-input-init g c = turned-start c.args.from.ended

pub loop-input-preserved : goal.loop-input-preserved
loop-input-preserved g c =
    turned (sym c.waits.ensures ∙ c.loop-input-test.true) c.loop-input.invariant c.step-r.ensures

pub returns : goal.returns
returns g c = anew (turned-end (sym c.waits.ensures ∙ c.loop-input-test.false) c.loop-input.invariant)
