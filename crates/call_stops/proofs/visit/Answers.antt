-- visit: what its loop keeps stands in Invariants.antt.
use Rattle.std.specs.Prelude.{◌≡◌, Ok}
use Rattle.std.proofs.Common.{rules}
use Rattle.std.proofs.Math.Option.{none}
use Rattle.unit_answers.specs.Shape.{answer_in}
use Rattle.unit_answers.specs.declared.Answer.TheVariants.{Gone}
use Rattle.calls.specs.Shape.{Handed, held}
use Rattle.call_stops.proofs.OnWay.{gone_total}
use Rattle.call_stops.proofs.Turns.{turn-again, turn_end, turn-lost, turn-start}
use Rattle.call_stops.proofs.visit.Goals as goal
use Rattle.call_stops.proofs.visit.Goals.{After-leg-made, in_default-via-in-Ok+in_default, in_default-via-in_default}

-- what a leg handed back
abbrev met : After-leg-made → Handed
met c = record { header = held c.args.sizes c.leg-made.result.target; answer = c.leg-made.result.answer }

-- ---- the answers

pub loop-i-init : goal.loop-i-init
loop-i-init c = turn-start

-- it has no path
pub returns-in_default : goal.returns-in_default
returns-in_default c =
    let lost : gone_total (answer_in c.leg-made.result.answer) ≡ none =
    elim c.in_default.branch [
      | in_default-via-in-Ok+in_default w ↦ search rules
      | in_default-via-in_default w ↦ search rules
    ] in
    turn-lost (met (goal.at.returns-in_default c).After-leg-made) c.loop-i-test.true c.loop-i.invariant c.leg-made.ensures lost
    c.refused.ensures

pub loop-i-preserved : goal.loop-i-preserved
loop-i-preserved c =
    let kept = c.leg-made.auto in
    let gone : c.leg-made.result.answer ≡ Ok (Gone c.in-Ok-Gone.total c.in-Ok-Gone.field-0-1 c.in-Ok-Gone.k) = search rules in
    turn-again (met (goal.at.loop-i-preserved c).After-leg-made) c.loop-i-test.true c.loop-i.invariant c.leg-made.ensures
    c.requires.many gone kept.down kept.estimates kept.elapsed kept.route kept.log c.plus-whole.ensures c.min-at.ensures

pub returns : goal.returns
returns c = turn_end c.requires.many c.loop-i-test.false c.loop-i.invariant
