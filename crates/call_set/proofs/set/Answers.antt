-- A refusal leaves the live times as they were (`refused`); otherwise the one live time is written (`set-made`).
use Rattle.std.proofs.Common.{ap, arith}
use Rattle.std.specs.Prelude.{None, Option, refl}
use Rattle.model.specs.Calls.{Set}
use Rattle.network.specs.declared.Junction.{Junction}
use Rattle.unit_questions.specs.Lending.{lengths_in}
use Rattle.calls.specs.Shape.{handed, held}
use Rattle.calls.specs.Made.{CallPassed, call-passed, refused, same_live}
use Rattle.calls.specs.Rows.{handed_on}
use Rattle.call_set.proofs.Made.{set_below, set-made}
use Rattle.call_set.proofs.set.Goals as goal
use Rattle.call_set.proofs.set.Goals.{In_ok-set_asked}

-- no question refuses
passed : (c : In_ok-set_asked) (t : Option Junction) → let a = c.args in
    CallPassed a.card.now (held a.sizes t) (lengths_in a.l) (Set a.road a.time.0)
passed c t = call-passed c.in_ok-set_asked.was (c.set_asked.ensures t)

pub bounds-live-road : goal.bounds-live-road
bounds-live-road c =
    let p = passed (goal.at.bounds-live-road c).In_ok-set_asked None in
    omega (arith, set_below p, p.sizes.lengths.live, c.requires)

pub returns-in_err-set_asked : goal.returns-in_err-set_asked
returns-in_err-set_asked c t b lengths-are live-is k =
    let h = held c.args.sizes t in
    same_live (refused {h = h} lengths-are c.in_err-set_asked.was (c.set_asked.ensures t)
    (ap (handed h) (handed_on c.from_residual.ensures.1))) live-is

pub returns : goal.returns
returns c t b lengths-are live-is k =
    set-made {h = held c.args.sizes t} lengths-are (passed (goal.at.returns c).In_ok-set_asked t) live-is refl refl
