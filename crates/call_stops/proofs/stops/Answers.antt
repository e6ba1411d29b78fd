-- A refusal leaves all as it was (`stops-refused`); otherwise the legs are the callee's (`stops-met`).
use Rattle.std.specs.Prelude.{◌≡◌, Ok}
use Rattle.model.specs.Promises.{base_on}
use Rattle.unit_questions.specs.Lending.{lengths_in, lent_of}
use Rattle.calls.specs.Shape.{header_in, held}
use Rattle.call_stops.proofs.Whole.{ListPassed, list_passed, room_for, stops-met, stops-refused}
use Rattle.call_stops.proofs.stops.Goals as goal
use Rattle.call_stops.proofs.stops.Goals.{After-stops_asked}

-- no question refuses
passed : (c : After-stops_asked) → c.stops_asked.result ≡ Ok tt → let a = c.args in
    ListPassed a.p.card.now (header_in (held a.sizes a.target)) (lengths_in c.lengths-l.result) a.class a.stops.now
    (lent_of a.route.now a.log.now)
passed c passes = list_passed passes (c.stops_asked.ensures (base_on c.args.p.card.now))

-- ---- the answers

pub visit-requires : goal.visit-requires
visit-requires c = room_for (passed (goal.at.visit-requires c).After-stops_asked c.in-Ok.is)

pub returns-in-Err : goal.returns-in-Err
returns-in-Err c =
    let a = c.args in
    stops-refused (held a.sizes a.target) c.lengths-l.ensures c.in-Err.is (c.stops_asked.ensures (base_on a.p.card.now))
    c.refused.ensures

pub returns-in-Ok : goal.returns-in-Ok
returns-in-Ok c =
    let a = c.args in
    stops-met (held a.sizes a.target) c.lengths-l.ensures (passed (goal.at.returns-in-Ok c).After-stops_asked c.in-Ok.is)
    c.visit.ensures
