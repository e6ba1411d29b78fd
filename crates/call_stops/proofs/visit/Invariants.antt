-- Each turn makes one leg on the part of the route area behind the roads so far, and notes its total and number of roads (`turn-again`); a
-- leg without a path ends the list (`turn-lost`), and so does the last stop (`turn_end`).
use Rattle.model.specs.Areas.{areas_of}
use Rattle.model.specs.Promises.{before}
use Rattle.unit_questions.specs.Lending.{lent_of}
use Rattle.calls.specs.Shape.{header_in, held}
use Rattle.call_stops.proofs.Turns.{AtLeg}
use Rattle.call_stops.proofs.visit.Given as goal

abbrev pub invariant-loop-i : goal.invariant-loop-i
invariant-loop-i l =
    AtLeg l.p.card.now l.class l.stops l.number
    (before (header_in (held l.sizes l.initial.t)) (areas_of l.p.ranks.now l.p.pairs.now l.p.times.now l.live l.initial.down
    l.initial.estimates l.initial.elapsed l.p.leaving.now l.p.groups.now)) (lent_of l.initial.route l.initial.log)
    (before (header_in (held l.sizes l.t)) (areas_of l.p.ranks.now l.p.pairs.now l.p.times.now l.live l.down l.estimates l.elapsed
    l.p.leaving.now l.p.groups.now))
    (lent_of l.route l.log) l.totals l.roads l.whole.0 l.at l.i
