-- A closed road offers nothing, and a head that is no junction does not occur in a map; else the head takes the offer, its estimate being
-- known (`road-closed`, `road_far`, `road_open`).
use native.Mathlib.Omega.{arith}
use mathlib.Core.Path.{◌∙◌, refl, sym}
use Rattle.search_junctions.specs.Views.{met}
use Rattle.search_junctions.proofs.Opens.{OpenRoad}
use Rattle.search_junctions.proofs.Roads.{road-closed, road_far, road_open}
use Rattle.search_junctions.proofs.relax_road.Goals as goal

pub returns-then-is_closed-clause-relaxed : goal.returns-then-is_closed-clause-relaxed
returns-then-is_closed-clause-relaxed c =
    let (road_in, _, room) = c.requires in
    road-closed road_in c.time_of-cost.ensures (sym c.is_closed.ensures ∙ c.if-is_closed.true) room.ordered

pub returns-then-trip-head-clause-relaxed : goal.returns-then-trip-head-clause-relaxed
returns-then-trip-head-clause-relaxed c =
    let (road_in, _, room) = c.requires in
    road_far road_in c.head_of-head.ensures c.if-trip-head.true room.ordered

pub returns-clause-relaxed : goal.returns-clause-relaxed
returns-clause-relaxed c =
    let args = c.args in
    let ways = args.ways.now in
    let open-road : OpenRoad args.trip.sizes ways.roads.now (met args.trip ways.access.now ways.live.now) args.i
    c.time_of-cost.result.0
    c.head_of-head.result.0 = record {
      road_in = c.requires.0;
      time-is = c.time_of-cost.ensures;
      open_is = sym c.is_closed.ensures ∙ c.if-is_closed.false;
      head-is = c.head_of-head.ensures;
      head_in = omega (arith, c.if-trip-head.false);
    } in
    road_open open-road refl c.plus-offer.ensures (rw c.requires.2.n-is at c.take.ensures.taken)
