-- A closed road asks no one, and a head that is no junction does not occur in a map; else the head's estimate is known, or it is asked
-- (`head-closed`, `head_far`, `head-known`, `head_open`).
use native.Mathlib.Omega.{arith}
use mathlib.Core.Path.{◌∙◌, ap, refl, sym}
use mathlib.Core.Bool.{not}
use Rattle.search_junctions.specs.Views.{met}
use Rattle.search_junctions.proofs.Opens.{OpenRoad}
use Rattle.search_junctions.proofs.Heads.{head-closed, head_far, head-known, head_open, known-word}
use Rattle.search_junctions.proofs.ask_head.Goals as goal
use Rattle.search_junctions.proofs.ask_head.Goals.{Else-trip-head}

-- the road, once its words are read
open-road : (c : Else-trip-head) → let args = c.args in
    let ways = args.atlas.now.ways in
    OpenRoad args.trip.sizes ways.roads.now (met args.trip ways.access.now ways.live.now) args.i
    c.time_of-time.result.0
    c.head_of-head.result.0
open-road c = record {
  road_in = c.requires.0;
  time-is = c.time_of-time.ensures;
  open_is = sym c.is_closed.ensures ∙ c.if-is_closed.false;
  head-is = c.head_of-head.ensures;
  head_in = omega (arith, c.if-trip-head.false);
}

pub time_of-time-requires : goal.time_of-time-requires
time_of-time-requires c =
    omega (arith, c.requires.0, c.requires.1.live-is)

pub returns-then-is_closed : goal.returns-then-is_closed
returns-then-is_closed c =
    head-closed c.time_of-time.ensures (sym c.is_closed.ensures ∙ c.if-is_closed.true)

pub returns-then-trip-head : goal.returns-then-trip-head
returns-then-trip-head c =
    head_far c.requires.0 c.head_of-head.ensures c.if-trip-head.true

pub returns-then-not-is_unasked : goal.returns-then-not-is_unasked
returns-then-not-is_unasked c =
    head-known (open-road (goal.at.returns-then-not-is_unasked c).Else-trip-head)
    (known-word refl c.is_unasked.ensures (ap not c.if-not-is_unasked.true))

pub estimate-requires : goal.estimate-requires
estimate-requires c =
    ((open-road (goal.at.estimate-requires c).Else-trip-head).head_in, c.requires.1.over)

pub returns : goal.returns
returns c = head_open (open-road (goal.at.returns c).Else-trip-head) c.estimate.ensures
