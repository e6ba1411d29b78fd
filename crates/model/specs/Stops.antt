-- A list of stops (document 02, A3): "Buses call at 2 to 32 junctions in a fixed order, repeats allowed." Definitions only.
use Rattle.std.specs.Prelude.{◌≡◌, Bool, ◌&&◌, false, true, List, [], ◌++◌, ◌∷◌, ◌*◌, ◌+◌, ◌<◌, ◌≤◌, suc, ℕ, leb, ltb, drop, get_or, length}
use Rattle.std.specs.Prelude.{take}
use Rattle.std.proofs.Math.Option.{Option, none, some}
use Rattle.graph.specs.Total.{Total}
use Rattle.graph.specs.Route.{Leads, total_over}
use Rattle.graph.specs.Search.{route_of, total_of}
use Rattle.graph.specs.Stops.{Meeting}
use Rattle.graph.specs.Map.{Map, live_net, time_of}
use Rattle.model.specs.Types.{Answer, Leg, LentLengths, NoJunction, NoLeg, Refusal, Refused, StopCount, Stopped}
use Rattle.model.specs.Limits.{fewest_stops, most_stops}
use Rattle.model.specs.Classes.{class_live, class_times}
use Rattle.model.specs.Card.{CardMap, ask}
use Rattle.model.specs.State.{Lent, State, Step, leaving}
use Rattle.model.specs.Machine.{Known, LivePath, Machine, Told, known_to}
use Rattle.model.specs.Aim.{aim_made, aim_told}
use Rattle.model.specs.Go.{ask_class, effort, effort_log, go_made, go_told, reached_estimated, search_of, within_total}

-- ---- what is asked: a class and the stops; route and log are lent with it

-- every stop is below n
abbrev pub all_below : ℕ → List ℕ → Bool
all_below n [] = true
all_below n (v ∷ stops) = ltb v n && all_below n stops

-- 16: "if the list's length is wrong"; 18 (document 02, A6: "in a stop list after 16"); then 12; 14 "if the route area has fewer than
-- stops × n entries or the log fewer than n"
unfoldable pub stops_refusal : Known → (class : ℕ) → (stops : List ℕ) → (route log : ℕ) → Option Refusal
stops_refusal k c stops r l =
    ask (leb fewest_stops (length stops) && leb (length stops) most_stops) StopCount
    (ask_class c
    (ask (all_below k.n stops) NoJunction
    (ask (leb (length stops * k.n) r && leb k.n l) LentLengths none)))

-- ---- what it answers and leaves

-- what the legs leave, and their totals and numbers of roads; they end with the last one, or at one that has no chain
pub record Journey : Type 0 where
  pub state : State
  pub lent : Lent
  pub legs : List Leg
  pub complete : Bool

-- "the legs' roads follow one another in the lent area": what is lent to the legs after one of k roads
abbrev pub past : (k : ℕ) → Lent → Lent
past k l = record { route = drop k l.route; log = l.log }

-- a leg of total t and k roads that left u, and the journey on from there
abbrev pub with_leg : Total → (k : ℕ) → Step → Journey → Journey
with_leg none k u j = record { state = u.state; lent = u.lent; legs = []; complete = false }
with_leg (some t) k u j = record {
  state = j.state;
  lent = record { route = take k u.lent.route ++ j.lent.route; log = j.lent.log };
  legs = record { total = t; roads = k } ∷ j.legs;
  complete = j.complete;
}

-- "Each leg is an aim and a go": from a to b
abbrev pub leg_made : CardMap → (class : ℕ) → State → (a b : ℕ) → Lent → Step
leg_made C c s a b l = go_made C (aim_made C.map s b l).state c a l

-- "every area and the target are left so, up to the last leg or the failing one"
abbrev pub journey : CardMap → (class : ℕ) → State → (from : ℕ) → (stops : List ℕ) → Lent → Journey
journey C c s a [] l = record { state = s; lent = l; legs = []; complete = true }
journey C c s a (b ∷ stops) l =
    let G = search_of C.map (class_times C.access c s.areas.live) a b in
    let k = length (route_of G) in
    let u = leg_made C c s a b l in
    with_leg (total_of G) k u (journey C c u.state b stops (past k u.lent))

-- "the whole total"
abbrev pub whole_of : List Leg → ℕ
whole_of [] = 0
whole_of (x ∷ legs) = x.total + whole_of legs

-- "each leg's total and number of roads, and the whole total"; "last 17 with the first leg, from 0, that has no chain"
abbrev pub stops_answer : (complete : Bool) → List Leg → Answer
stops_answer true legs = Stopped legs (whole_of legs)
stops_answer false legs = Refused (NoLeg (length legs))

abbrev pub stops_made : CardMap → State → (class : ℕ) → (stops : List ℕ) → Lent → Step
stops_made C s c stops l =
    let j = journey C c s (get_or stops 0 0) (drop 1 stops) l in
    record { answer = stops_answer j.complete j.legs; state = j.state; lent = j.lent }

-- ---- what the plain machine does: leg by leg an aim and a go of its own

pub record PlainJourney : Type 0 where
  pub next : Machine
  pub roads : List ℕ
  pub log : List ℕ
  pub legs : List Leg
  pub complete : Bool

abbrev pub plain_leg : Total → Told → PlainJourney → PlainJourney
plain_leg none t j = record { next = t.next; roads = []; log = t.log; legs = []; complete = false }
plain_leg (some x) t j = record {
  next = j.next;
  roads = t.roads ++ j.roads;
  log = j.log;
  legs = record { total = x; roads = length t.roads } ∷ j.legs;
  complete = j.complete;
}

abbrev pub leg_told : CardMap → (class : ℕ) → Machine → (a b : ℕ) → Told
leg_told C c m a b = go_told C (aim_told m b).next c a

-- the log that it gives is that of the last leg made; `log` is that of the leg before
abbrev pub plain_journey : CardMap → (class : ℕ) → Machine → (log : List ℕ) → (from : ℕ) → (stops : List ℕ) → PlainJourney
plain_journey C c m log a [] = record { next = m; roads = []; log = log; legs = []; complete = true }
plain_journey C c m log a (b ∷ stops) =
    let t = leg_told C c m a b in
    plain_leg (time_of C.map (class_live C.access c m.live) a b) t (plain_journey C c t.next t.log b stops)

abbrev pub stops_told : CardMap → Machine → (class : ℕ) → (stops : List ℕ) → Told
stops_told C m c stops =
    let j = plain_journey C c m [] (get_or stops 0 0) (drop 1 stops) in
    record { answer = stops_answer j.complete j.legs; roads = j.roads; log = j.log; next = j.next }

-- ---- what is right about it

-- a leg from a to b, whose roads stand first in `area`
pub record LegRight (M : Map) (live : ℕ → Total) (a b : ℕ) (leg : Leg) (area : List ℕ) : Type 0 where
  pub leads : Leads (live_net M live) a (take leg.roads area) b
  pub total : total_over (live_net M live) (take leg.roads area) ≡ some leg.total
  pub least : (t : ℕ) → LivePath M live a b t → leg.total ≤ t

-- each leg's part of the route area, one after the other
abbrev pub LegsRight : Map → (ℕ → Total) → (from : ℕ) → (stops : List ℕ) → List Leg → (area : List ℕ) → Type 0
LegsRight M live a [] [] area = Unit {0}
LegsRight M live a [] (x ∷ legs) area = ⊥
LegsRight M live a (b ∷ stops) [] area = ⊥
LegsRight M live a (b ∷ stops) (x ∷ legs) area =
    LegRight M live a b x area × LegsRight M live b stops legs (drop x.roads area)

-- document 02, A5, of a leg from a to b: its log, of the junctions that pass the test, stands first in the log area
abbrev pub LegLogged : Map → (ℕ → Total) → (a b : ℕ) → (ℕ → Bool) → (area : List ℕ) → Type 0
LegLogged M live a b p area = take (effort M p) area ≡ effort_log M live a b p

-- leg k, from 0, of total T; and one without a chain
abbrev pub FoundLogged : Map → (ℕ → Total) → (stops : List ℕ) → (k T : ℕ) → (area : List ℕ) → Type 0
FoundLogged M live stops k T =
    let a = get_or stops k 0 in
    let b = get_or stops (suc k) 0 in
    LegLogged M live a b (within_total M live a b T)

abbrev pub LostLogged : Map → (ℕ → Total) → (stops : List ℕ) → (k : ℕ) → (area : List ℕ) → Type 0
LostLogged M live stops k =
    let a = get_or stops k 0 in
    let b = get_or stops (suc k) 0 in
    LegLogged M live a b (reached_estimated M live a b)

-- leg k of some
abbrev pub leg_at : List Leg → ℕ → Leg
leg_at legs k = get_or legs k (record { total = 0; roads = 0 })

-- all legs, the whole, and the log of the last leg
pub record JourneyRight (M : Map) (live : ℕ → Total) (stops : List ℕ) (legs : List Leg) (whole : ℕ) (areas : Lent) : Type 0 where
  pub legs-right : LegsRight M live (get_or stops 0 0) (drop 1 stops) legs areas.route
  pub whole_is : whole ≡ whole_of legs
  -- "The whole is at most that of every other chain of open roads that meets the stops in that order, at the live times in force."
  pub at_most : (t : ℕ) → Meeting (live_net M live) stops t → whole ≤ t
  -- of which the legs' roads, one after the other, are one
  pub attained : Meeting (live_net M live) stops whole
  -- the log area holds the last leg's log
  pub log : (k : ℕ) → suc k ≡ length legs → FoundLogged M live stops k (leg_at legs k).total areas.log

-- leg k, from 0, has no chain of open roads
abbrev pub NoChain : Map → (ℕ → Total) → (stops : List ℕ) → (k : ℕ) → Type 0
NoChain M live stops k = (t : ℕ) → LivePath M live (get_or stops k 0) (get_or stops (suc k) 0) t → ⊥

-- and it is the first such leg
pub record FirstLost (M : Map) (live : ℕ → Total) (stops : List ℕ) (k : ℕ) : Type 0 where
  pub inside : suc k < length stops
  pub lost : NoChain M live stops k
  pub first : (i : ℕ) → i < k → NoChain M live stops i → ⊥

-- a journey that leg k ended, and the log of that leg
pub record StrandedRight (M : Map) (live : ℕ → Total) (stops : List ℕ) (k : ℕ) (areas : Lent) : Type 0 where
  pub first-lost : FirstLost M live stops k
  -- so no chain of open roads meets the stops
  pub none-meets : (t : ℕ) → Meeting (live_net M live) stops t → ⊥
  pub log : LostLogged M live stops k areas.log

-- at these times; `passed` if no question refuses the list
pub record ListRight (M : Map) (live : ℕ → Total) (passed : Type 0) (stops : List ℕ) (u : Step) : Type 0 where
  pub found : (legs : List Leg) (whole : ℕ) → u.answer ≡ Stopped legs whole → JourneyRight M live stops legs whole u.lent
  -- 17 exactly with the first leg that has no chain
  pub lost : (k : ℕ) → u.answer ≡ Refused (NoLeg k) → StrandedRight M live stops k u.lent
  pub told : passed → (k : ℕ) → FirstLost M live stops k → u.answer ≡ Refused (NoLeg k)

-- document 02, A6: over open roads of the class
abbrev pub StopsRight : CardMap → Machine → (class : ℕ) → (stops : List ℕ) → Lent → Step → Type 0
StopsRight C m c stops l u =
    let passed = stops_refusal (known_to C.map m) c stops (length l.route) (length l.log) ≡ none in
    ListRight C.map (class_live C.access c m.live) passed stops u

-- ---- what it leaves in any state whose lengths fit: another target, down totals, estimates and elapsed, beside what it is lent

pub record StopsWrites (s : State) (r : Step) : Type 0 where
  pub leaves : r.state ≡ leaving s r.state.header.target s.areas.live r.state.areas.aimed r.state.areas.trip
