-- A list of stops from a good state, by induction over the stops: each leg is a go whose laws GoProof has. The plain machine makes the same
-- legs (`stops-told`), they are right and so is the whole (`stops-right`), and the two lent areas keep their lengths (`stops-lengths`).
-- Assumes nothing.
use Rattle.std.proofs.Common.{◌∙◌, ap, ap₂, subst, length-append, length-drop, length-take-le, not-suc-le-zero, arith}
use Rattle.std.specs.Prelude.{◌≡◌, Bool, ◌&&◌, false, true, List, [], ◌++◌, ◌∷◌, ◌*◌, ◌<◌, ◌≤◌, suc, zero, ℕ, leb, ltb, drop, get_or}
use Rattle.std.specs.Prelude.{length, take}
use Rattle.std.proofs.Math.Path.{refl, sym}
use Rattle.std.proofs.Math.Option.{Option, none, some}
use mathlib.Core.List.Memᴰ
use Rattle.std.proofs.Math.Seq.{drop-append_seam, take-append-add, take-append_seam}
use Rattle.std.proofs.Math.Decide.{dec_lt}
use Rattle.graph.specs.Total.{Total, ◌⊕◌}
use Rattle.graph.proofs.Total.{none-some, within, ⊕-some}
use Rattle.graph.specs.Least.{IsLeast}
use Rattle.graph.specs.Network.{Network}
use Rattle.graph.specs.Route.{Listed}
use Rattle.graph.proofs.Route.{leads-append, listed-least, listed-path, path-listed, total_over-append}
use Rattle.graph.specs.Search.{Problem, log_of, route_of, total_of, vertices}
use Rattle.graph.specs.Stops.{Below, Meeting, Meets, all-met, met-here, whole_from}
use Rattle.graph.proofs.Stops.{meets-append, whole-at_most}
use Rattle.graph.specs.Map.{Map, live_net, time_of}
use Rattle.graph.proofs.Map.{time_of-least}
use Rattle.graph.specs.Go.{Demand}
use Rattle.graph.specs.Effort.{Effort}
use Rattle.model.specs.Types.{Answer, Leg, LentLengths, NoClass, NoJunction, NoLeg, Refusal, Refused, StopCount, Stopped}
use Rattle.model.specs.Limits.{classes, fewest_stops, most_stops}
use Rattle.model.specs.Layout.{access_in}
use Rattle.model.specs.Classes.{access_of, class_live, class_times}
use Rattle.model.specs.Card.{card_map, map_on}
use Rattle.model.specs.State.{Lent, State, Step, first, unless}
use Rattle.model.specs.Machine.{Known, LivePath, Machine, known_to, least_base}
use Rattle.model.specs.Go.{found_told, go_route, live_of, plain_search, search_of}
use Rattle.model.specs.Stops.{FirstLost, FoundLogged, Journey, JourneyRight, LegRight, LegsRight, NoChain, PlainJourney}
use Rattle.model.specs.Stops.{StopsRight, StrandedRight, all_below, journey, leg_at, leg_made, past, plain_journey, plain_leg}
use Rattle.model.specs.Stops.{stops_answer, stops_made, stops_refusal, stops_told, whole_of, with_leg}
use Rattle.model.specs.Calls.{asked_of, step, stops_call}
use Rattle.model.specs.Demand3.{Same}
use Rattle.model.proofs.Laws.{first-take}
use Rattle.model.proofs.Accept.{card-facts}
use Rattle.model.specs.Good.{Good, StopsPassed, met_times}
use Rattle.model.proofs.Good.{after_9, aim-good, below_further, leg-good, met-good, met-lives}
use Rattle.model.proofs.Good.{stops-passed}
use Rattle.model.specs.GoProof.{SameLengths}
use Rattle.model.proofs.GoProof.{asked_is, asked-other, go-demand, go-figures, go-lengths, go-told, logged-first}
use Rattle.model.specs.GoProof.{machine_of}
use Rattle.model.proofs.GoProof.{refused-is, route-short, search_is, told-next, total-is}
use Rattle.model.specs.StopsProof.{Agree, Ended, arrived, left-off}

-- roads that stand first, and more that stand first after them
roads-follow : (r more area : List ℕ) → take (length more) area ≡ more → take (length (r ++ more)) (r ++ area) ≡ r ++ more
roads-follow r more area h = rw (length-append r more) (take-append-add r area (length more) ∙ ap (λ (l : List ℕ). r ++ l) h)

-- one leg, of the route r: the unit's left u, the machine's has the search P and leaves m; j and p are the journeys on from there
agree-leg : (x : Total) (P : Problem) (r : List ℕ) (m : Machine) (u : Step) (j : Journey) (p : PlainJourney)
    → r ≡ route_of P → m ≡ machine_of u.state → Same u (found_told x P m) → Agree j p
    → Agree (with_leg x (length r) u j) (plain_leg x (found_told x P m) p)
agree-leg none P r m u j p e next same on = record { legs = refl; complete = refl; next = next; roads = refl; log = same.log }
agree-leg (some t) P r m u j p e next same on =
    let first-roads : take (length r) u.lent.route ≡ route_of P = rw e same.roads in
    record {
      legs = rw (e, on.legs);
      complete = on.complete;
      next = on.next;
      roads = rw first-roads (roads-follow (route_of P) p.roads j.lent.route on.roads);
      log = on.log;
    }

-- the times in force on a card, as a class meets them
abbrev met_live : (card : List ℕ) → (class : ℕ) → State → ℕ → Total
met_live card c s = class_live (access_of (access_in card)) c (live_of s.areas.live)

module _ {card : List ℕ} {c : ℕ} (lc : c < classes) where
  -- of one leg: the unit's total is the machine's, and so is its route
  leg-total : {s : State} → Good card s → (a b : ℕ) → a < (map_on card).vertices → b < (map_on card).vertices
      → total_of (search_of (map_on card) (class_times (access_of (access_in card)) c s.areas.live) a b)
      ≡ time_of (map_on card) (met_live card c s) a b
  leg-total g a b la lb =
      total-is (met-good g c) a b la lb ∙ ap (λ (live : ℕ → Total). time_of (map_on card) live a b) (met-lives g c lc)

  leg-route : {s : State} → Good card s → (a b : ℕ) → b < (map_on card).vertices
      → route_of (search_of (map_on card) (class_times (access_of (access_in card)) c s.areas.live) a b)
      ≡ route_of (plain_search (map_on card) (met_live card c s) a b)
  leg-route g a b lb =
      (search_is (met-good g c) a b lb).1 ∙ ap (λ (live : ℕ → Total). route_of (plain_search (map_on card) live a b)) (met-lives g c lc)

  agree : (s : State) (log : List ℕ) (a : ℕ) (stops : List ℕ) (l : Lent) → Good card s → a < (map_on card).vertices
      → Below (map_on card).vertices stops → take (length log) l.log ≡ log
      → Agree (journey (card_map card) c s a stops l) (plain_journey (card_map card) c (machine_of s) log a stops)
  agree s log a [] l g la below h = record { legs = refl; complete = refl; next = refl; roads = refl; log = h }
  agree s log a (b ∷ stops) l g la below h =
      let C = card_map card in
      let M = map_on card in
      let live = met_live card c s in
      let lb = below b (Memᴰ.head refl) in
      let G = search_of M (class_times (access_of (access_in card)) c s.areas.live) a b in
      let P = plain_search M live a b in
      let k = length (route_of G) in
      let u = leg_made C c s a b l in
      let m = machine_of u.state in
      let t = found_told (time_of M live a b) P m in
      let same : Same u t = go-told (aim-good g b l lb) c a l lc la refl in
      let further : Below M.vertices stops = λ v w. below v (Memᴰ.tail w) in
      let on = agree u.state t.log b stops (past k u.lent) (leg-good g c a b l lb) lb further same.log in
      let j = journey C c u.state b stops (past k u.lent) in
      let next = told-next (time_of M live a b) P m in
      let p = plain_journey C c t.next t.log b stops in
      let on' : Agree j p = subst (λ (m' : Machine). Agree j (plain_journey C c m' t.log b stops)) (sym next) on in
      let leg = agree-leg (time_of M live a b) P (route_of G) m u j p (leg-route g a b lb) refl same on' in
      subst (λ (x : Total). Agree (with_leg x k u j) (plain_leg (time_of M live a b) t p)) (sym (leg-total g a b la lb)) leg

-- the first stop of a list that 16 and 12 passed
first_below : {n : ℕ} (stops : List ℕ) → fewest_stops ≤ length stops → Below n stops → get_or stops 0 0 < n
first_below [] few below = absurd (not-suc-le-zero few)
first_below (a ∷ stops) few below = below a (Memᴰ.head refl)

module _ {card : List ℕ} {s : State} (g : Good card s) (c : ℕ) (stops : List ℕ) (l : Lent)
    (q : StopsPassed g c stops (length l.route) (length l.log)) where
  stops-agree : Agree (journey (card_map card) c s (get_or stops 0 0) (drop 1 stops) l)
      (plain_journey (card_map card) c (machine_of s) [] (get_or stops 0 0) (drop 1 stops))
  stops-agree =
      let first = first_below stops q.fewest q.below in
      agree q.class s [] (get_or stops 0 0) (drop 1 stops) l g first (below_further stops q.below) refl

  -- a list of stops that no question refuses is the machine's
  pub stops-told : Same (stops_made (card_map card) s c stops l) (stops_told (card_map card) (machine_of s) c stops)
  stops-told =
      let a = stops-agree in
      record { answer = ap₂ stops_answer a.complete a.legs; roads = a.roads; log = a.log }

  -- and the machine goes on as the unit does
  pub stops-next : (stops_told (card_map card) (machine_of s) c stops).next ≡ machine_of (stops_made (card_map card) s c stops l).state
  stops-next = stops-agree.next

-- ---- lengths

-- a leg of k roads that keeps the lengths, and legs after it that keep those of what is lent to them
leg-lengths : (x : Total) (k : ℕ) (u : Step) (j : Journey) (l : Lent) → SameLengths u.lent l
    → ((t : ℕ) → x ≡ some t → (k ≤ length l.route) × SameLengths j.lent (past k u.lent)) → SameLengths (with_leg x k u j).lent l
leg-lengths none k u j l leg on = leg
leg-lengths (some t) k u j l leg on =
    let (room, rest) = on t refl in
    let whole = length-append (take k u.lent.route) j.lent.route in
    let done = length-take-le k u.lent.route (omega (arith, room, leg.route)) in
    let left = length-drop k u.lent.route in
    record { route = omega (arith, room, whole, done, left, leg.route, rest.route); log = rest.log ∙ leg.log }

module _ {card : List ℕ} where
  -- each leg has fewer than n roads, so n entries are left of the route for each leg to come
  pub journey-lengths : (c : ℕ) (s : State) (a : ℕ) (stops : List ℕ) (l : Lent) → Good card s → a < (map_on card).vertices
      → Below (map_on card).vertices stops → length stops * (map_on card).vertices ≤ length l.route
      → (map_on card).vertices ≤ length l.log → SameLengths (journey (card_map card) c s a stops l).lent l
  journey-lengths c s a [] l g la below room log = record { route = refl; log = refl }
  journey-lengths c s a (b ∷ stops) l g la below room log =
      let C = card_map card in
      let n = (map_on card).vertices in
      let lb = below b (Memᴰ.head refl) in
      let G = search_of (map_on card) (met_times g c) a b in
      let k = length (route_of G) in
      let u = leg_made C c s a b l in
      let one : n ≤ length l.route = omega (arith, room) in
      let leg = go-lengths (aim-good g b l lb) c a l la refl one log in
      let left = length-drop k u.lent.route in
      leg-lengths (total_of G) k u (journey C c u.state b stops (past k u.lent)) l leg (λ t e.
      let short = route-short (met-good g c) a b t la lb e in (
        omega (arith, short, one),
        journey-lengths c u.state b stops (past k u.lent) (leg-good g c a b l lb) lb (λ v w. below v (Memᴰ.tail w))
            (omega (arith, room, short, left, leg.route)) (omega (arith, log, leg.log)),
      ))

  pub stops-lengths : {s : State} (g : Good card s) (c : ℕ) (stops : List ℕ) (l : Lent)
      → StopsPassed g c stops (length l.route) (length l.log) → SameLengths (stops_made (card_map card) s c stops l).lent l
  stops-lengths {s} g c [] l q = absurd (not-suc-le-zero q.fewest)
  stops-lengths {s} g c (a ∷ stops) l q =
      let room : length stops * (map_on card).vertices ≤ length l.route = omega (arith, q.route) in
      journey-lengths c s a stops l g (q.below a (Memᴰ.head refl)) (λ v w. q.below v (Memᴰ.tail w)) room q.log

-- one leg more at the beginning
module _ {M : Map} {live : ℕ → Total} {a b : ℕ} {G : Problem} (D : Demand M live a b G)
    (E : Effort M.vertices (time_of M live a) (least_base M b) G) (timed : total_of G ≡ time_of M live a b) (stops : List ℕ) where
  no_chain : total_of G ≡ none → (t : ℕ) → LivePath M live a b t → ⊥
  no_chain e t w = rw e at (D.total.bound t (listed-path (live_net M live) w.arcs w.leads w.sums))

  -- its roads stand first in its part of the area
  leg-right : (t : ℕ) (more : List ℕ) → total_of G ≡ some t
      → LegRight M live a b (record { total = t; roads = length (route_of G) }) (route_of G ++ more)
  leg-right t more e =
      let (leads, sums) = D.route t e in
      let first : take (length (route_of G)) (route_of G ++ more) ≡ route_of G = take-append_seam (route_of G) more in
      record {
        leads = rw first leads;
        total = rw first sums;
        least = λ u w. rw e at (D.total.bound u (listed-path (live_net M live) w.arcs w.leads w.sums));
      }

  -- a later leg is lost, and this one is not
  lost-later : (t k : ℕ) → total_of G ≡ some t → FirstLost M live (b ∷ stops) k → FirstLost M live (a ∷ b ∷ stops) (suc k)
  lost-later t k e f = record { inside = omega (arith, f.inside); lost = f.lost; first = earlier }
    where
      earlier : (i : ℕ) → i < suc k → NoChain M live (a ∷ b ∷ stops) i → ⊥
      earlier zero h lost = lost t (path-listed (D.total.attained t e))
      earlier (suc i) h lost = f.first i (omega arith) lost

  -- the last leg's log: its own, if no leg comes after it
  log-later : (t : ℕ) (legs : List Leg) (own area log : List ℕ) → total_of G ≡ some t → own ≡ first (vertices (log_of G)) area
      → ((k : ℕ) → suc k ≡ length legs → FoundLogged M live (b ∷ stops) k (leg_at legs k).total log) → (length legs ≡ 0 → log ≡ own)
      → (k : ℕ) → suc k ≡ suc (length legs)
      → FoundLogged M live (a ∷ b ∷ stops) k (leg_at (record { total = t; roads = length (route_of G) } ∷ legs) k).total log
  log-later t legs own area log e own_is later stays zero h =
      rw (stays (omega arith), own_is) (logged-first G area (E.count t e) ∙ E.log t e)
  log-later t legs own area log e own_is later stays (suc k) h = later k (omega arith)

  ended-leg : (x : Total) (u : Step) (l : Lent) (j : Journey) → total_of G ≡ x → u.lent.route ≡ go_route x (route_of G) l.route
      → u.lent.log ≡ first (vertices (log_of G)) l.log → Ended M live b stops u.lent.log j
      → Ended M live a (b ∷ stops) l.log (with_leg x (length (route_of G)) u j)
  ended-leg none u l j e r g on =
      left-off refl (record { inside = omega arith; lost = no_chain e; first = λ i h. absurd (not-suc-le-zero h) })
      (rw g (logged-first G l.log (E.lost-count e) ∙ E.lost-log e))
  ended-leg (some t) u l j e r g (left-off c f k) = left-off c (lost-later t (length j.legs) e f) k
  ended-leg (some t) u l j e r g (arrived c legs whole later stays) =
      let roads : take (length (route_of G)) u.lent.route ≡ route_of G = rw r (first-take (route_of G) l.route) in
      let rest = drop-append_seam (route_of G) j.lent.route in
      arrived c (rw roads (leg-right t j.lent.route e, rw rest legs)) (ap₂ ◌⊕◌ (sym timed ∙ e) whole)
      (log-later t j.legs u.lent.log l.log j.lent.log e g later stays) (λ h. absurd (omega arith))

module _ {card : List ℕ} {c : ℕ} (lc : c < classes) where
  ended : (s : State) (a : ℕ) (stops : List ℕ) (l : Lent) → Good card s → a < (map_on card).vertices → Below (map_on card).vertices stops
      → Ended (map_on card) (met_live card c s) a stops l.log (journey (card_map card) c s a stops l)
  ended s a [] l g la below = arrived refl tt refl (λ k h. absurd (omega arith)) (λ h. refl)
  ended s a (b ∷ stops) l g la below =
      let C = card_map card in
      let M = map_on card in
      let lb = below b (Memᴰ.head refl) in
      let G = search_of M (met_times g c) a b in
      let k = length (route_of G) in
      let u = leg_made C c s a b l in
      let on = ended u.state b stops (past k u.lent) (leg-good g c a b l lb) lb (λ v w. below v (Memᴰ.tail w)) in
      let j = journey C c u.state b stops (past k u.lent) in
      let met = met-good g c in
      let lives = met-lives g c lc in
      let D : Demand M (met_live card c s) a b G = subst (λ (live : ℕ → Total). Demand M live a b G) lives (go-demand met a b la lb) in
      let E : Effort M.vertices (time_of M (met_live card c s) a) (least_base M b) G =
      subst (λ (live : ℕ → Total). Effort M.vertices (time_of M live a) (least_base M b) G) lives (go-figures met a b la lb) in
      ended-leg D E (leg-total lc g a b la lb) stops (total_of G) u l j refl refl refl on

-- ---- answers

stopped_not_refused : {a : Answer} {q : Refusal} {legs : List Leg} {t : ℕ} → a ≡ Refused q → a ≡ Stopped legs t → ⊥
stopped_not_refused p e = let z : ◌≡◌ {A = ℕ} 0 1 = cc in omega arith

stopped-is : {a : Answer} {x y : List Leg} {t u : ℕ} → a ≡ Stopped x t → a ≡ Stopped y u → (x ≡ y) × (t ≡ u)
stopped-is p q = (cc, cc)

no_leg_is : {a : Answer} {i k : ℕ} → a ≡ Refused (NoLeg i) → a ≡ Refused (NoLeg k) → i ≡ k
no_leg_is p q = ap (λ (r : Refusal). r.place) (refused-is p q)

answer-arrived : (c : Bool) (legs : List Leg) → c ≡ true → stops_answer c legs ≡ Stopped legs (whole_of legs)
answer-arrived c legs e = rw e

answer_left_off : (c : Bool) (legs : List Leg) → c ≡ false → stops_answer c legs ≡ Refused (NoLeg (length legs))
answer_left_off c legs e = rw e

-- the questions before the legs are not 17
not_17 : (k : Known) (c : ℕ) (stops : List ℕ) (r l : ℕ) (p : Refusal) {i : ℕ} → stops_refusal k c stops r l ≡ some p → p ≡ NoLeg i → ⊥
unfolding stops_refusal
not_17 k c stops r l p h e =
    asked-other 17 (leb fewest_stops (length stops) && leb (length stops) most_stops) StopCount _ (λ q. omega (arith, q))
    (asked-other 17 (ltb c classes) NoClass _ (λ q. omega (arith, q))
    (asked-other 17 (all_below k.n stops) NoJunction _ (λ q. omega (arith, q))
    (asked-other 17 (leb (length stops * k.n) r && leb k.n l) LentLengths none (λ q. omega (arith, q))
    (λ p e. absurd (none-some refl e)))))
    p h (ap (λ (r : Refusal). r.question) e)

-- ---- what is right about a journey, by how it ended

-- there is one first leg without a chain
first_one : {M : Map} {live : ℕ → Total} {stops : List ℕ} {i k : ℕ} → FirstLost M live stops i → FirstLost M live stops k → i ≡ k
first_one {i = i} {k} f h = go (dec_lt i k) (dec_lt k i)
  where
    go : Dec (i < k) → Dec (k < i) → i ≡ k
    go (yes l) d = absurd (h.first i l f.lost)
    go (no l) (yes m) = absurd (f.first k m h.lost)
    go (no l) (no m) = omega arith

-- from a, arcs of total t that meet the stops
record Led (N : Network) (a : ℕ) (stops : List ℕ) (t : ℕ) : Type 0 where
  to : ℕ
  path : Listed N a to t
  meets : Meets N a path.arcs stops

-- the roads of right legs, one after the other
legs_led : (M : Map) (live : ℕ → Total) (a : ℕ) (stops : List ℕ) (legs : List Leg) (area : List ℕ) → LegsRight M live a stops legs area
    → Led (live_net M live) a stops (whole_of legs)
legs_led M live a [] [] area h = record { to = a; path = record { arcs = []; leads = refl; sums = refl }; meets = all-met }
legs_led M live a [] (x ∷ legs) area h = absurd h
legs_led M live a (b ∷ stops) [] area h = absurd h
legs_led M live a (b ∷ stops) (x ∷ legs) area h =
    let N = live_net M live in
    let own = take x.roads area in
    let on = legs_led M live b stops legs (drop x.roads area) h.1 in
    record {
      to = on.to;
      path = record {
        arcs = own ++ on.path.arcs;
        leads = leads-append N own on.path.arcs a b on.to h.0.leads on.path.leads;
        sums = total_over-append N own on.path.arcs ∙ ap₂ ◌⊕◌ h.0.total on.path.sums;
      };
      meets = meets-append N own on.path.arcs h.0.leads (met-here refl on.meets);
    }

-- where the whole is a number, every leg has a total
each-leg : (leg : ℕ → ℕ → Total) (a : ℕ) (stops : List ℕ) (t : ℕ) → whole_from leg a stops ≡ some t
    → (k : ℕ) → suc k < length (a ∷ stops) → (x : ℕ) × (leg (get_or (a ∷ stops) k 0) (get_or stops k 0) ≡ some x)
each-leg leg a [] t e k h = let z : ⊥ = omega (arith, h) in absurd z
each-leg leg a (b ∷ stops) t e zero h = let p = ⊕-some (leg a b) (whole_from leg b stops) t e in (p.0, p.2)
each-leg leg a (b ∷ stops) t e (suc k) h =
    let p = ⊕-some (leg a b) (whole_from leg b stops) t e in
    each-leg leg b stops p.1 p.3 k (omega (arith, h))

module _ {M : Map} {live : ℕ → Total} (least : (a b : ℕ) → IsLeast (LivePath M live a b) (time_of M live a b)) {a : ℕ} {stops : List ℕ}
    {log : List ℕ} {j : Journey} (below : Below M.vertices (a ∷ stops)) where
  journey-right : Ended M live a stops log j → (legs : List Leg) (whole : ℕ) → stops_answer j.complete j.legs ≡ Stopped legs whole
      → JourneyRight M live (a ∷ stops) legs whole j.lent
  journey-right (left-off c f k) legs whole e = absurd (stopped_not_refused (answer_left_off j.complete j.legs c) e)
  journey-right (arrived c r w k stays) legs whole e =
      let (legs-are, whole_is) = stopped-is (answer-arrived j.complete j.legs c) e in
      record {
        legs-right = subst (λ (x : List Leg). LegsRight M live a stops x j.lent.route) legs-are r;
        whole_is = sym whole_is ∙ ap whole_of legs-are;
        at_most = λ t m. rw (w ∙ ap some whole_is) at (whole-at_most (live_net M live) (λ x y lx ly. least x y) a stops below t m);
        attained =
            let led = legs_led M live a stops j.legs j.lent.route r in
            subst (λ (t : ℕ). Meeting (live_net M live) (a ∷ stops) t) whole_is
            (record { from = a; to = led.to; path = led.path; meets = met-here refl led.meets });
        log = rw legs-are at k;
      }

  lost-first : Ended M live a stops log j → (k : ℕ) → stops_answer j.complete j.legs ≡ Refused (NoLeg k)
      → StrandedRight M live (a ∷ stops) k j.lent
  lost-first (arrived c r w k stays) i e = absurd (stopped_not_refused e (answer-arrived j.complete j.legs c))
  lost-first (left-off c f logged) k e =
      let i-is = no_leg_is (answer_left_off j.complete j.legs c) e in
      subst (λ (i : ℕ). StrandedRight M live (a ∷ stops) i j.lent) i-is (record {
        first-lost = f;
        none-meets = λ t m.
            let (p, whole_is, _) = within (whole_from (time_of M live) a stops) t
            (whole-at_most (live_net M live) (λ x y lx ly. least x y) a stops below t m) in
            let (x, e) = each-leg (time_of M live) a stops p whole_is (length j.legs) f.inside in
            f.lost x ((least (get_or (a ∷ stops) (length j.legs) 0) (get_or stops (length j.legs) 0)).attained x e);
        log = logged;
      })

  first-told : Ended M live a stops log j → (k : ℕ) → FirstLost M live (a ∷ stops) k
      → stops_answer j.complete j.legs ≡ Refused (NoLeg k)
  first-told (left-off c f logged) k h = answer_left_off j.complete j.legs c ∙ ap (λ (i : ℕ). Refused (NoLeg i)) (first_one f h)
  first-told (arrived c r w logged stays) k h =
      let (x, e) = each-leg (time_of M live) a stops (whole_of j.legs) w k h.inside in
      absurd (h.lost x ((least (get_or (a ∷ stops) k 0) (get_or stops k 0)).attained x e))

-- ---- a list of stops that was asked

module _ {card : List ℕ} {s : State} (g : Good card s) where
  made-right : (c : ℕ) (stops : List ℕ) (l : Lent) → StopsPassed g c stops (length l.route) (length l.log)
      → StopsRight (card_map card) (machine_of s) c stops l (stops_made (card_map card) s c stops l)
  made-right c [] l q = absurd (not-suc-le-zero q.fewest)
  made-right c (a ∷ stops) l q =
      let live = met_live card c s in
      let below = q.below in
      let end = ended q.class s a stops l g (below a (Memᴰ.head refl)) (λ v w. below v (Memᴰ.tail w)) in
      let least : (x y : ℕ) → IsLeast (LivePath (map_on card) live x y) (time_of (map_on card) live x y) =
      λ x y. listed-least (time_of-least (card-facts card g.accepted).valid live x y) in
      record {
        found = journey-right least below end;
        lost = lost-first least below end;
        told = λ h. first-told least below end;
      }

  pub stops-right : (c : ℕ) (stops : List ℕ) (l : Lent)
      → StopsRight (card_map card) (machine_of s) c stops l (step card s (stops_call c stops l))
  unfolding step
  stops-right c stops l = go (asked_of card s (stops_call c stops l)) refl
    where
      go : (x : Option Refusal) → asked_of card s (stops_call c stops l) ≡ x
          → StopsRight (card_map card) (machine_of s) c stops l (unless x s l (stops_made (card_map card) s c stops l))
      go none h = made-right c stops l (stops-passed g c stops (length l.route) (length l.log) (after_9 g (stops_call c stops l) h))
      go (some q) h =
          let asked = sym (asked_is g (stops_call c stops l)) ∙ h in
          let known = known_to (map_on card) (machine_of s) in
          record {
            found = λ legs whole e. absurd (stopped_not_refused refl e);
            lost = λ k e. absurd (not_17 known c stops (length l.route) (length l.log) q asked (refused-is refl e));
            told = λ e k f. absurd (none-some e asked);
          }
