-- The turns of a list of stops: what holds after some legs (`AtLeg`), at first (`turn-start`) and after one more leg that has a path
-- (`turn-again`); where a leg has none, and at the last stop, it gives what is promised (`turn-lost`, `turn_end`). Assumes nothing.
use mathlib.Core.Path.{◌∙◌, ◌≡◌, ap, refl, subst, sym}
use mathlib.Core.Option.{none}
use mathlib.Core.List.{List, [], ◌++◌, append-nil}
use Prim.Native.Nat.{◌+◌, ◌-◌, ◌<◌, ◌≤◌, min, suc, ℕ}
use lib.ListN.{get_or-eq_default, drop, drop_of_length-le, get_or, get_or-replicate, length, length-append, length-drop, length-replicate}
use lib.ListN.{length-set, replicate, set, take}
use lib.Seq.{get_or-set_other, length-take-le, take_all}
use native.Mathlib.Decide.{dec_lt}
use native.Mathlib.Numerals.{add-one}
use native.Mathlib.Omega.{arith}
use denote.Triple.Both.{Both}
use Rattle.std.specs.Prelude.{Err, Ok, Result}
use Rattle.model.specs.Types as model
use Rattle.model.specs.Limits.{most_legs, most_stops}
use Rattle.model.specs.Card.{map_on}
use Rattle.model.specs.Areas.{Areas}
use Rattle.model.specs.State.{Lent, State, answering}
use Rattle.model.specs.Stops.{stops_refusal}
use Rattle.model.specs.Calls.{Left, Stops, calling, known_of}
use Rattle.model.specs.Promises.{after, before}
use Rattle.model.specs.Good.{Good, StopsPassed}
use Rattle.model.proofs.Good.{left-good, stops-passed}
use Rattle.model.specs.GoProof.{SameLengths}
use Rattle.network.specs.declared.Refusal.{Refusal}
use Rattle.network.specs.declared.Refusal.TheVariants.{NoLeg}
use Rattle.unit_answers.specs.Shape.{answer_in}
use Rattle.unit_answers.specs.declared.Answer.{Answer}
use Rattle.unit_answers.specs.declared.Answer.TheVariants.{Accepted, Estimated, Gone, Previewed}
use Rattle.unit_questions.specs.Lending.{lent_of}
use Rattle.calls.specs.Shape.{Handed, Held, answered_in, header_in}
use Rattle.calls.specs.Refused.{passed-there}
use Rattle.call_stops.specs.declared.Visited.{Visited}
use Rattle.call_stops.specs.Shape.{legs_from, sum_in}
use Rattle.call_stops.specs.Legs.{Journeys, LegMade}
use Rattle.call_stops.proofs.OneLeg.{LegDone, Stays, leg-done, leg-stays, stays_on, stays_same}
use Rattle.call_stops.proofs.OnWay.{OnWay, from-below, gone_total, log-room, route-room, to_below, way_end, way-lost, way-start}
use Rattle.call_stops.proofs.OnWay.{way-turn}

-- the questions of the list have passed
pub record Passed (card : List ℕ) (c : ℕ) (stops : List ℕ) (s : State) (l : Lent) : Type 0 where
  pub left : Left card s
  pub asked : stops_refusal (known_of (map_on card).base.cost s.header) c stops (length l.route) (length l.log) ≡ none

pub passed-good : {card : List ℕ} {c : ℕ} {stops : List ℕ} {s : State} {l : Lent} → Passed card c stops s l → Good card s
passed-good {card} {c} {stops} {s} {l} p =
    left-good p.left (passed-there (map_on card).base.cost s.header (calling (Stops c stops) l) p.asked)

-- after i legs of class c; s₀ and l₀ are what the list found
pub record AtLeg (card : List ℕ) (c : ℕ) (stops : List ℕ) (number : ℕ) (s₀ : State) (l₀ : Lent) (s : State) (l : Lent)
    (totals roads : List ℕ) (whole at i : ℕ) : Type 0 where
  pub to-go : i ≤ number
  pub within : at ≤ length l.route
  pub down : length s.areas.aimed.down ≡ length s₀.areas.aimed.down
  pub estimates : length s.areas.aimed.estimates ≡ length s₀.areas.aimed.estimates
  pub elapsed : length s.areas.trip.elapsed ≡ length s₀.areas.trip.elapsed
  pub route : length l.route ≡ length l₀.route
  pub log : length l.log ≡ length l₀.log
  pub totals_are : length totals ≡ most_legs
  pub roads_are : length roads ≡ most_legs
  pub totals_end : (j : ℕ) → i ≤ j → get_or totals j 0 ≡ 0
  pub roads-end : (j : ℕ) → i ≤ j → get_or roads j 0 ≡ 0
  pub stays : Stays s₀ s
  pub way : Passed card c stops s₀ l₀ → OnWay card c s₀ l₀ stops s l totals roads whole at i

-- a row of zeros
pub zeros : (j : ℕ) → ◌≡◌ {A = ℕ} (get_or (replicate most_legs 0) j 0) 0
zeros j = go (dec_lt j most_legs)
  where
    go : Dec (j < most_legs) → ◌≡◌ {A = ℕ} (get_or (replicate most_legs 0) j 0) 0
    go (yes h) = get_or-replicate most_legs j 0 0 h
    go (no h) = get_or-eq_default (replicate most_legs 0) 0 {n = j} (omega (arith, h, length-replicate {A = ℕ} most_legs 0))

pub turn-start : {card : List ℕ} {c : ℕ} {stops : List ℕ} {number : ℕ} {s : State} {l : Lent}
    → AtLeg card c stops number s l s l (replicate most_legs 0) (replicate most_legs 0) 0 0 0
turn-start = record {
  to-go = omega arith;
  within = omega arith;
  down = refl;
  estimates = refl;
  elapsed = refl;
  route = refl;
  log = refl;
  totals_are = length-replicate {A = ℕ} most_legs 0;
  roads_are = length-replicate {A = ℕ} most_legs 0;
  totals_end = λ j h. zeros j;
  roads-end = λ j h. zeros j;
  stays = stays_same;
  way = λ p. way-start p.left (passed-good p);
}

-- ---- the part of the route area that a leg is lent, and the whole when it comes back

abbrev pub part : (at : ℕ) → List ℕ → List ℕ
part at x = take (length x - at) (drop at x)

abbrev pub back : (at : ℕ) → (x y : List ℕ) → List ℕ
back at x y = take at x ++ (y ++ drop (length x - at) (drop at x))

part-is : (at : ℕ) (x : List ℕ) → part at x ≡ drop at x
part-is at x = take_all (length x - at) (drop at x) (omega (arith, length-drop at x))

back_is : (at : ℕ) (x y : List ℕ) → back at x y ≡ take at x ++ y
back_is at x y =
    let ends : drop (length x - at) (drop at x) ≡ [] =
    drop_of_length-le (drop at x) {i = length x - at} (omega (arith, length-drop at x)) in
    ap (λ (z : List ℕ). take at x ++ (y ++ z)) ends ∙ ap (λ (z : List ℕ). take at x ++ z) (append-nil y)

back-length : (at : ℕ) (x y : List ℕ) → at ≤ length x → length y ≡ length (part at x) → length (back at x y) ≡ length x
back-length at x y h e =
    let k : length (part at x) ≡ length x - at = ap length (part-is at x) ∙ length-drop at x in
    ap length (back_is at x y) ∙ length-append (take at x) y ∙ omega (arith, h, e, k, length-take-le at x h)

-- ---- answers that are no route

pub lost-answer : (x : Result Answer Refusal) → ((t count k : ℕ) → x ≡ Ok (Gone t count k) → ⊥) → gone_total (answer_in x) ≡ none
lost-answer (Err q) h = refl
lost-answer (Ok Accepted) h = refl
lost-answer (Ok (Estimated t)) h = refl
lost-answer (Ok (Previewed a b c)) h = refl
lost-answer (Ok (Gone t count k)) h = absurd (h t count k refl)

-- ---- one turn: a leg from stop i

module _ {card : List ℕ} {c : ℕ} {stops : List ℕ} {s₀ : State} {l₀ : Lent} {h : model.Header} {a : Both Areas Areas}
    {route log y log' totals roads : List ℕ} {whole at i : ℕ} (x : Handed) (test : i < length stops - 1)
    (inv : AtLeg card c stops (length stops - 1) s₀ l₀ (before h a.entry) (lent_of route log) totals roads whole at i)
    (leg : LegMade card h a (record { entry = lent_of (part at route) log; exit = lent_of y log' }) c
    (get_or stops i 0) (get_or stops (i + 1) 0) (answered_in x)) where
  more : suc i < length stops
  more = omega (arith, test)

  same : SameLengths (lent_of route log) l₀
  same = record { route = inv.route; log = inv.log }

  module _ (p : Passed card c stops s₀ l₀) where
    abbrev way : OnWay card c s₀ l₀ stops (before h a.entry) (lent_of route log) totals roads whole at i
    way = inv.way p

    abbrev g : Good card s₀
    g = passed-good p

    asked : StopsPassed g c stops (length l₀.route) (length l₀.log)
    asked = stops-passed g c stops (length l₀.route) (length l₀.log) p.asked

    done : LegDone card c (before h a.entry) (get_or stops i 0) (get_or stops (suc i) 0) (lent_of (drop at route) log)
        (after (answered_in x) a.exit (lent_of y log'))
    done =
        leg-done
        (subst (λ (z : List ℕ). LegMade card h a (record { entry = lent_of z log; exit = lent_of y log' }) c (get_or stops i 0)
        (get_or stops (suc i) 0) (answered_in x)) (part-is at route)
        (subst (λ (j : ℕ). LegMade card h a (record { entry = lent_of (part at route) log; exit = lent_of y log' }) c (get_or stops i 0)
        (get_or stops j 0) (answered_in x)) (add-one i) leg))
        way.left way.good asked.class (from-below g asked more same way) (to_below g asked more same way)
        (route-room g asked more same way) (log-room g asked more same way)

  -- it has no path: 17
  pub turn-lost : gone_total (answer_in x.answer) ≡ none → {r : Visited} → r ≡ record { target = x.header.target; answer = Err (NoLeg i) }
      → Journeys card x.header.sizes s₀.header (record { entry = s₀.areas; exit = a.exit })
      (record { entry = l₀; exit = lent_of (back at route y) log' }) c stops r
  turn-lost lost {r} handed =
      subst (λ (z : Visited). Journeys card x.header.sizes s₀.header (record { entry = s₀.areas; exit = a.exit })
      (record { entry = l₀; exit = lent_of (back at route y) log' }) c stops z) (sym handed) (record {
        writes = record { leaves = (stays_on inv.stays (leg-stays leg)).leaves };
        exact = λ w e.
            let p : Passed card c stops s₀ l₀ = record { left = w; asked = e } in
            way-lost (passed-good p) (asked p) more same (inv.way p) (done p) lost (back_is at route y);
        rest = record { few-legs = omega arith; totals_end = λ j k. zeros j; roads-end = λ j k. zeros j };
      })

  -- it has one
  pub turn-again : length stops ≤ most_stops → {t count k : ℕ} → x.answer ≡ Ok (Gone t count k)
      → length a.exit.aimed.down ≡ length a.entry.aimed.down
      → length a.exit.aimed.estimates ≡ length a.entry.aimed.estimates
      → length a.exit.trip.elapsed ≡ length a.entry.trip.elapsed
      → length y ≡ length (part at route) → length log' ≡ length log
      → {whole' : ℕ} → whole' ≡ sum_in whole t → {at' : ℕ} → at' ≡ min (at + k) (length (back at route y))
      → AtLeg card c stops (length stops - 1) s₀ l₀ (before (header_in x.header) a.exit) (lent_of (back at route y) log')
      (set totals i t) (set roads i k) whole' at' (i + 1)
  turn-again many {t} {count} {k} gone down estimates elapsed kept log-kept summed {at'} further =
      let back-same = back-length at route y inv.within kept in
      let within-totals : i < length totals = omega (arith, test, many, inv.totals_are) in
      let within-roads : i < length roads = omega (arith, test, many, inv.roads_are) in
      let further' : at' ≡ min (at + k) (length route) = further ∙ ap (λ (z : ℕ). min (at + k) z) back-same in
      record {
        to-go = omega (arith, test);
        within = omega (arith, further);
        down = down ∙ inv.down;
        estimates = estimates ∙ inv.estimates;
        elapsed = elapsed ∙ inv.elapsed;
        route = back-same ∙ inv.route;
        log = log-kept ∙ inv.log;
        totals_are = length-set totals i t ∙ inv.totals_are;
        roads_are = length-set roads i k ∙ inv.roads_are;
        totals_end = λ j e.
            get_or-set_other totals i j t 0 (λ q. omega (arith, q, e)) ∙ inv.totals_end j (omega (arith, e));
        roads-end = λ j e.
            get_or-set_other roads i j k 0 (λ q. omega (arith, q, e)) ∙ inv.roads-end j (omega (arith, e));
        stays = stays_on inv.stays (leg-stays leg);
        way = λ p.
            rw (add-one i) (way-turn (passed-good p) (asked p) more same (inv.way p) (done p) (ap answer_in gone) (back_is at route y)
            further' within-totals within-roads summed);
      }

-- ---- the last stop

pub turn_end : {card : List ℕ} {c : ℕ} {stops : List ℕ} {s₀ : State} {l₀ : Lent} {h : Held} {a : Areas} {l : Lent}
    {totals roads : List ℕ} {whole at i : ℕ} → length stops ≤ most_stops → length stops - 1 ≤ i
    → AtLeg card c stops (length stops - 1) s₀ l₀ (before (header_in h) a) l totals roads whole at i
    → Journeys card h.sizes s₀.header (record { entry = s₀.areas; exit = a }) (record { entry = l₀; exit = l }) c stops
    (record {
      target = h.target;
      answer = Ok (record { number = length stops - 1; whole = whole; legs = record { totals = totals; roads = roads } });
    })
turn_end {card} {c} {stops} {s₀} {l₀} {h} {a} {l} {totals} {roads} {whole} {at} {i} many test inv =
    let last : i ≡ length stops - 1 = omega (arith, test, inv.to-go) in
    record {
      writes = record { leaves = inv.stays.leaves };
      exact = λ w e.
          let p : Passed card c stops s₀ l₀ = record { left = w; asked = e } in
          ap (λ (j : ℕ). answering (model.Stopped (legs_from totals roads 0 j) whole) (before (header_in h) a) l) (sym last)
          ∙ way_end (omega (arith, test)) (inv.way p);
      rest = record {
        few-legs = omega (arith, many);
        totals_end = λ j k. inv.totals_end j (omega (arith, last, k));
        roads-end = λ j k. inv.roads-end j (omega (arith, last, k));
      };
    }
