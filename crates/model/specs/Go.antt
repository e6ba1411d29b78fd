-- Go: the way from a start to the target, by the search log, at the live times. Definitions only.
use Rattle.std.specs.Prelude.{◌≡◌, Bool, ◌&&◌, ◌||◌, not, List, [], ◌≤◌, ℕ, eqb, leb, ltb, get_or, length, take}
use Rattle.std.proofs.Math.Option.{Option, none, some}
use Rattle.graph.specs.Total.{Total, is_number, no_more}
use Rattle.graph.specs.Least.{any_below}
use Rattle.graph.specs.Lists.{count_below}
use Rattle.graph.specs.Reach.{reaches}
use Rattle.graph.specs.Route.{Leads, total_over}
use Rattle.graph.specs.Search.{Entry, Problem, count_of, history, log_of, route_of, time_in, total_of, vertices}
use Rattle.graph.specs.Walk.{start_at}
use Rattle.graph.specs.LogOrder.{in_order, key_of}
use Rattle.graph.specs.Map.{Map, fills, live_net, time_of}
use Rattle.graph.specs.Go.{go_of}
use Rattle.model.specs.Word.{of_word, word}
use Rattle.model.specs.Types.{Answer, At, Gone, LentLengths, NoClass, NoJunction, NoPath, NoTarget, Refusal, Refused}
use Rattle.model.specs.Limits.{classes}
use Rattle.model.specs.Bytes.{listed}
use Rattle.model.specs.Classes.{class_live, class_times}
use Rattle.model.specs.Card.{CardMap, ask}
use Rattle.model.specs.State.{Lent, State, Step, first, leaving}
use Rattle.model.specs.Machine.{Known, LivePath, Machine, Told, is_at, known_to, least_base, target_of}
use Rattle.model.specs.Estimate.{Kept, filled, with_estimates}

-- ---- what is asked: a class and a start; route and log are lent with it

-- document 02, A6: "18 if the class isn't below 8, after 9"
abbrev pub ask_class : (class : ℕ) → Option Refusal → Option Refusal
ask_class c rest = ask (ltb c classes) NoClass rest

-- 18; 12: "Is the junction below n?", 13: "Is there a target?", then 14: "Have route and log areas at least n entries?"
unfoldable pub go_refusal : Known → (class start route log : ℕ) → Option Refusal
go_refusal k c s r l =
    ask_class c
    (ask (ltb s k.n) NoJunction (ask (is_at k.target) NoTarget (ask (leb k.n r && leb k.n l) LentLengths none)))

-- ---- what it answers and leaves

-- times as totals: "A road is open if its live time isn't closed."
abbrev pub live_of : (live : List ℕ) → ℕ → Total
live_of live i = of_word (get_or live i 0)

-- document 02, A5: "Among equal keys the smaller time is now logged first, then the smaller junction number."
abbrev pub by_time : ℕ → ℕ
by_time t = t

-- the search log's problem, at these times and with the unit's estimates; document 02, A6: "Estimates remain over all roads"
abbrev pub search_of : Map → (live : List ℕ) → (start target : ℕ) → Problem
search_of M live s z = go_of M (live_of live) by_time s z

-- "the start and .. every head of an open road from a logged junction other than the target"
unfoldable pub go_asks : Map → (ℕ → Total) → (start target : ℕ) → List Entry → ℕ → Bool
go_asks M live s z H v =
    eqb s v
    || any_below M.base.arcs (λ i.
    eqb (M.base.head i) v && is_number (live i) && is_number (time_in H (M.base.tail i)) && not (eqb (M.base.tail i) z))

-- "with those above them"
unfoldable pub go_fills : Map → (ℕ → Total) → (start target : ℕ) → List Entry → ℕ → Bool
unfolding go_asks any_below reaches
go_fills M live s z H v = any_below M.vertices (λ a. go_asks M live s z H a && fills M a v)

-- the same at the end of the search
abbrev pub asks : Map → (live : List ℕ) → (start target : ℕ) → ℕ → Bool
asks M live s z = go_fills M (live_of live) s z (history (search_of M live s z))

-- "The answer is total, count and number of roads"; 15: "Does a chain of open roads exist? No: 15, with the count"
abbrev pub go_answer : Total → (count roads : ℕ) → Answer
go_answer none c k = Refused (NoPath c)
go_answer (some t) c k = Gone t c k

-- by 15 "the route area untouched"
abbrev pub go_route : Total → (roads area : List ℕ) → List ℕ
go_route none r area = area
go_route (some t) r area = first r area

-- by a search at these times: "Elapsed holds logged junctions' times, otherwise none."; the live times stay
abbrev pub go_at : Map → State → (times : List ℕ) → (start : ℕ) → Lent → Step
go_at M s times j l =
    let z = target_of s.header.target in
    let a = s.areas.aimed in
    let G = search_of M times j z in
    record {
      answer = go_answer (total_of G) (count_of G) (length (route_of G));
      state =
          leaving s s.header.target s.areas.live
          (with_estimates a (filled M z (asks M times j z) a.estimates))
          (record { elapsed = listed M.vertices (λ v. word (time_in (history G) v)) });
      lent = record { route = go_route (total_of G) (route_of G) l.route; log = first (vertices (log_of G)) l.log };
    }

-- document 02, A6: the live times as the class meets them
abbrev pub go_made : CardMap → State → (class start : ℕ) → Lent → Step
go_made C s c j l = go_at C.map s (class_times C.access c s.areas.live) j l

-- ---- what the plain machine does

-- "route, log and count by the next section, for these times and the estimates the machine would answer"
unfoldable pub plain_search : Map → (live : ℕ → Total) → (start target : ℕ) → Problem
plain_search M live s z = record {
  size = M.vertices;
  net = live_net M live;
  start = start_at s;
  pot = least_base M z;
  goal = λ v. eqb v z;
  tie = by_time;
}

-- by "the least total, at the times in force, over chains of open roads"; "15 also with count and log"
abbrev pub found_told : (least : Total) → Problem → Machine → Told
found_told none G m = record { answer = Refused (NoPath (count_of G)); roads = []; log = vertices (log_of G); next = m }
found_told (some t) G m =
    record { answer = Gone t (count_of G) (length (route_of G)); roads = route_of G; log = vertices (log_of G); next = m }

-- `time_of` is the least total at the times in force (law: `Proof3.least_totals`), here at those that the class meets
abbrev pub go_told : CardMap → Machine → (class start : ℕ) → Told
go_told C m c j =
    let z = target_of m.target in
    let live = class_live C.access c m.live in
    found_told (time_of C.map live j z) (plain_search C.map live j z) m

-- ---- what is right about it; document 02, A6: "least totals and effort are now over open roads of the class"

-- "least time from the start plus estimate": both are least totals (law: `Proof3.least_totals`)
abbrev pub key_from : Map → (live : ℕ → Total) → (start target : ℕ) → ℕ → Total
key_from M live s z = key_of (time_of M live s) (least_base M z)

-- document 02, A5: "no more than the total"
abbrev pub within_total : Map → (live : ℕ → Total) → (start target total : ℕ) → ℕ → Bool
within_total M live s z T v = no_more (key_from M live s z v) (some T)

-- document 02, A5: "reached by open roads that have an estimate"
abbrev pub reached_estimated : Map → (live : ℕ → Total) → (start target : ℕ) → ℕ → Bool
reached_estimated M live s z v = is_number (time_of M live s v) && is_number (least_base M z v)

-- of the junctions that pass a test: how many they are, and their list "sorted by key, time, number"
abbrev pub effort : Map → (ℕ → Bool) → ℕ
effort M p = count_below p M.vertices

abbrev pub effort_log : Map → (live : ℕ → Total) → (start target : ℕ) → (ℕ → Bool) → List ℕ
effort_log M live s z p = in_order (time_of M live s) (least_base M z) p M.vertices

-- a route, answered with total T, count c and k roads; roads and log stand first in their areas
pub record RouteRight (M : Map) (live : ℕ → Total) (start target T c k : ℕ) (areas : Lent) : Type 0 where
  -- "a chain of open roads from the start asked to the target in force, answered with its total at the times in force"
  pub leads : Leads (live_net M live) start (take k areas.route) target
  pub total : total_over (live_net M live) (take k areas.route) ≡ some T
  -- "Every other such chain between the same ends has at least as large a total."
  pub least : (t : ℕ) → LivePath M live start target t → T ≤ t
  -- document 02, A5: "The count of a found route is then exactly the number of junctions whose least time from the start plus estimate is
  -- no more than the total."
  pub count : c ≡ effort M (within_total M live start target T)
  -- "The log is those junctions sorted by key, time, number."
  pub log : take c areas.log ≡ effort_log M live start target (within_total M live start target T)

-- no route, answered with count c; the log stands first in its area
pub record LostRight (M : Map) (live : ℕ → Total) (start target c : ℕ) (areas : Lent) : Type 0 where
  -- "A go that passes the earlier questions says 'no chain' exactly when there is none": only then
  pub no_chain : (t : ℕ) → LivePath M live start target t → ⊥
  -- document 02, A5: "Where no chain exists, it is exactly the junctions reached by open roads that have an estimate."
  pub count : c ≡ effort M (reached_estimated M live start target)
  pub log : take c areas.log ≡ effort_log M live start target (reached_estimated M live start target)

-- from the start to the target, at these times; `passed` if no question refuses it
pub record TripRight (M : Map) (live : ℕ → Total) (passed : Type 0) (start target : ℕ) (u : Step) : Type 0 where
  -- "Every route is the one document 01 defines"
  pub found : (T c k : ℕ) → u.answer ≡ Gone T c k → RouteRight M live start target T c k u.lent
  pub lost : (c : ℕ) → u.answer ≡ Refused (NoPath c) → LostRight M live start target c u.lent
  -- and always where there is none
  pub told : passed → ((t : ℕ) → LivePath M live start target t → ⊥) → (c : ℕ) × (u.answer ≡ Refused (NoPath c))

abbrev pub GoRight : CardMap → Machine → (class start : ℕ) → Lent → Step → Type 0
GoRight C m c j l u =
    let passed = go_refusal (known_to C.map m) c j (length l.route) (length l.log) ≡ none in
    (z : ℕ) → m.target ≡ At z → TripRight C.map (class_live C.access c m.live) passed j z u

-- ---- what it leaves in any state whose lengths fit: estimates, none that is filled, and elapsed, beside what it is lent

pub record GoWrites (s : State) (r : Step) : Type 0 where
  pub leaves : r.state
      ≡ leaving s s.header.target s.areas.live
      (with_estimates s.areas.aimed r.state.areas.aimed.estimates) r.state.areas.trip
  pub kept : Kept s.areas.aimed.estimates r.state.areas.aimed.estimates
