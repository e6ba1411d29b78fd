-- One go from a good state: its answer, its route and its log are right (`go_right`), the plain machine tells the same (`go-told`), and the
-- two lent areas keep their lengths (`go-lengths`). Assumes nothing.
use Rattle.std.proofs.Common.{◌∙◌, sym, inl, inr, arith}
use Rattle.std.specs.Prelude.{◌≡◌, refl, ◌⊎◌, Bool, ◌&&◌, false, true, List, ◌<◌, ◌≤◌, ℕ, leb, ltb, length, take}
use Rattle.std.proofs.Math.Path.{ap, subst}
use Rattle.std.proofs.Math.Option.{Option, none, some}
use Rattle.std.proofs.lemmas.List.{length-reverse}
use Rattle.graph.specs.Total.{Total}
use Rattle.graph.proofs.Total.{decide_option, none-some, some-some, true_false}
use Rattle.graph.proofs.Least.{least_unique}
use Rattle.graph.proofs.Route.{listed-path, path-listed}
use Rattle.graph.specs.Search.{Problem, count_of, history, log_of, route_of, total_of, vertices}
use Rattle.graph.specs.Map.{Map, estimate_of, live_net, time_of}
use Rattle.graph.proofs.Map.{estimate_of-dist, time_of-least}
use Rattle.graph.specs.Go.{Demand, go_of}
use Rattle.graph.proofs.Go.{go_meets, go_well_formed}
use Rattle.graph.specs.Effort.{Effort}
use Rattle.graph.proofs.Effort.{go-effort}
use Rattle.graph.proofs.Complete.{history-reached, length-le, length-vertices}
use Rattle.model.specs.Types.{Absent, Answer, At, Gone, LentLengths, NoClass, NoJunction, NoPath, NoTarget, Refusal, Refused}
use Rattle.model.specs.Types.{Target}
use Rattle.model.specs.Limits.{classes}
use Rattle.model.specs.Layout.{access_in}
use Rattle.model.specs.Classes.{access_of, class_live}
use Rattle.model.specs.Card.{ask, card_map, map_on}
use Rattle.model.specs.State.{Lent, State, Step, first, unless}
use Rattle.model.specs.Machine.{Known, LivePath, Machine, is_at, known_to, least_base, target_of}
use Rattle.model.specs.Go.{GoRight, LostRight, RouteRight, TripRight, by_time, found_told, go_answer, go_made, go_refusal, go_route}
use Rattle.model.specs.Go.{go_told, live_of, plain_search, search_of}
use Rattle.model.specs.Calls.{Call, asked_of, go_call, refusal_of, step}
use Rattle.model.specs.Demand3.{Same}
use Rattle.model.proofs.Laws.{first-length, first-take}
use Rattle.model.proofs.Accept.{card-facts}
use Rattle.model.specs.Good.{Aims, Good, met_times}
use Rattle.model.proofs.Good.{after_9, go-passed, good-fits, good_slower, met-good, met-lives}
use Rattle.model.proofs.Alike.{count_same, log-same, route-same}
use Rattle.model.specs.GoProof.{machine_of, SameLengths}

-- ---- the questions

module _ {card : List ℕ} {s : State} (g : Good card s) where
  -- the target in force is a junction
  target_below : (t : Target) (d e : List ℕ) → Aims (map_on card) t d e → is_at t ≡ true → target_of t < (map_on card).vertices
  target_below (At z) d e a h = a.below
  target_below Absent d e a h = absurd (true_false h refl)

  -- the target in force, once a question asked for it
  pub in_force : is_at s.header.target ≡ true → target_of s.header.target < (map_on card).vertices
  in_force h = target_below s.header.target s.areas.aimed.down s.areas.aimed.estimates g.aims h

  pub target_in : (z : ℕ) → s.header.target ≡ At z → is_at s.header.target ≡ true → z < (map_on card).vertices
  target_in z e h = let k : target_of s.header.target ≡ z = ap target_of e in rw k at (in_force h)

  -- question 9 passes, so the machine asks the same questions
  pub asked_is : (c : Call)
      → asked_of card s c ≡ refusal_of (known_to (map_on card) (machine_of s)) c.asked (length c.lent.route) (length c.lent.log)
  asked_is c = rw (good-fits g, g.n-is, g.m-is)

-- ---- the unit's totals are the machine's

module _ {card : List ℕ} {s : State} (g : Good card s) where
  pub estimate-is : (z v : ℕ) → z < (map_on card).vertices → v < (map_on card).vertices
      → estimate_of (map_on card) z v ≡ least_base (map_on card) z v
  estimate-is z v lz lv = estimate_of-dist (card-facts card g.accepted).valid z lz v lv

  pub go-demand : (j z : ℕ) → j < (map_on card).vertices → z < (map_on card).vertices
      → Demand (map_on card) (live_of s.areas.live) j z (search_of (map_on card) s.areas.live j z)
  go-demand j z lj lz = go_meets (card-facts card g.accepted).valid (good_slower g) by_time lj lz

  pub go-figures : (j z : ℕ) → j < (map_on card).vertices → z < (map_on card).vertices
      → Effort (map_on card).vertices (time_of (map_on card) (live_of s.areas.live) j) (least_base (map_on card) z)
      (search_of (map_on card) s.areas.live j z)
  go-figures j z lj lz =
      let c = card-facts card g.accepted in
      go-effort c.valid c.positive (good_slower g) lj lz by_time (λ t. refl) (least_base (map_on card) z) (λ v lv.
      estimate-is z v lz lv)

  pub total-is : (j z : ℕ) → j < (map_on card).vertices → z < (map_on card).vertices
      → total_of (search_of (map_on card) s.areas.live j z) ≡ time_of (map_on card) (live_of s.areas.live) j z
  total-is j z lj lz =
      least_unique (go-demand j z lj lz).total (time_of-least (card-facts card g.accepted).valid (live_of s.areas.live) j z)

  -- the two searches have one log, one route and one count
  pub search_is : (j z : ℕ) → z < (map_on card).vertices
      → let G = search_of (map_on card) s.areas.live j z in
      let P = plain_search (map_on card) (live_of s.areas.live) j z in
      (count_of G ≡ count_of P) × (route_of G ≡ route_of P) × (log_of G ≡ log_of P)
  unfolding go_of plain_search
  search_is j z lz =
      let G = search_of (map_on card) s.areas.live j z in
      let p = least_base (map_on card) z in
      let e : (v : ℕ) → v < (map_on card).vertices → estimate_of (map_on card) z v ≡ p v = λ v lv. estimate-is z v lz lv in
      (count_same G p e, route-same G p e, log-same G p e)

-- ---- answers

gone_not_refused : {a : Answer} {q : Refusal} {T c k : ℕ} → a ≡ Refused q → a ≡ Gone T c k → ⊥
gone_not_refused p e = let z : ◌≡◌ {A = ℕ} 0 1 = cc in omega arith

pub refused-is : {a : Answer} {p q : Refusal} → a ≡ Refused p → a ≡ Refused q → p ≡ q
refused-is e f = cc

-- a total's answer
gone-is : (x : Total) (c k : ℕ) {T c' k' : ℕ} → go_answer x c k ≡ Gone T c' k' → (x ≡ some T) × (c ≡ c') × (k ≡ k')
gone-is none c k e = absurd (gone_not_refused refl e)
gone-is (some t) c k {T} {c'} {k'} e = parts refl e
  where
    parts : {a : Answer} → a ≡ Gone t c k → a ≡ Gone T c' k' → (some t ≡ some T) × (c ≡ c') × (k ≡ k')
    parts p q = (cc, cc, cc)

lost-is : (x : Total) (c k : ℕ) {c' : ℕ} → go_answer x c k ≡ Refused (NoPath c') → (x ≡ none) × (c ≡ c')
lost-is none c k e = (refl, ap (λ (r : Refusal). r.count) (refused-is refl e))
lost-is (some t) c k e = absurd (gone_not_refused e refl)

-- a refusal by another question than the k-th
module _ (k : ℕ) where
  pub asked-other : (b : Bool) (q : Refusal) (rest : Option Refusal) → (q.question ≡ k → ⊥)
      → ((p : Refusal) → rest ≡ some p → p.question ≡ k → ⊥)
      → (p : Refusal) → ask b q rest ≡ some p → p.question ≡ k → ⊥
  asked-other true q rest h f p e = f p e
  asked-other false q rest h f p e = subst (λ (r : Refusal). r.question ≡ k → ⊥) (some-some refl e) h

-- the questions before the search are not 15
not_15 : (k : Known) (c j r l : ℕ) (p : Refusal) {n : ℕ} → go_refusal k c j r l ≡ some p → p ≡ NoPath n → ⊥
unfolding go_refusal
not_15 k c j r l p h e =
    asked-other 15 (ltb c classes) NoClass _ (λ q. omega (arith, q))
    (asked-other 15 (ltb j k.n) NoJunction _ (λ q. omega (arith, q))
    (asked-other 15 (is_at k.target) NoTarget _ (λ q. omega (arith, q))
    (asked-other 15 (leb k.n r && leb k.n l) LentLengths none (λ q. omega (arith, q)) (λ p e. absurd (none-some refl e)))))
    p h (ap (λ (r : Refusal). r.question) e)

-- ---- one go, of any step that answers by the search and writes its route and its log first

-- the log of c entries that stands first in an area
pub logged-first : (G : Problem) {c : ℕ} (area : List ℕ) → count_of G ≡ c → take c (first (vertices (log_of G)) area) ≡ vertices (log_of G)
unfolding count_of
logged-first G area e = rw (← e, ← length-vertices (log_of G)) (first-take (vertices (log_of G)) area)

module _ {M : Map} {live : ℕ → Total} {s z : ℕ} {G : Problem} (D : Demand M live s z G)
    (E : Effort M.vertices (time_of M live s) (least_base M z) G) (u : Step) (l : Lent)
    (answer-is : u.answer ≡ go_answer (total_of G) (count_of G) (length (route_of G)))
    (route-is : u.lent.route ≡ go_route (total_of G) (route_of G) l.route)
    (log_is : u.lent.log ≡ first (vertices (log_of G)) l.log) where
  found_right : (T c k : ℕ) → u.answer ≡ Gone T c k → RouteRight M live s z T c k u.lent
  found_right T c k e =
      let (total-is, count-is, roads_are) = gone-is (total_of G) (count_of G) (length (route_of G)) (sym answer-is ∙ e) in
      let r : take k u.lent.route ≡ route_of G = rw (route-is, total-is, ← roads_are) (first-take (route_of G) l.route) in
      record {
        leads = rw r (D.route T total-is).0;
        total = rw r (D.route T total-is).1;
        least = λ t w. rw total-is at (D.total.bound t (listed-path (live_net M live) w.arcs w.leads w.sums));
        count = sym count-is ∙ E.count T total-is;
        log = rw log_is (logged-first G l.log count-is ∙ E.log T total-is);
      }

  lost-right : (c : ℕ) → u.answer ≡ Refused (NoPath c) → LostRight M live s z c u.lent
  lost-right c e =
      let (total-is, count-is) = lost-is (total_of G) (count_of G) (length (route_of G)) (sym answer-is ∙ e) in
      record {
        no_chain = λ t w. rw total-is at (D.total.bound t (listed-path (live_net M live) w.arcs w.leads w.sums));
        count = sym count-is ∙ E.lost-count total-is;
        log = rw log_is (logged-first G l.log count-is ∙ E.lost-log total-is);
      }

  told-right : ((t : ℕ) → LivePath M live s z t → ⊥) → (c : ℕ) × (u.answer ≡ Refused (NoPath c))
  told-right no-path = go (decide_option (total_of G))
    where
      go : (total_of G ≡ none) ⊎ ((t : ℕ) × (total_of G ≡ some t)) → (c : ℕ) × (u.answer ≡ Refused (NoPath c))
      go (inl q) = (count_of G, answer-is ∙ rw q)
      go (inr q) = absurd (no-path q.0 (path-listed (D.total.attained q.0 q.1)))

-- ---- a go that was asked

module _ {card : List ℕ} {s : State} (g : Good card s) where
  pub go_right : (c j : ℕ) (l : Lent) → GoRight (card_map card) (machine_of s) c j l (step card s (go_call c j l))
  unfolding step
  go_right c j l z e =
      let k : target_of s.header.target ≡ z = ap target_of e in
      let asked = asked_of card s (go_call c j l) in
      subst (λ (y : ℕ). Trip (class_live (access_of (access_in card)) c (live_of s.areas.live)) y asked) k (go asked refl)
    where
      known : Known
      known = known_to (map_on card) (machine_of s)

      Trip : (live : ℕ → Total) → (target : ℕ) → Option Refusal → Type 0
      Trip live z x =
          TripRight (map_on card) live (go_refusal known c j (length l.route) (length l.log) ≡ none) j z
          (unless x s l (go_made (card_map card) s c j l))

      go : (x : Option Refusal) → asked_of card s (go_call c j l) ≡ x
          → Trip (class_live (access_of (access_in card)) c (live_of s.areas.live)) (target_of s.header.target) x
      go (some q) h =
          let asked = sym (asked_is g (go_call c j l)) ∙ h in
          record {
            found = λ T c k a. absurd (gone_not_refused refl a);
            lost = λ n a. absurd (not_15 known c j (length l.route) (length l.log) q asked (refused-is refl a));
            told = λ a w. absurd (none-some a asked);
          }
      go none h =
          let z = target_of s.header.target in
          let q = go-passed g c j (length l.route) (length l.log) (after_9 g (go_call c j l) h) in
          let lz = in_force g q.target in
          let D = go-demand (met-good g c) j z q.start lz in
          let E = go-figures (met-good g c) j z q.start lz in
          let u = go_made (card_map card) s c j l in
          subst (λ (live : ℕ → Total). Trip live z none) (met-lives g c q.class) (record {
            found = found_right D E u l refl refl refl;
            lost = lost-right D E u l refl refl refl;
            told = λ a w. told-right D E u l refl refl refl w;
          })

-- a go's answer and what stands first in its areas
go_same : (x : Total) (G P : Problem) (s : State) (m : Machine) (l : Lent)
    → count_of G ≡ count_of P → route_of G ≡ route_of P → log_of G ≡ log_of P
    → Same (record {
      answer = go_answer x (count_of G) (length (route_of G));
      state = s;
      lent = record { route = go_route x (route_of G) l.route; log = first (vertices (log_of G)) l.log };
    }) (found_told x P m)
go_same none G P s m l c r k = record { answer = rw c; roads = refl; log = rw k (first-take (vertices (log_of P)) l.log) }
go_same (some t) G P s m l c r k = record {
  answer = rw (c, r);
  roads = rw r (first-take (route_of P) l.route);
  log = rw k (first-take (vertices (log_of P)) l.log);
}

pub told-next : (x : Total) (P : Problem) (m : Machine) → (found_told x P m).next ≡ m
told-next none P m = refl
told-next (some t) P m = refl

module _ {card : List ℕ} {s : State} (g : Good card s) where
  -- a go that no question refuses is the machine's
  pub go-told : (c j : ℕ) (l : Lent) → c < classes → j < (map_on card).vertices → is_at s.header.target ≡ true
      → Same (go_made (card_map card) s c j l) (go_told (card_map card) (machine_of s) c j)
  go-told c j l lc lj h =
      let M = map_on card in
      let z = target_of s.header.target in
      let lz = in_force g h in
      let (counts, routes, logs) = search_is (met-good g c) j z lz in
      let G = search_of M (met_times g c) j z in
      let P = plain_search M (live_of (met_times g c)) j z in
      rw (← met-lives g c lc, ← total-is (met-good g c) j z lj lz)
      (go_same (total_of G) G P (go_made (card_map card) s c j l).state (machine_of s) l counts routes logs)

-- ---- lengths

-- log and route have room in areas of n entries
pub log-fits : {card : List ℕ} {s : State} → Good card s → (j z : ℕ) → j < (map_on card).vertices → z < (map_on card).vertices
    → count_of (search_of (map_on card) s.areas.live j z) ≤ (map_on card).vertices
unfolding go_of count_of log_of
log-fits {card} {s} g j z lj lz =
    let G = search_of (map_on card) s.areas.live j z in
    omega (
      arith,
      length-reverse (history G),
      length-le (go_well_formed (card-facts card g.accepted).valid (good_slower g) by_time lj lz) (history-reached G),
    )

route-length : (x : Total) (r area : List ℕ) → ((t : ℕ) → x ≡ some t → length r ≤ length area) → length (go_route x r area) ≡ length area
route-length none r area h = refl
route-length (some t) r area h = first-length r area (h t refl)

-- a route has fewer roads than there are junctions
pub route-short : {card : List ℕ} {s : State} → Good card s → (j z t : ℕ) → j < (map_on card).vertices → z < (map_on card).vertices
    → total_of (search_of (map_on card) s.areas.live j z) ≡ some t
    → length (route_of (search_of (map_on card) s.areas.live j z)) < (map_on card).vertices
route-short g j z t lj lz e = omega (arith, (go-demand g j z lj lz).short t e, log-fits g j z lj lz)

module _ {card : List ℕ} {s : State} (g : Good card s) where
  -- a go's two areas keep their lengths
  pub go-lengths : (c j : ℕ) (l : Lent) → j < (map_on card).vertices → is_at s.header.target ≡ true
      → (map_on card).vertices ≤ length l.route → (map_on card).vertices ≤ length l.log
      → SameLengths (go_made (card_map card) s c j l).lent l
  unfolding count_of
  go-lengths c j l lj h lr ll =
      let z = target_of s.header.target in
      let lz = in_force g h in
      let G = search_of (map_on card) (met_times g c) j z in
      let k = log-fits (met-good g c) j z lj lz in
      let v = length-vertices (log_of G) in
      record {
        route = route-length (total_of G) (route_of G) l.route
            (λ t e. (let d = route-short (met-good g c) j z t lj lz e in omega (arith, d, lr)));
        log = first-length (vertices (log_of G)) l.log (omega (arith, v, k, ll));
      }
