-- Demand 3 holds of every list of calls from an accepted preparing. Assumes nothing.
use Rattle.std.proofs.Common.{◌∙◌, ap, ap₂, subst, sym, inl, inr, eq-eqb, ne_eqb, lit<, get_or-set_other, get_or-set_same, arith}
use Rattle.std.specs.Prelude.{◌≡◌, ◌⊎◌, cond, true, ◌*◌, ◌+◌, ◌<◌, ℕ, eqb, ◌+ℤ◌, ◌-ℤ◌, pos, ℤ, get_or, length, set, take}
use Rattle.std.proofs.Math.Path.{fun_ext, refl}
use Rattle.std.proofs.Math.Option.{Option, none, some}
use mathlib.Core.List.{List, Memᴰ, [], ◌∷◌}
use Rattle.std.proofs.Math.IntN.{ -ℤ-+ℤ_cancel}
use Rattle.std.proofs.Math.ListN.{get_or-eq_default}
use Rattle.std.proofs.Math.Decide.{dec_lt, ℕ_discrete}
use Rattle.graph.specs.Total.{Total}
use Rattle.graph.specs.Least.{IsLeast}
use Rattle.graph.proofs.Least.{least_unique}
use Rattle.graph.proofs.Network.{direct-least, ends-below}
use Rattle.graph.proofs.Route.{listed-least, path-listed}
use Rattle.graph.proofs.Level.{dist-least}
use Rattle.graph.specs.Search.{Entry, log_of, total_of}
use Rattle.graph.specs.Map.{Map, estimate_of, time_of}
use Rattle.graph.proofs.Map.{estimate_of-bound, estimate_of-least, time_of-least}
use Rattle.graph.specs.Go.{OpenPath, go_of}
use Rattle.graph.proofs.Go.{go_well_formed}
use Rattle.graph.proofs.Answer.{log-keyed}
use Rattle.model.proofs.LimitLaws.{totals_fit}
use Rattle.model.specs.Word.{of_word, word}
use Rattle.model.proofs.Word.{of_word-some, of_word-word}
use Rattle.model.specs.Types.{Absent, Accepted, Answer, Estimated, Previewed, Refusal, Refused}
use Rattle.model.specs.Bytes.{listed}
use Rattle.model.specs.Layout.{access_in}
use Rattle.model.specs.Classes.{access_of, class_live, class_times}
use Rattle.model.specs.Card.{card_map, map_on, rows_of}
use Rattle.model.specs.Areas.{Areas, groups_of, leaving_of}
use Rattle.model.specs.State.{Lent, State, Step, fitting, fresh, prepare, unless}
use Rattle.model.specs.Machine.{BasePath, LivePath, Machine, Told, least_base, started, target_of, unless_asked}
use Rattle.model.specs.Set.{changed}
use Rattle.model.specs.Estimate.{EstimateRight, estimate_made}
use Rattle.model.specs.Go.{LostRight, RouteRight, by_time, effort, effort_log, live_of, search_of, within_total}
use Rattle.model.specs.Preview.{PreviewRight, TotalsRight, change_of, preview_answer, preview_made}
use Rattle.model.specs.Calls.{Aim, Asked, Call, Estimate, Go, Preview, Right, Set, Stops, asked_of, machine_step, made, plain}
use Rattle.model.specs.Calls.{refusal_by, run, step, steps, told_of}
use Rattle.model.specs.Demand3.{AtCall, Demand3, Same}
use Rattle.model.proofs.Laws.{listed_at, listed-length}
use Rattle.model.specs.Accept.{CardFacts}
use Rattle.model.proofs.Accept.{card-facts}
use Rattle.model.specs.Good.{Good, PreparedFacts, PreviewPassed}
use Rattle.model.proofs.Good.{after_9, estimate-passed, go-passed, good-fits, good_slower}
use Rattle.model.proofs.Good.{met-good, met-lives, prepared-facts, prepared-good, preview-passed, run-good, set-good, set-passed}
use Rattle.model.proofs.Good.{step-good, stops-passed}
use Rattle.model.specs.GoProof.{SameLengths, machine_of}
use Rattle.model.proofs.GoProof.{asked_is, estimate-is, go-demand, go-lengths, go_right, go-told, in_force}
use Rattle.model.proofs.GoProof.{target_in, told-next}
use Rattle.model.proofs.StopsProof.{stops-lengths, stops-next, stops-right, stops-told}
use Rattle.model.specs.Proof3.{SameLog}

-- ---- the times after a set

-- the live time of every road after a set
set-live : (live : List ℕ) (i t : ℕ) → i < length live → (k : ℕ) → cond (eqb k i) (of_word t) (live_of live k) ≡ live_of (set live i t) k
set-live live i t h k = go (ℕ_discrete k i)
  where
    go : Dec (k ≡ i) → cond (eqb k i) (of_word t) (live_of live k) ≡ live_of (set live i t) k
    go (yes e) = rw (eq-eqb k i e, e, get_or-set_same live i t 0 h)
    go (no e) = rw (ne_eqb k i e, get_or-set_other live i k t 0 e)

pub set-lives : (live : List ℕ) (i t : ℕ) → i < length live → changed (live_of live) i (of_word t) ≡ live_of (set live i t)
set-lives live i t h = fun_ext (set-live live i t h)

-- ---- a preview's two totals

previewed_not_refused : {a : Answer} {q : Refusal} {x y : Total} {d : Option ℤ} → a ≡ Refused q → a ≡ Previewed x y d → ⊥
previewed_not_refused p e = let z : ◌≡◌ {A = ℕ} 0 1 = cc in omega arith

-- the totals and the change of an answer
previewed-is : {r : Answer} {a b x y : Total} {c d : Option ℤ} → r ≡ Previewed a b c → r ≡ Previewed x y d → (a ≡ x) × (b ≡ y) × (c ≡ d)
previewed-is p e = (cc, cc, cc)

-- new total minus present total, and the present total again
change-adds : (x y : Total) (a b : ℕ) → x ≡ some a → y ≡ some b → (d : ℤ) × (change_of x y ≡ some d) × (d +ℤ pos a ≡ pos b)
change-adds x y a b p q = rw (p, q) (pos b -ℤ pos a, refl, -ℤ-+ℤ_cancel (pos b) (pos a))

change-absent : (x y : Total) → (x ≡ none) ⊎ (y ≡ none) → change_of x y ≡ none
change-absent x y (inl p) = rw p
change-absent none y (inr q) = refl
change-absent (some a) y (inr q) = rw q

totals_right : {M : Map} {live new : ℕ → Total} {s z : ℕ} {x y a b : Total} {d : Option ℤ}
    → IsLeast (OpenPath M live s z) x → IsLeast (OpenPath M new s z) y → preview_answer x y ≡ Previewed a b d
    → TotalsRight M live new s z a b d
totals_right {x = x} {y} p q e =
    let (x-is, y-is, d-is) = previewed-is refl e in
    record {
      present_least = rw x-is at (listed-least p);
      new-least = rw y-is at (listed-least q);
      adds-up = λ a b f g. rw d-is at (change-adds x y a b (x-is ∙ f) (y-is ∙ g));
      absent = λ f. sym d-is ∙ change-absent x y (rw (x-is, y-is) f);
    }

-- ---- one estimate

estimated_not_refused : {a : Answer} {q : Refusal} {t : ℕ} → a ≡ Refused q → a ≡ Estimated t → ⊥
estimated_not_refused p e = let z : ◌≡◌ {A = ℕ} 0 1 = cc in omega arith

estimated-is : {a : Answer} {t u : ℕ} → a ≡ Estimated t → a ≡ Estimated u → t ≡ u
estimated-is p q = cc

module _ {card : List ℕ} {s : State} (g : Good card s) where
  estimate-fits : (z v : ℕ) → z < (map_on card).vertices → v < (map_on card).vertices
      → of_word (word (estimate_of (map_on card) z v)) ≡ estimate_of (map_on card) z v
  estimate-fits z v lz lv =
      let c = card-facts card g.accepted in
      of_word-word (estimate_of (map_on card) z v) (λ t e.
      let b = totals_fit c.vertices-high (estimate_of-bound c.valid z lz c.most v lv e) in
      omega (arith, b))

  estimate-right : (j : ℕ) (l : Lent)
      → EstimateRight (map_on card) (machine_of s) j (step card s (record { asked = Estimate j; lent = l }))
  unfolding step
  estimate-right j l z e t a = go (asked_of card s c) refl a
    where
      c : Call
      c = record { asked = Estimate j; lent = l }

      go : (x : Option Refusal) → asked_of card s c ≡ x → (unless x s l (estimate_made (map_on card) s j l)).answer ≡ Estimated t
          → IsLeast (BasePath (map_on card) j z) (of_word t)
      go (some q) h b = absurd (estimated_not_refused refl b)
      go none h b =
          let M = map_on card in
          let facts = card-facts card g.accepted in
          let q = estimate-passed g j (after_9 g c h) in
          let k : target_of s.header.target ≡ z = ap target_of e in
          let lz = target_in g z e q.1 in
          let v : t ≡ word (estimate_of M z j) = sym (estimated-is refl b) ∙ ap (λ (y : ℕ). word (estimate_of M y j)) k in
          let f : of_word t ≡ estimate_of M z j = ap of_word v ∙ estimate-fits z j lz q.0 in
          rw f (listed-least (estimate_of-least facts.valid z lz j q.0))

  -- a preview's two totals, of a class that 18 passed: least at the times in force and at these with that one replaced, as the class meets
  -- both
  preview-least : (c i t j : ℕ) (l : Lent) → (q : PreviewPassed g c i t j) → (z : ℕ) → z < (map_on card).vertices
      → let M = map_on card in
      let access = access_of (access_in card) in
      let live = s.areas.live in
      IsLeast (OpenPath M (class_live access c (live_of live)) j z) (total_of (search_of M (class_times access c live) j z))
      × IsLeast (OpenPath M (class_live access c (changed (live_of live) i (of_word t))) j z)
      (total_of (search_of M (class_times access c (set live i t)) j z))
  preview-least c i t j l q z lz =
      let M = map_on card in
      let access = access_of (access_in card) in
      let live = s.areas.live in
      let g' = set-good g i t l q.settable-there in
      let li = (set-passed g i t q.settable-there).0 in
      let lives = set-lives live i t (omega (arith, li, g.lengths.live)) in
      let now = (go-demand (met-good g c) j z q.start lz).total in
      let then = (go-demand (met-good g' c) j z q.start lz).total in (
        subst (λ (f : ℕ → Total). IsLeast (OpenPath M f j z) (total_of (search_of M (class_times access c live) j z)))
            (met-lives g c q.class) now,
        subst (λ (f : ℕ → Total). IsLeast (OpenPath M f j z) (total_of (search_of M (class_times access c (set live i t)) j z)))
            (met-lives g' c q.class ∙ ap (class_live access c) (sym lives)) then,
      )

  preview-right : (c i t j w : ℕ) (l : Lent)
      → PreviewRight (card_map card) (machine_of s) c i t j (step card s (record { asked = Preview c i t j w; lent = l }))
  unfolding step
  preview-right c i t j w l z e a b d h = go (asked_of card s call) refl h
    where
      call : Call
      call = record { asked = Preview c i t j w; lent = l }

      Totals : ℕ → Type 0
      Totals y =
          let access = access_of (access_in card) in
          let live = live_of s.areas.live in
          TotalsRight (map_on card) (class_live access c live) (class_live access c (changed live i (of_word t))) j y a b d

      go : (x : Option Refusal) → asked_of card s call ≡ x
          → (unless x s l (preview_made (card_map card) s c i t j l)).answer ≡ Previewed a b d
          → Totals z
      go (some q) h x = absurd (previewed_not_refused refl x)
      go none h x =
          let q = preview-passed g c i t j w (after_9 g call h) in
          let (now, then) = preview-least c i t j l q (target_of s.header.target) (in_force g q.aimed) in
          subst Totals (ap target_of e) (totals_right now then x)

-- ---- the unit's answers are the machine's, and the machine goes on as the unit does

-- the same questions refuse
same-unless : (x : Option Refusal) (s : State) (m : Machine) (l : Lent) (u : Step) (t : Told) → (x ≡ none → Same u t)
    → Same (unless x s l u) (unless_asked x m t)
same-unless none s m l u t f = f refl
same-unless (some q) s m l u t f = record { answer = refl; roads = refl; log = refl }

next-unless : (x : Option Refusal) (s : State) (l : Lent) (u : Step) (t : Told) → (x ≡ none → t.next ≡ machine_of u.state)
    → (unless_asked x (machine_of s) t).next ≡ machine_of (unless x s l u).state
next-unless none s l u t f = f refl
next-unless (some q) s l u t f = refl

module _ {card : List ℕ} {s : State} (g : Good card s) where
  -- a call that no question refuses
  same-made : (a : Asked) (l : Lent) → refusal_by (map_on card).base.cost s.header (record { asked = a; lent = l }) ≡ none
      → Same (made (card_map card) s a l) (told_of (card_map card) (machine_of s) a)
  same-made (Set i t) l h = record { answer = refl; roads = refl; log = refl }
  same-made (Aim j) l h = record { answer = refl; roads = refl; log = refl }
  same-made (Estimate j) l h =
      let q = estimate-passed g j h in
      let z = target_of s.header.target in
      let lz = in_force g q.1 in
      record { answer = rw (estimate-is g z j lz q.0); roads = refl; log = refl }
  same-made (Preview c i t j w) l h =
      let q = preview-passed g c i t j w h in
      let z = target_of s.header.target in
      let lz = in_force g q.aimed in
      let (now, then) = preview-least g c i t j l q z lz in
      let valid = (card-facts card g.accepted).valid in
      let one = least_unique now (time_of-least valid _ j z) in
      let two = least_unique then (time_of-least valid _ j z) in
      record { answer = ap₂ preview_answer one two; roads = refl; log = refl }
  same-made (Go c j) l h =
      let q = go-passed g c j (length l.route) (length l.log) h in
      go-told g c j l q.class q.start q.target
  same-made (Stops c stops) l h = stops-told g c stops l (stops-passed g c stops (length l.route) (length l.log) h)

  next-made : (a : Asked) (l : Lent) → refusal_by (map_on card).base.cost s.header (record { asked = a; lent = l }) ≡ none
      → (told_of (card_map card) (machine_of s) a).next ≡ machine_of (made (card_map card) s a l).state
  next-made (Set i t) l h =
      let q = set-passed g i t h in
      ap (λ (f : ℕ → Total). record { live = f; target = s.header.target })
      (set-lives s.areas.live i t (omega (arith, q.0, g.lengths.live)))
  next-made (Aim j) l h = refl
  next-made (Estimate j) l h = refl
  next-made (Go c j) l h =
      let live = class_live (access_of (access_in card)) c (live_of s.areas.live) in
      told-next (time_of (map_on card) live j (target_of s.header.target)) _ (machine_of s)
  next-made (Preview c i t j w) l h = refl
  next-made (Stops c stops) l h = stops-next g c stops l (stops-passed g c stops (length l.route) (length l.log) h)

  same : (c : Call) → Same (step card s c) (machine_step (card_map card) (machine_of s) (plain c))
  unfolding step
  same c =
      rw (← asked_is g c)
      (same-unless (asked_of card s c) s (machine_of s) c.lent (made (card_map card) s c.asked c.lent) _ (λ h.
      same-made c.asked c.lent (after_9 g c h)))

  goes_on : (c : Call) → (machine_step (card_map card) (machine_of s) (plain c)).next ≡ machine_of (step card s c).state
  unfolding step
  goes_on c =
      rw (← asked_is g c)
      (next-unless (asked_of card s c) s c.lent (made (card_map card) s c.asked c.lent) _ (λ h.
      next-made c.asked c.lent (after_9 g c h)))

  right : (a : Asked) (l : Lent) → Right (card_map card) (machine_of s) a l (step card s (record { asked = a; lent = l }))
  right (Set i t) l = tt
  right (Aim j) l = tt
  right (Estimate j) l = estimate-right g j l
  right (Go c j) l = go_right g c j l
  right (Preview c i t j w) l = preview-right g c i t j w l
  right (Stops c stops) l = stops-right g c stops l

  at_call : (c : Call) → AtCall (card_map card) (machine_of s) c (step card s c)
  at_call c = record { right = right c.asked c.lent; same = same c }

-- from any good state
pub demand3-from : {card : List ℕ} (s : State) (m : Machine) → Good card s → m ≡ machine_of s → (l : List Call)
    → Demand3 (card_map card) m l (steps card s l)
demand3-from s m g e [] = tt
demand3-from {card} s m g e (c ∷ l) = (
  rw e (at_call g c),
  demand3-from (step card s c).state (machine_step (card_map card) m (plain c)).next (step-good g c) (rw e (goes_on g c)) l,
)

-- the machine starts as the prepared unit does
started-is : (card : List ℕ) (a : Areas) → PreparedFacts card a → started (map_on card) ≡ machine_of (fresh card a)
started-is card a f = ap (λ (h : ℕ → Total). record { live = h; target = Absent }) (fun_ext (λ i. at i (dec_lt i (map_on card).base.arcs)))
  where
    at : (i : ℕ) → Dec (i < (map_on card).base.arcs)
        → (map_on card).base.cost i ≡ live_of (listed (map_on card).base.arcs (λ i. word ((map_on card).base.cost i))) i
    at i (yes l) =
        let b = ((card-facts card f.card-ok).roads i l).high in
        rw (listed_at (map_on card).base.arcs (λ i. word ((map_on card).base.cost i)) i l)
        (sym (of_word-some (get_or (rows_of card).roads (3 * i + 2) 0) (omega (arith, b))))
    at i (no l) =
        let p : get_or (rows_of card).roads (3 * i + 2) 0 ≡ 0 = get_or-eq_default (rows_of card).roads 0 (omega arith) in
        let base = listed (map_on card).base.arcs (λ i. word ((map_on card).base.cost i)) in
        let k = listed-length (map_on card).base.arcs (λ i. word ((map_on card).base.cost i)) in
        let q : get_or base i 0 ≡ 0 = get_or-eq_default base 0 (omega (arith, k)) in
        rw (p, q) (sym (of_word-some 0 (lit< tt)))

-- DEMAND 3: for every card that preparing accepts on given areas, and every list of calls.
pub demand3 : (card : List ℕ) (a : Areas) → (prepare card a).answer ≡ Accepted → (calls : List Call)
    → Demand3 (card_map card) (started (map_on card)) calls (steps card (prepare card a).state calls)
demand3 card a e calls =
    let f = prepared-facts card a e in
    demand3-from (prepare card a).state (started (map_on card)) (prepared-good card a e)
    (started-is card a f ∙ ap machine_of (sym f.leaves)) calls

-- question 9 passes at every call of the list
pub fits_along : (card : List ℕ) (a : Areas) → (prepare card a).answer ≡ Accepted → (calls : List Call)
    → fitting card (run card (prepare card a).state calls) ≡ true
fits_along card a e calls = good-fits (run-good (prepare card a).state calls (prepared-good card a e))

-- A1: "both match the card after every call from fresh"
pub groups_stay : (card : List ℕ) (a : Areas) → (prepare card a).answer ≡ Accepted → (calls : List Call)
    → let built = (run card (prepare card a).state calls).areas.built in
    (built.leaving ≡ leaving_of (map_on card)) × (built.groups ≡ groups_of (map_on card))
groups_stay card a e calls =
    let g = run-good (prepare card a).state calls (prepared-good card a e) in
    (g.leaving-is, g.groups_are)

-- what the figures of a go speak of: a junction's least time from the start, and its estimate
pub least_totals : (card : List ℕ) → CardFacts card → (live : ℕ → Total) (s z v : ℕ)
    → IsLeast (LivePath (map_on card) live s v) (time_of (map_on card) live s v)
    × IsLeast (BasePath (map_on card) v z) (least_base (map_on card) z v)
least_totals card c live s z v = (
  listed-least (time_of-least c.valid live s v),
  listed-least (dist-least (direct-least (map_on card).base) (ends-below c.valid.inside) v z),
)

-- Demand 3 leaves nothing of a go's total, count and log open: two answers that are right have the same, with a chain and without one.
module _ {M : Map} {live : ℕ → Total} {s z c c' : ℕ} {a a' : Lent} where
  pub total-one : {T T' k k' : ℕ} → RouteRight M live s z T c k a → RouteRight M live s z T' c' k' a' → T ≡ T'
  total-one {T} {T'} {k} {k'} r r' =
      let one = r.least T' (record { arcs = take k' a'.route; leads = r'.leads; sums = r'.total }) in
      let two = r'.least T (record { arcs = take k a.route; leads = r.leads; sums = r.total }) in
      omega (arith, one, two)

  pub found-one : {T T' k k' : ℕ} → RouteRight M live s z T c k a → RouteRight M live s z T' c' k' a' → SameLog c c' a.log a'.log
  found-one r r' =
      let same = total-one r r' in
      record {
        count = r.count ∙ ap (λ (t : ℕ). effort M (within_total M live s z t)) same ∙ sym r'.count;
        log = r.log ∙ ap (λ (t : ℕ). effort_log M live s z (within_total M live s z t)) same ∙ sym r'.log;
      }

  pub lost-one : LostRight M live s z c a → LostRight M live s z c' a' → SameLog c c' a.log a'.log
  lost-one r r' = record { count = r.count ∙ sym r'.count; log = r.log ∙ sym r'.log }

-- only those junctions are logged that open roads reach and that have an estimate
pub logged-reached : {card : List ℕ} {s : State} → Good card s → (j z : ℕ) → j < (map_on card).vertices → z < (map_on card).vertices
    → (e : Entry) → Memᴰ e (log_of (search_of (map_on card) s.areas.live j z))
    → LivePath (map_on card) (live_of s.areas.live) j e.vertex e.time × ((t : ℕ) × (estimate_of (map_on card) z e.vertex ≡ some t))
unfolding go_of
logged-reached {card} {s} g j z lj lz e m =
    let k = log-keyed (go_well_formed (card-facts card g.accepted).valid (good_slower g) by_time lj lz) e m in
    (path-listed (((go-demand g j z lj lz).times e m).attained e.time refl), (k.estimate, k.pot-is))

pub lent-lengths : {card : List ℕ} {s : State} → Good card s → (c : Call) → SameLengths (step card s c).lent c.lent
unfolding step
lent-lengths {card} {s} g c = go (asked_of card s c) refl
  where
    of_made : (a : Asked) (l : Lent) → refusal_by (map_on card).base.cost s.header (record { asked = a; lent = l }) ≡ none
        → SameLengths (made (card_map card) s a l).lent l
    of_made (Set i t) l h = record { route = refl; log = refl }
    of_made (Aim j) l h = record { route = refl; log = refl }
    of_made (Estimate j) l h = record { route = refl; log = refl }
    of_made (Preview c i t j w) l h = record { route = refl; log = refl }
    of_made (Go c j) l h =
        let q = go-passed g c j (length l.route) (length l.log) h in
        go-lengths g c j l q.start q.target q.route q.log
    of_made (Stops c stops) l h = stops-lengths g c stops l (stops-passed g c stops (length l.route) (length l.log) h)

    go : (x : Option Refusal) → asked_of card s c ≡ x
        → SameLengths (unless x s c.lent (made (card_map card) s c.asked c.lent)).lent c.lent
    go (some q) h = record { route = refl; log = refl }
    go none h = of_made c.asked c.lent (after_9 g c h)
