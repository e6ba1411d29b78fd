-- The end of a search: its answer and its areas are those of the definitions. Assumes nothing.
use mathlib.Core.Path.{◌∙◌, ◌≡◌, ap, refl, sym}
use mathlib.Core.Logic.{◌⊎◌, inl, inr}
use mathlib.Core.Bool.{Bool, ◌&&◌, false, not, true}
use mathlib.Core.Option.{none, some}
use mathlib.Core.List.{List, [], ◌∷◌}
use Prim.Native.Nat.{◌*◌, ◌<◌, ◌≤◌, ℕ}
use borrow.Author.Tests.{eq-eqb, eqb-false, eqb-true, lt-ltb, ne_eqb, not-true}
use lib.Dec.{eqb}
use lib.ListN.{get_or, length}
use native.Mathlib.Decide.{ℕ_discrete}
use native.Mathlib.Omega.{arith}
use Rattle.graph.specs.Total.{Tested, Total, is_number}
use Rattle.graph.proofs.Total.{and_true, decide, decide_option, is_number_true, none-some, true_false, true_is_number}
use Rattle.graph.specs.Least.{any_below}
use Rattle.graph.proofs.Least.{any_below_true, true_any_below}
use Rattle.graph.specs.Search.{Entry, Problem, back, has_goal, history, is, log_of, route_of, time_in, total_of, way_in}
use Rattle.graph.proofs.Walk.{time_in-here}
use Rattle.graph.proofs.Complete.{history-reached, length-le, no-goal}
use Rattle.graph.proofs.Back.{back-route, true_is}
use Rattle.graph.specs.Answer.{Ended, found, lost}
use Rattle.graph.proofs.Answer.{count-is, end}
use Rattle.graph.specs.Map.{Map, estimate_of, fills}
use Rattle.graph.specs.Go.{go_of}
use Rattle.model.specs.Limits.{most_total}
use Rattle.model.specs.Word.{none_word, word}
use Rattle.model.proofs.Word.{word_none, word_some}
use Rattle.model.specs.Layout.{road_size}
use Rattle.model.specs.Bytes.{listed, word_at}
use Rattle.model.specs.State.{first}
use Rattle.model.specs.Estimate.{filled}
use Rattle.model.specs.Go.{asks, go_asks, go_fills, go_route, live_of}
use Rattle.model.proofs.Laws.{listed_at, or_true, true_and, true_or_right}
use Rattle.model.proofs.Ends.{filled_is}
use Rattle.search_labels.specs.Labelling.{labels_in}
use Rattle.search_labels.specs.Ways.{arcs_back, way_of}
use Rattle.search_labels.specs.Ended.{arcs-back, start_no_later, way-back_is}
use Rattle.search_junctions.specs.State.{Given, Ready, go_given, map_given}
use Rattle.search_junctions.specs.Asking.{Asked, asked-head, asked-start}
use Rattle.search_junctions.specs.Ways.{step_back}
use Rattle.search_junctions.specs.Facts.{codes, ready-time}
use Rattle.search_run.specs.Runs.{Advanced, Written, written_of, back_in}
use Rattle.search.specs.Searches.{Found}

-- ---- who was asked: the definition's test
module _ (g : Given) (s z : ℕ) (H : List Entry) where
  asked_of : (a : ℕ) → go_asks (map_given g) (live_of g.live) s z H a ≡ true → Asked (go_given g s z) s z H a
  unfolding go_asks go_of
  asked_of a h = go (or_true (eqb s a) (any_below (map_given g).base.arcs road) h)
    where
      N : Map
      N = map_given g

      road : ℕ → Bool
      road i = eqb (N.base.head i) a && is_number (live_of g.live i) && is_number (time_in H (N.base.tail i))
          && not (eqb (N.base.tail i) z)

      go : (eqb s a ≡ true) ⊎ (any_below N.base.arcs road ≡ true) → Asked (go_given g s z) s z H a
      go (inl q) = asked-start (sym (eqb-true s a q))
      go (inr q) =
          let w = any_below_true N.base.arcs road q in
          let i = w.0 in
          let x = and_true (eqb (N.base.head i) a && is_number (live_of g.live i) && is_number (time_in H (N.base.tail i)))
          (not (eqb (N.base.tail i) z)) w.2 in
          let y = and_true (eqb (N.base.head i) a && is_number (live_of g.live i)) (is_number (time_in H (N.base.tail i))) x.0 in
          let u = and_true (eqb (N.base.head i) a) (is_number (live_of g.live i)) y.0 in
          let d = is_number_true (live_of g.live i) u.1 in
          let t = is_number_true (time_in H (N.base.tail i)) y.1 in
          let nz : N.base.tail i ≡ z → ⊥ = eqb-false (N.base.tail i) z (not-true (eqb (N.base.tail i) z) x.1) in
          asked-head (N.base.tail i) t.0 nz t.1 (record {
            road = i;
            cost = d.0;
            below = w.1;
            inside = w.1;
            from = refl;
            opens = d.1;
            to = eqb-true (N.base.head i) a u.0;
          })

  asks_of : (a : ℕ) → Asked (go_given g s z) s z H a → go_asks (map_given g) (live_of g.live) s z H a ≡ true
  unfolding go_asks go_of
  asks_of a (asked-start q) = rw (eq-eqb s a (sym q))
  asks_of a (asked-head u t nz h x) =
      let N = map_given g in
      let i = x.road in
      let road : ℕ → Bool = λ i. eqb (N.base.head i) a && is_number (live_of g.live i) && is_number (time_in H (N.base.tail i))
      && not (eqb (N.base.tail i) z) in
      let one : road i ≡ true = rw (
        eq-eqb (N.base.head i) a x.to,
        true_is_number (live_of g.live i) x.cost x.opens,
        true_is_number (time_in H (N.base.tail i)) t (ap (time_in H) x.from ∙ h),
        ne_eqb (N.base.tail i) z (λ q. nz (sym x.from ∙ q)),
      ) in
      true_or_right (eqb s a) (true_any_below N.base.arcs road i x.inside one)

-- ---- total and route by the time of the target
module _ (G : Problem) (z : ℕ) (goals : (v : ℕ) → G.goal v ≡ eqb v z) where
  target_of : (v : ℕ) → G.goal v ≡ true → v ≡ z
  target_of v q = eqb-true v z (sym (goals v) ∙ q)

  target-time : (H : List Entry) (T : Total) → Ended G H T → time_in H z ≡ T
  target-time _ _ (found {c} {H} r q) = time_in-here c H z (target_of c.vertex q)
  target-time _ _ (lost {H} r f n) = at (decide_option (time_in H z))
    where
      at : (time_in H z ≡ none) ⊎ ((t : ℕ) × (time_in H z ≡ some t)) → time_in H z ≡ none
      at (inl q) = q
      at (inr w) = absurd (true_false (goals z ∙ eq-eqb z z refl) (no-goal G H f z w.0 w.1))

  way-found : (H : List Entry) (T : Total) → Ended G H T → (t : ℕ) → T ≡ some t → way_in G H ≡ back G H z
  unfolding way_in
  way-found _ _ (found {c} {H} r q) t e = rw q (ap (back G (c ∷ H)) (target_of c.vertex q))
  way-found _ _ (lost r f n) t e = absurd (none-some refl e)

  way-lost : (H : List Entry) (T : Total) → Ended G H T → T ≡ none → way_in G H ≡ []
  unfolding way_in has_goal
  way-lost _ _ (found r q) e = absurd (none-some e refl)
  way-lost _ _ (lost {H} r f n) e = at H f
    where
      at : (H : List Entry) → has_goal G H ≡ false → way_in G H ≡ []
      at [] f = refl
      at (c ∷ H) f = one (decide (G.goal c.vertex))
        where
          one : Tested (G.goal c.vertex) → way_in G (c ∷ H) ≡ []
          one (inl q) = absurd (true_false refl (rw q at f))
          one (inr q) = rw q

-- ---- one step back is the tail of the road that gave the time
step_is : {g : Given} {s z : ℕ} (r : Ready g s z) (via : ℕ → ℕ) (v : ℕ) → via v < (go_given g s z).net.arcs
    → step_back g.roads via g.sizes.n g.sizes.m v ≡ (go_given g s z).net.tail (via v)
unfolding step_back
step_is {g} {s} {z} r via v li =
    let k = codes r in
    let i = via v in
    let lm : i < g.sizes.m = rw k.reads.arcs_are at li in
    let t = k.reads.tails i lm in
    let b : word_at g.roads (road_size * i) < g.sizes.n = omega (arith, k.ok.well_formed.inside.tails i li, t, k.reads.size_is) in
    rw (lt-ltb i g.sizes.m lm, lt-ltb (word_at g.roads (road_size * i)) g.sizes.n b) (sym t)

-- what a search writes of its own: of what the run leaves, all but the roads that gave the times, and the route in their place
abbrev pub routed : Written → (route : List ℕ) → Written
routed w route = written_of w.estimates w.elapsed route w.log

-- ---- from what a whole run leaves to the answer
module _ {g : Given} {s z : ℕ} (r : Ready g s z) {l l' : Written} {c : ℕ} {complete : Bool}
    (x : Advanced g s z (history (go_given g s z)) l l' c complete) where
  total-time : time_in (history (go_given g s z)) z ≡ total_of (go_given g s z)
  total-time = target-time (go_given g s z) z (codes r).goals (history (go_given g s z)) (total_of (go_given g s z))
      (end (codes r).ok.well_formed)

  total-fits : (t : ℕ) → total_of (go_given g s z) ≡ some t → t ≤ most_total
  total-fits t q = ready-time r (history-reached (go_given g s z)) z t (total-time ∙ q)

  elapsed-is : l'.elapsed ≡ listed (map_given g).vertices (λ v. word (time_in (history (go_given g s z)) v))
  elapsed-is = x.elapsed-is ∙ ap (λ (k : ℕ). listed k (λ v. word (time_in (history (go_given g s z)) v))) (sym r.n-is)

  total-word : (total : ℕ) → total ≡ get_or l'.elapsed z 0 → total ≡ word (total_of (go_given g s z))
  total-word total q =
      q ∙ ap (λ (l : List ℕ). get_or l z 0) elapsed-is
      ∙ listed_at (map_given g).vertices (λ v. word (time_in (history (go_given g s z)) v)) z (rw r.n-is r.target) ∙ ap word total-time

  estimates_are : l'.estimates ≡ filled (map_given g) z (asks (map_given g) g.live s z) l.estimates
  unfolding go_fills
  estimates_are =
      filled_is (map_given g) z (asks (map_given g) g.live s z) l.estimates l'.estimates x.filling.size right-at kept_at
    where
      M : Map
      M = map_given g

      H : List Entry
      H = history (go_given g s z)

      asked : ℕ → Bool
      asked = go_asks M (live_of g.live) s z H

      right-at : (v : ℕ) → v < M.vertices → asks M g.live s z v ≡ true → get_or l'.estimates v 0 ≡ word (estimate_of M z v)
      right-at v lv q =
          let w = any_below_true M.vertices (λ a. asked a && fills M a v) q in
          let y = and_true (asked w.0) (fills M w.0 v) w.2 in
          x.filling.right w.0 w.1 (asked_of g s z H w.0 y.0) v lv y.1

      kept_at : (v : ℕ) → v < M.vertices → asks M g.live s z v ≡ false → get_or l'.estimates v 0 ≡ get_or l.estimates v 0
      kept_at v lv q =
          x.filling.kept v lv
          (λ a la y f. true_false (true_any_below M.vertices (λ a. asked a && fills M a v) a la
          (true_and (asked a) (fills M a v) (asks_of g s z H a y) f)) q)

  -- the start's time is its start time, and no other junction has one
  begins-is : (v t : ℕ) → time_in (history (go_given g s z)) v ≡ some t → eqb v s ≡ is ((go_given g s z).start v) t
  unfolding is
  begins-is v t h = at (ℕ_discrete v s)
    where
      at : Dec (v ≡ s) → eqb v s ≡ is ((go_given g s z).start v) t
      at (yes q) =
          let e : (go_given g s z).start v ≡ some 0 = ap (go_given g s z).start q ∙ (codes r).start-here in
          let b = start_no_later (history-reached (go_given g s z)) v t 0 h e in
          eq-eqb v s q ∙ sym (true_is ((go_given g s z).start v) t (e ∙ ap some (omega arith)))
      at (no q) = ne_eqb v s q ∙ sym (ap (λ (y : Total). is y t) ((codes r).start_elsewhere v q))

  module _ {time : ℕ} (read : time ≡ get_or l'.elapsed z 0) {route₀ : List ℕ} where
    -- what does not depend on the route
    found_with : {total : Total} {number : ℕ} {route : List ℕ} → total ≡ total_of (go_given g s z)
        → number ≡ length (route_of (go_given g s z))
        → route ≡ go_route (total_of (go_given g s z)) (route_of (go_given g s z)) route₀
        → Found g s z (routed l route₀) (routed l' route) total c number
    unfolding log_of
    found_with total-is a b = record {
      least = record { total-is = total-is; fits = total-fits; estimates_are = estimates_are };
      count-is = x.count-is ∙ count-is (codes r).ok.well_formed;
      number_is = a;
      elapsed-is = elapsed-is;
      route-is = b;
      log_is = x.log_is;
    }

    -- no path
    pub answer-lost : eqb time none_word ≡ true → Found g s z (routed l route₀) (routed l' route₀) none c 0
    unfolding route_of
    answer-lost q =
        let p = word_none time (total_of (go_given g s z)) (total-word time read) (λ t e. omega (arith, total-fits t e))
        (eqb-true time none_word q) in
        let w = way-lost (go_given g s z) z (codes r).goals (history (go_given g s z)) (total_of (go_given g s z))
        (end (codes r).ok.well_formed) p in
        found_with (sym p) (ap length (sym w)) (ap (λ (T : Total). go_route T (route_of (go_given g s z)) route₀) (sym p))

    -- the route
    pub answer-found : {number : ℕ} {route : List ℕ} → eqb time none_word ≡ false
        → number ≡ arcs_back (λ u. eqb u s) (back_in g.roads l'.ways g.sizes.n g.sizes.m) g.sizes.n z
        → route ≡ first
        (way_of (labels_in g.sizes.n l'.ways).vias (back_in g.roads l'.ways g.sizes.n g.sizes.m) number z)
        route₀
        → Found g s z (routed l route₀) (routed l' route) (some time) c number
    unfolding route_of
    answer-found {number} q a b =
        let k = codes r in
        let G = go_given g s z in
        let via = (labels_in g.sizes.n l'.ways).vias in
        let before = step_back g.roads via g.sizes.n g.sizes.m in
        let p = word_some time (total_of G) (total-word time read) (eqb-false time none_word q) in
        let w : way_in G (history G) ≡ back G (history G) z = way-found G z k.goals (history G) (total_of G) (end k.ok.well_formed)
        p.0 p.1 in
        let h : time_in (history G) z ≡ some p.0 = total-time ∙ p.1 in
        let lz : z < G.size = rw k.reads.size_is r.target in
        let short = (back-route G (history-reached G) z p.0 h).1 in
        let le : length (back G (history G) z) ≤ g.sizes.n = omega (
          arith,
          short,
          length-le k.ok.well_formed (history-reached G),
          k.reads.size_is,
        ) in
        let steps : (v : ℕ) → v < G.size → via v < G.net.arcs → before v ≡ G.net.tail (via v) = λ v lv li. step_is r via v li in
        let y : number ≡ length (back G (history G) z) = a
        ∙ arcs-back k.ok.well_formed x.ways (λ v t lv e. begins-is v t e) steps g.sizes.n z p.0 lz h le in
        let u : way_of via before number z ≡ back G (history G) z =
        way-back_is k.ok.well_formed x.ways (λ v t lv e. begins-is v t e) steps number z p.0 lz h (sym y) in
        found_with (ap some p.2 ∙ sym p.1) (y ∙ ap length (sym w))
        (b ∙ ap (λ (l : List ℕ). first l route₀) (u ∙ sym w) ∙ ap (λ (T : Total). go_route T (route_of G) route₀) (sym p.1))
