-- The log as an exact list (document 02, A5), over an abstract problem whose arcs cost something and whose equal keys go by time.
-- Proves that it is in the order of key, time and number; that of a search which finds its one goal it is all vertices whose key is
-- within the total, if only the goal has the potential 0 (`log-found`); and that of one which finds none it is all vertices that a walk
-- reaches and that have a potential (`log-lost`). Assumes nothing.
use Rattle.std.proofs.Common.{◌∙◌, ap, ap₂, sym, inl, inr, arith}
use Rattle.std.specs.Prelude.{◌≡◌, ◌⊎◌, Bool, false, ◌+◌, ◌<◌, ◌≤◌, ℕ}
use Rattle.std.proofs.Math.Path.{refl}
use Rattle.std.proofs.Math.Bool.{true}
use Rattle.std.proofs.Math.Option.{none, some}
use mathlib.Core.List.Memᴰ
use mathlib.Core.List.{List, Memᴰ, [], ◌∷◌, reverse}
use mathlib.Core.List.{reverse_aux}
use Rattle.graph.specs.Total.{Tested, Total, ◌⊕◌, is_number, no_more}
use Rattle.graph.proofs.Total.{decide, is_number_true, no_more_true, none-some, some-some}
use Rattle.graph.proofs.Total.{true_false, true_is_number, true_no_more, within, ⊕-some}
use Rattle.graph.specs.Least.{IsLeast}
use Rattle.graph.proofs.Least.{least_unique}
use Rattle.graph.specs.Lists.{Ordered, ordered_cons, ordered_nil}
use Rattle.graph.specs.Network.{Arc}
use Rattle.graph.proofs.Potential.{falls-by}
use Rattle.graph.specs.Search.{Entry, Problem, history, log_of, total_of, vertices}
use Rattle.graph.specs.Walk.{Offer, TimeIs, Walk, WellFormed, by_arc, by_start}
use Rattle.graph.proofs.Walk.{time_in-cases, time_in-none}
use Rattle.graph.specs.Choice.{Prior, chosen}
use Rattle.graph.proofs.Choice.{prior_trans}
use Rattle.graph.specs.History.{Ahead, LastArc, Logged, Reached, grow}
use Rattle.graph.proofs.History.{candidate_of, frontier, keyed, logged-least, offer_of}
use Rattle.graph.proofs.History.{walk_no_sooner}
use Rattle.graph.proofs.Complete.{distinct_vertices, vertices-mem}
use Rattle.graph.proofs.Within.{goal-key, keys-within, logged-key, logged-vertex, reached-logged}
use Rattle.graph.specs.Answer.{Ended, found, lost}
use Rattle.graph.proofs.Answer.{end}
use Rattle.graph.proofs.Sorted.{sorted-reverse}
use Rattle.graph.specs.LogOrder.{Passing, in_order, key_of, sooner}
use Rattle.graph.proofs.LogOrder.{in_order-one, true_sooner}
use Rattle.graph.specs.Exact.{Positive}

module _ {G : Problem} (wf : WellFormed G) (positive : Positive (Arc G.net)) (by-time : (t : ℕ) → G.tie t ≡ t) where
  -- ---- the log is in order

  -- An entry comes before the next one: that was a candidate already, or comes by an arc from the entry, and so at a later time.
  prior-next : {b c : Entry} {H : List Entry} → Reached G (c ∷ b ∷ H) → Prior G b c
  prior-next (grow {c} (grow {c = b} {H} r g (chosen kb prb)) g' (chosen kc prc)) = by-offer (offer_of G kc)
    where
      old : Offer G H c.vertex c.time → Prior G b c
      old o =
          let unlogged = (time_in-none b H c.vertex kc.unlogged).1 in
          let (d, candidate, at, time-le, key-is) =
          candidate_of wf H c.vertex c.time kc.estimate kc.below unlogged kc.pot-is o in
          let p = prb d candidate in
          let key-le : d.key ≤ c.key = omega (arith, kc.key-is, key-is, time-le) in
          let tie-le : G.tie d.time ≤ G.tie c.time = omega (arith, by-time d.time, by-time c.time, time-le) in
          record {
            keys = omega (arith, p.keys, key-le);
            ties = λ e. omega (arith, tie-le, p.ties (omega (arith, e, p.keys, key-le)));
            numbers = λ e f. (
                let k : b.key ≡ d.key = omega (arith, e, p.keys, key-le) in
                let t : G.tie b.time ≡ G.tie d.time = omega (arith, f, tie-le, p.ties k) in
                omega (arith, at, p.numbers k t));
          }

      by-arc : (u s d : ℕ) → Arc G.net u c.vertex d → c.time ≡ s + d → TimeIs b H u s → Prior G b c
      by-arc u s d a q (inr e) = old (by_arc e.1 a q)
      by-arc u s d a q (inl e) =
          let p = falls-by G.pot wf.consistent kc.estimate a kc.pot-is in
          let same : kb.estimate ≡ p.0 = some-some kb.pot-is (ap G.pot e.0 ∙ p.1) in
          let later : b.time < c.time = omega (arith, q, e.1, positive u c.vertex d a) in
          let tie-later : G.tie b.time < G.tie c.time = omega (arith, by-time b.time, by-time c.time, later) in
          record {
            keys = omega (arith, kb.key-is, kc.key-is, p.2, same, e.1, q);
            ties = λ i. omega (arith, tie-later);
            numbers = λ i j. absurd (omega (arith, tie-later, j));
          }

      by-offer : Offer G (b ∷ H) c.vertex c.time → Prior G b c
      by-offer (by_start q) = old (by_start q)
      by-offer (by_arc {u} {s} {c = d} h a q) = by-arc u s d a q (time_in-cases b H u s h)

  history_ordered : (H : List Entry) → Reached G H → Ordered (λ a b. Prior G b a) H
  history_ordered [] r = ordered_nil
  history_ordered (c ∷ []) r = ordered_cons (λ b m. absurd (Memᴰ.not-nil m)) ordered_nil
  history_ordered (c ∷ b ∷ H) r = go (history_ordered (b ∷ H) (older r))
    where
      older : {x : Entry} {L : List Entry} → Reached G (x ∷ L) → Reached G L
      older (grow s g n) = s

      go : Ordered (λ x y. Prior G y x) (b ∷ H) → Ordered (λ x y. Prior G y x) (c ∷ b ∷ H)
      go (ordered_cons h o) = ordered_cons (λ x m. at x (Memᴰ.cases_cons m)) (ordered_cons h o)
        where
          at : (x : Entry) → (x ≡ b) ⊎ Memᴰ x H → Prior G x c
          at x (inl i) = rw i (prior-next r)
          at x (inr m) = prior_trans G x b c (h x m) (prior-next r)

  -- ---- what is within the total is logged before the goal

  -- A candidate on the way to v that goes no sooner than the goal would have the goal's key and time, and so the potential 0.
  module _ (zero-goal : (v : ℕ) → v < G.size → G.pot v ≡ some 0 → G.goal v ≡ true) where
    pub within-logged : {c : Entry} {H : List Entry} → Reached G (c ∷ H) → G.goal c.vertex ≡ true
        → (v s p : ℕ) → G.goal v ≡ false → Walk G v s → G.pot v ≡ some p → s + p ≤ c.time → Logged H v s
    within-logged (grow {c} {H} r g (chosen k pr)) q v s p ng w pot le = meet (frontier wf H (walk_no_sooner wf r) w p pot)
      where
        on-time : c.key ≡ c.time
        on-time = goal-key wf (grow r g (chosen k pr)) c (Memᴰ.head refl) q

        -- x is no sooner than the goal: it is not v, which is none, nor before the last arc to v, which costs something
        placed : (x : Entry) → G.goal x.vertex ≡ true → c.time ≤ x.time → (x.vertex ≡ v) ⊎ LastArc G.net v x.time s → ⊥
        placed x gx l (inl i) = true_false (ap G.goal (sym i) ∙ gx) ng
        placed x gx l (inr a) = omega (arith, l, a.in_time, positive a.from v a.cost a.arc, le)

        meet : Logged H v s ⊎ Ahead G H v s p → Logged H v s
        meet (inl l) = l
        meet (inr a) =
            let x = a.entry in
            let kx = a.candidate in
            let f = pr x kx in
            let same : c.key ≡ x.key = omega (arith, f.keys, a.key-le, le, on-time) in
            let late : c.time ≤ x.time = omega (arith, f.ties same, by-time c.time, by-time x.time) in
            let z : kx.estimate ≡ 0 = omega (arith, same, late, kx.key-is, on-time) in
            absurd (placed x (zero-goal x.vertex kx.below (kx.pot-is ∙ ap some z)) late a.place)

-- ---- the log as a whole

reverse-vertices : (H L : List Entry) → vertices (reverse_aux H L) ≡ reverse_aux (vertices H) (vertices L)
unfolding vertices
reverse-vertices [] L = refl
reverse-vertices (e ∷ H) L = reverse-vertices H (e ∷ L)

module _ {G : Problem} (wf : WellFormed G) {time : ℕ → Total} (time-least : (v : ℕ) → IsLeast (Walk G v) (time v)) where
  -- An entry has its vertex's least time, and its key.
  entry-time : {H : List Entry} → Reached G H → (e : Entry) → Memᴰ e H → time e.vertex ≡ some e.time
  entry-time r e m = least_unique (time-least e.vertex) (logged-least wf r e m)

  entry_key : {H : List Entry} → Reached G H → (e : Entry) → Memᴰ e H → key_of time G.pot e.vertex ≡ some e.key
  entry_key r e m = let k = keyed wf r e m in ap₂ ◌⊕◌ (entry-time r e m) k.pot-is ∙ ap some (sym k.key-is)

  module _ (positive : Positive (Arc G.net)) (by-time : (t : ℕ) → G.tie t ≡ t) where
    prior-sooner : {H : List Entry} → Reached G H → (b c : Entry) → Memᴰ b H → Memᴰ c H → Prior G b c
        → sooner time G.pot b.vertex c.vertex ≡ true
    prior-sooner r b c mb mc p =
        let bk = entry_key r b mb in
        let ck = entry_key r c mc in
        let bt = entry-time r b mb in
        let ct = entry-time r c mc in
        let times : b.key ≡ c.key → b.time ≤ c.time = λ e. omega (arith, p.ties e, by-time b.time, by-time c.time) in
        let key-eq : key_of time G.pot b.vertex ≡ key_of time G.pot c.vertex → b.key ≡ c.key = λ e. some-some bk (e ∙ ck) in
        let time-eq : time b.vertex ≡ time c.vertex → b.time ≡ c.time = λ e. some-some bt (e ∙ ct) in
        true_sooner time G.pot b.vertex c.vertex (record {
          keys = rw (bk, ck) p.keys;
          times = λ e. rw (bt, ct) (times (key-eq e));
          numbers = λ e f. p.numbers (key-eq e) (ap G.tie (time-eq f));
        })

    ordered_vertices : {H : List Entry} → Reached G H → (L : List Entry) → ((e : Entry) → Memᴰ e L → Memᴰ e H)
        → Ordered (λ a b. Prior G b a) L → Ordered (λ u v. sooner time G.pot v u ≡ true) (vertices L)
    unfolding vertices
    ordered_vertices r [] sub ordered_nil = ordered_nil
    ordered_vertices r (e ∷ L) sub (ordered_cons h o) =
        ordered_cons earlier (ordered_vertices r L (λ x m. sub x (Memᴰ.tail m)) o)
      where
        earlier : (v : ℕ) → Memᴰ v (vertices L) → sooner time G.pot v e.vertex ≡ true
        earlier v m =
            let (x, mem, is) = vertices-mem L v m in
            rw is (prior-sooner r x e (sub x (Memᴰ.tail mem)) (sub e (Memᴰ.head refl)) (h x mem))

    -- A history whose vertices are just those that pass a test.
    log_of_lem : {H : List Entry} → Reached G H → (p : ℕ → Bool) → ((v : ℕ) → Memᴰ v (vertices H) → Passing p G.size v)
        → ((v : ℕ) → Passing p G.size v → Memᴰ v (vertices H)) → vertices (reverse H) ≡ in_order time G.pot p G.size
    unfolding vertices
    log_of_lem {H} r p only all =
        reverse-vertices H []
        ∙ in_order-one time G.pot p G.size
        (sorted-reverse (ordered_vertices r H (λ e m. m) (history_ordered wf positive by-time H r)) (distinct_vertices wf r) only all)

    -- A5: "Where no chain exists, it is exactly the junctions reached by open roads that have an estimate."
    lost_in : (H : List Entry) (X : Total) → Ended G H X → X ≡ none
        → vertices (reverse H) ≡ in_order time G.pot (λ v. is_number (key_of time G.pot v)) G.size
    lost_in _ _ (found r g) q = absurd (none-some q refl)
    lost_in _ _ (lost {H} r f n) q =
        log_of_lem r (λ v. is_number (key_of time G.pot v))
        (λ v m. (
        let (e, _, below, key-is) = logged-key wf time-least r v m in
        record { below = below; passes = true_is_number (key_of time G.pot v) e.key key-is }))
        (λ v k. (
        let (t, number) = is_number_true (key_of time G.pot v) k.passes in
        let (s, p, time-is, pot-is, _) = ⊕-some (time v) (G.pot v) t number in
        let l = reached-logged wf time-least r n v s p ((time-least v).attained s time-is) pot-is in
        logged-vertex H v l.at l.time-is))

    pub log-lost : total_of G ≡ none → vertices (log_of G) ≡ in_order time G.pot (λ v. is_number (key_of time G.pot v)) G.size
    unfolding log_of
    log-lost q = lost_in (history G) (total_of G) (end wf) q

    -- A5: "exactly .. [the] junctions whose least time from the start plus estimate is no more than the total. The log is those junctions
    -- sorted by key, time, number."
    module _ (zero-goal : (v : ℕ) → v < G.size → G.pot v ≡ some 0 → G.goal v ≡ true)
        (one-goal : (u v : ℕ) → G.goal u ≡ true → G.goal v ≡ true → u ≡ v) where
      -- what is no goal and within the total is logged before the goal
      in_time : {c : Entry} {H : List Entry} → Reached G (c ∷ H) → G.goal c.vertex ≡ true → (v : ℕ) → G.goal v ≡ false
          → no_more (key_of time G.pot v) (some c.time) ≡ true → Memᴰ v (vertices H)
      in_time {c} {H} R q v f t =
          let (k, key-is, key-le) = within (key_of time G.pot v) c.time (no_more_true (key_of time G.pot v) (some c.time) t) in
          let (s, p, time-is, pot-is, adds) = ⊕-some (time v) (G.pot v) k key-is in
          let walk = (time-least v).attained s time-is in
          let l = within-logged wf positive by-time zero-goal R q v s p f walk pot-is (omega (arith, key-le, adds)) in
          logged-vertex H v l.at l.time-is

      found_in : (H : List Entry) (X : Total) → Ended G H X → (T : ℕ) → X ≡ some T
          → vertices (reverse H) ≡ in_order time G.pot (λ v. no_more (key_of time G.pot v) (some T)) G.size
      unfolding vertices
      found_in _ _ (lost r f n) T q = absurd (none-some refl q)
      found_in _ _ (found {c} {H} r g) T q =
          let z : c.time ≡ T = some-some refl q in
          rw (← z) (log_of_lem r (λ v. no_more (key_of time G.pot v) (some c.time)) only (λ v k. all v k.passes (decide (G.goal v))))
        where
          only : (v : ℕ) → Memᴰ v (vertices (c ∷ H)) → Passing (λ v. no_more (key_of time G.pot v) (some c.time)) G.size v
          only v m =
              let (e, mem, below, key-is) = logged-key wf time-least r v m in
              let key-le = keys-within wf r c (Memᴰ.head refl) g e mem in
              record { below = below; passes = rw key-is (true_no_more (some e.key) (some c.time) key-le) }

          all : (v : ℕ) → no_more (key_of time G.pot v) (some c.time) ≡ true → Tested (G.goal v) → Memᴰ v (vertices (c ∷ H))
          all v t (inl h) = Memᴰ.head (one-goal v c.vertex h g)
          all v t (inr h) = Memᴰ.tail (in_time r g v h t)

      pub log-found : (T : ℕ) → total_of G ≡ some T
          → vertices (log_of G) ≡ in_order time G.pot (λ v. no_more (key_of time G.pot v) (some T)) G.size
      unfolding log_of
      log-found T q = found_in (history G) (total_of G) (end wf) T q
