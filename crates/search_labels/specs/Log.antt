-- Labels as the log grows: where all arcs are relaxed, their keys are the candidates' sums (`sums_kept`), and what is logged is settled
-- (`labels-log`). Assumes nothing.
use Rattle.std.proofs.Common.{◌∙◌, ap, sym, inl, inr, arith}
use Rattle.std.specs.Prelude.{◌≡◌, refl, ◌⊎◌, false, List, [], ◌++◌, ◌∷◌, ◌*◌, ◌+◌, ◌<◌, ◌≤◌, ℕ, get_or}
use Rattle.std.proofs.Math.Option.{none, some}
use Rattle.std.proofs.Math.Decide.{ℕ_discrete}
use Rattle.graph.specs.Total.{Tested}
use Rattle.graph.proofs.Total.{decide, none-some, some-some}
use Rattle.graph.specs.Least.{IsLeast}
use Rattle.graph.proofs.Least.{least-map, least_unique}
use Rattle.graph.specs.Network.{arc_of}
use Rattle.graph.specs.Search.{Entry, Problem, first_via, is, offer_via, offered, time_in}
use Rattle.graph.specs.Walk.{Offer, by_arc, by_start}
use Rattle.graph.proofs.Walk.{offer_via-some, offered-least, some-offer_via, time_in-here, time_in-there}
use Rattle.graph.specs.Choice.{Candidate}
use Rattle.graph.proofs.Back.{back_start, back-there, back-via, first_via-least, is_true, true_is}
use Rattle.search_queue.specs.Order.{most_nodes, settled_key}
use Rattle.search_queue.specs.Tree.{Put}
use Rattle.search_queue.specs.Sums.{SumsKept}
use Rattle.search_labels.specs.Labelling.{Labelling, labels_in}
use Rattle.search_labels.specs.Labelled.{Gives, Labelled, Labels, Offers, Way, label_candidate}
use Rattle.search_labels.specs.Labelled.{label_hopeless, label_logged, label_unseen, way-begins, way-through}
use Rattle.search_labels.specs.Relax.{label_same}

-- ---- where all arcs are relaxed, the offers are the definition's
module _ {G : Problem} {H : List Entry} {c k : ℕ} (full : G.net.arcs ≤ k) where
  offer_of : {v : ℕ} (t : ℕ) → Offers G H c k v t → Offer G H v t
  offer_of t (inl q) = by_start q
  offer_of {v} t (inr w) =
      let g = w.1 in
      let r = offer_via-some G.net H v w.0 t g.offer in
      by_arc r.1.2 (arc_of w.0 g.below refl r.0 r.1.3) r.1.4

  offers_of : {v : ℕ} (t : ℕ) → Offer G H v t → Offers G H c k v t
  offers_of t (by_start q) = inl q
  offers_of {v} t (by_arc {s} {c = d} h a e) =
      inr (
        a.index,
        record {
          below = a.below;
          relaxed = λ q. omega (arith, a.below);
          offer =
              some-offer_via G.net H v a.index s d t a.at.to (ap (time_in H) a.at.from ∙ h) a.at.costs e;
        },
      )

  offered-is : {v t : ℕ} → IsLeast (Offers G H c k v) (some t) → offered G H v ≡ some t
  offered-is {v} l = least_unique (offered-least G H v) (least-map offer_of offers_of l)

  -- a candidate's label has its time and its key
  candidate_label : {d : Entry} → Candidate G H d → {t q i : ℕ} → Labelled G H c k d.vertex t q i → (t ≡ d.time) × (q ≡ d.key)
      × (q < settled_key)
  candidate_label m (label_logged h s w) = absurd (none-some m.unlogged h)
  candidate_label m (label_hopeless h p a b) = absurd (none-some p m.pot-is)
  candidate_label {d} m (label_unseen h bare a b) =
      absurd (bare d.time (offers_of d.time ((offered-least G H d.vertex).attained d.time m.time-is)))
  candidate_label {d} m (label_candidate {t} {p} h pot least keyed first key) =
      let e : t ≡ d.time = some-some (offered-is least) m.time-is in
      let f : p ≡ m.estimate = some-some pot m.pot-is in
      (e, omega (arith, key, m.key-is), keyed)

  label_candidate_of : {v t q i : ℕ} → v < G.size → q < settled_key → Labelled G H c k v t q i
      → Candidate G H (record { vertex = v; time = t; key = q })
  label_candidate_of lv l (label_logged h s w) = absurd (omega arith)
  label_candidate_of lv l (label_hopeless h p a b) = absurd (omega arith)
  label_candidate_of lv l (label_unseen h bare a b) = absurd (omega arith)
  label_candidate_of lv l (label_candidate {p} h pot least keyed first key) =
      record { below = lv; unlogged = h; estimate = p; pot-is = pot; key-is = key; time-is = offered-is least }

  -- ---- choosing: the labels' keys are the candidates' sums
  pub sums_kept : (l : Labelling) {tie : ℕ → ℕ} → ((v : ℕ) → v < G.size → tie v ≡ G.tie (l.times v)) → Labels G H c k l
      → SumsKept G H l.times (record { key = l.keys; tie = tie })
  sums_kept l ties labels = record {
    kept = λ v lv waits. label_candidate_of lv waits (labels v lv);
    waits = λ d m. (let e = candidate_label m (labels d.vertex m.below) in e.2);
    ties = ties;
  }

-- ---- logging: e is the newest entry
module _ (G : Problem) (H : List Entry) (e : Entry) (new : time_in H e.vertex ≡ none) where
  other : (u s : ℕ) → time_in H u ≡ some s → e.vertex ≡ u → ⊥
  other u s h q = none-some new (ap (time_in H) q ∙ h)

  offer-same : (u i : ℕ) → (e.vertex ≡ G.net.tail i → ⊥) → offer_via G.net (e ∷ H) u i ≡ offer_via G.net H u i
  unfolding offer_via
  offer-same u i ne = rw (time_in-there e H (G.net.tail i) ne)

  way-older : {u : ℕ} → (e.vertex ≡ u → ⊥) → (i : ℕ) → Way G H u i → Way G (e ∷ H) u i
  way-older {u} ne i (way-begins t h s b) = way-begins t (time_in-there e H u ne ∙ h) s (back-there G e H u ne ∙ b)
  way-older {u} ne i (way-through t s g o l h b) =
      let x = other (G.net.tail i) s h in
      way-through t s (time_in-there e H u ne ∙ g) o l (time_in-there e H (G.net.tail i) x ∙ h)
      (back-there G e H u ne ∙ b ∙ ap (λ (r : List ℕ). r ++ (i ∷ [])) (sym (back-there G e H (G.net.tail i) x)))

  -- the way back from e, if its time is the start time, and if an arc gives it
  way-start : {i : ℕ} → G.start e.vertex ≡ some e.time → Way G (e ∷ H) e.vertex i
  way-start s =
      way-begins e.time (time_in-here e H e.vertex refl) (true_is (G.start e.vertex) e.time s)
      (back_start G e H e.vertex refl s)

  way-arc : {i : ℕ} → is (G.start e.vertex) e.time ≡ false → first_via G.net H e.vertex e.time ≡ some i → i < G.net.arcs
      → offer_via G.net H e.vertex i ≡ some e.time → Way G (e ∷ H) e.vertex i
  way-arc {i} q via li gives =
      let r = offer_via-some G.net H e.vertex i e.time gives in
      let x = other (G.net.tail i) r.1.0 r.1.2 in
      way-through e.time r.1.0 (time_in-here e H e.vertex refl) q li (time_in-there e H (G.net.tail i) x ∙ r.1.2)
      (back-via G e H e.vertex i refl q via ∙ ap (λ (r : List ℕ). r ++ (i ∷ [])) (sym (back-there G e H (G.net.tail i) x)))

module _ {G : Problem} {H : List Entry} {c k : ℕ} (full : G.net.arcs ≤ k) (e : Entry) (new : time_in H e.vertex ≡ none) where
  logged-into : {u : ℕ} (i t : ℕ) → Gives G H c k u i t → Gives G (e ∷ H) e.vertex 0 u i t
  logged-into {u} i t g =
      let r = offer_via-some G.net H u i t g.offer in
      let ne = other G H e new (G.net.tail i) r.1.0 r.1.2 in
      record { below = g.below; relaxed = λ q. absurd (ne (sym q)); offer = offer-same G H e new u i ne ∙ g.offer }

  logged-back : {u : ℕ} (i t : ℕ) → Gives G (e ∷ H) e.vertex 0 u i t → Gives G H c k u i t
  logged-back {u} i t g =
      record {
        below = g.below;
        relaxed = λ q. omega (arith, g.below);
        offer = sym (offer-same G H e new u i (λ q. (let z : i < 0 = g.relaxed (sym q) in omega arith))) ∙ g.offer;
      }

  -- a start time that is not the entry's leaves the way to the first arc
  way-new : {i : ℕ} → (G.start e.vertex ≡ some e.time) ⊎ IsLeast (λ j. Gives G H c k e.vertex j e.time) (some i)
      → Way G (e ∷ H) e.vertex i
  way-new (inl s) = way-start G H e new s
  way-new {i} (inr f) = go (decide (is (G.start e.vertex) e.time))
    where
      via : first_via G.net H e.vertex e.time ≡ some i
      via =
          least_unique (first_via-least G.net H e.vertex e.time)
          (least-map (λ j g. (g.below, g.offer)) (λ j g. record { below = g.0; relaxed = λ q. omega (arith, g.0); offer = g.1 }) f)

      go : Tested (is (G.start e.vertex) e.time) → Way G (e ∷ H) e.vertex i
      go (inl q) = way-start G H e new (is_true (G.start e.vertex) e.time q)
      go (inr q) = let g = f.attained i refl in way-arc G H e new q via g.below g.offer

  label_log : {t q i : ℕ} → t ≡ e.time → q < settled_key → Labelled G H c k e.vertex t q i
      → Labelled G (e ∷ H) e.vertex 0 e.vertex t settled_key i
  label_log z l (label_logged h s w) = absurd (omega arith)
  label_log z l (label_hopeless h p a b) = absurd (omega arith)
  label_log z l (label_unseen h bare a b) = absurd (omega arith)
  label_log z l (label_candidate h pot least keyed first key) =
      rw z (label_logged (time_in-here e H e.vertex refl) refl (way-new (rw z at first)))

  -- the vertex of the entry is settled, the other labels stay
  pub labels-log : {n : ℕ} (l l' : List ℕ) → G.size ≡ n → n ≤ most_nodes → e.vertex < n → Labels G H c k (labels_in n l)
      → Put n e.vertex settled_key l l' → (labels_in n l).times e.vertex ≡ e.time → (labels_in n l).keys e.vertex < settled_key
      → Labels G (e ∷ H) e.vertex 0 (labels_in n l')
  labels-log {n} l l' size_is high inside labels put z lt v lv = at (ℕ_discrete v e.vertex)
    where
      at : Dec (v ≡ e.vertex)
          → Labelled G (e ∷ H) e.vertex 0 v ((labels_in n l').times v) ((labels_in n l').keys v) ((labels_in n l').vias v)
      at (yes q) =
          let word : get_or l' (2 * n + e.vertex) 0 ≡ get_or l (2 * n + e.vertex) 0 =
          put.others (2 * n + e.vertex) (omega arith) (λ d. absurd (omega arith)) in
          let key : (labels_in n l').keys e.vertex ≡ settled_key = put.own in
          rw (q, word, key) (label_log z lt (labels e.vertex (rw q at lv)))
      at (no q) =
          let word : get_or l' (2 * n + v) 0 ≡ get_or l (2 * n + v) 0 =
          put.others (2 * n + v) (omega arith) (λ d. absurd (omega (arith, size_is))) in
          let key : get_or l' (n + v) 0 ≡ get_or l (n + v) 0 = put.others (n + v) (omega arith) (λ d. q (omega arith)) in
          rw (word, key)
          (label_same (way-older G H e new (λ r. q (sym r))) logged-into logged-back (sym (time_in-there e H v (λ r. q (sym r))))
          (labels v lv))
