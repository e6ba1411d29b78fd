-- What the labels of a search give: the way back. Assumes nothing.
use Rattle.std.proofs.Common.{◌++◌, ◌+◌, ◌<◌, ◌∙◌, ◌∷◌, ◌≤◌, List, [], arith, inl, inr, suc, zero, ℕ}
use Rattle.std.specs.Prelude.{◌≡◌, Bool, false, true}
use Rattle.std.proofs.Math.Path.{ap, refl, sym}
use Rattle.std.proofs.Math.Option.{some}
use Rattle.std.proofs.Math.ListN.{length, length-append}
use Rattle.graph.proofs.Total.{none-some}
use Rattle.graph.specs.Search.{Entry, Problem, back, is, time_in}
use Rattle.graph.specs.Walk.{TimeIs, WellFormed, by_start}
use Rattle.graph.proofs.Walk.{offered-least, time_in-cases}
use Rattle.graph.specs.Choice.{chosen}
use Rattle.graph.specs.History.{Reached, fresh, grow}
use Rattle.search_labels.specs.Labelling.{Labelling}
use Rattle.search_labels.specs.Labelled.{Labelled, Labels, Way, label_candidate}
use Rattle.search_labels.specs.Labelled.{label_hopeless, label_logged, label_unseen, way-begins, way-through}
use Rattle.search_labels.specs.Ways.{arcs_back, way_of}

-- a logged time is at most the start time
pub start_no_later : {G : Problem} {H : List Entry} → Reached G H → (v t a : ℕ) → time_in H v ≡ some t → G.start v ≡ some a → t ≤ a
unfolding time_in
start_no_later fresh v t a h s = absurd (none-some refl h)
start_no_later {G} (grow {c} {H} r g (chosen k p)) v t a h s = go (λ q. start_no_later r v t a q s) (time_in-cases c H v t h)
  where
    go : (time_in H v ≡ some t → t ≤ a) → TimeIs c H v t → t ≤ a
    go ih (inl q) =
        let b : c.time ≤ a = rw k.time-is at ((offered-least G H c.vertex).bound a (by_start (ap G.start q.0 ∙ s))) in
        omega (arith, q.1)
    go ih (inr q) = ih q.1

-- the way back from a logged vertex, by its label
pub way_at : {G : Problem} {H : List Entry} {c k : ℕ} (l : Labelling) → Labels G H c k l → (v t : ℕ) → v < G.size → time_in H v ≡ some t
    → Way G H v (l.vias v)
way_at {G} {H} {c} {k} l labels v t lv e = go (labels v lv)
  where
    go : {x q i : ℕ} → Labelled G H c k v x q i → Way G H v i
    go (label_logged h s w) = w
    go (label_hopeless h p a b) = absurd (none-some h e)
    go (label_unseen h bare a b) = absurd (none-some h e)
    go (label_candidate h pot least keyed first key) = absurd (none-some h e)

-- the arcs that gave the times, from any logged vertex, are the route back of the definition
module _ {G : Problem} {H : List Entry} (wf : WellFormed G) {via before : ℕ → ℕ} {begins : ℕ → Bool}
    (ways : (v t : ℕ) → v < G.size → time_in H v ≡ some t → Way G H v (via v))
    (begins-is : (v t : ℕ) → v < G.size → time_in H v ≡ some t → begins v ≡ is (G.start v) t)
    (before-is : (v : ℕ) → v < G.size → via v < G.net.arcs → before v ≡ G.net.tail (via v)) where
  -- nothing leads back from v, or one arc does
  data Last (v : ℕ) : Type 0 where
    last_none : begins v ≡ true → back G H v ≡ [] → Last v
    last-arc :
        (u : ℕ) → begins v ≡ false → time_in H (before v) ≡ some u → before v < G.size
        → back G H v ≡ back G H (before v) ++ (via v ∷ []) → Last v

  last : (v t : ℕ) → v < G.size → time_in H v ≡ some t → Last v
  last v t lv e = go (ways v t lv e)
    where
      go : Way G H v (via v) → Last v
      go (way-begins a h b w) = last_none (begins-is v a lv h ∙ b) w
      go (way-through a u h b li g w) =
          let z = before-is v lv li in
          last-arc u (begins-is v a lv h ∙ b) (ap (time_in H) z ∙ g) (rw z (wf.inside.tails (via v) li)) (rw z w)

  pub arcs-back : (f v t : ℕ) → v < G.size → time_in H v ≡ some t → length (back G H v) ≤ f
      → arcs_back begins before f v ≡ length (back G H v)
  unfolding arcs_back
  arcs-back zero v t lv e le = omega arith
  arcs-back (suc f) v t lv e le = go (λ u b. arcs-back f (before v) u b) (last v t lv e)
    where
      go : ((u : ℕ) → before v < G.size → time_in H (before v) ≡ some u → length (back G H (before v)) ≤ f
          → arcs_back begins before f (before v) ≡ length (back G H (before v)))
          → Last v → arcs_back begins before (suc f) v ≡ length (back G H v)
      go ih (last_none q b) = rw (q, b)
      go ih (last-arc u q h lu b) =
          let m : length (back G H v) ≡ length (back G H (before v)) + 1 =
          ap length b ∙ length-append (back G H (before v)) (via v ∷ []) in
          rw q (omega (arith, ih u lu h (omega arith), m))

  pub way-back_is : (j v t : ℕ) → v < G.size → time_in H v ≡ some t → length (back G H v) ≡ j
      → way_of via before j v ≡ back G H v
  unfolding way_of
  way-back_is zero v t lv e q = go (back G H v) q
    where
      go : (r : List ℕ) → length r ≡ 0 → [] ≡ r
      go [] z = refl
      go (a ∷ r) z = absurd (omega arith)
  way-back_is (suc j) v t lv e q = go (λ u b. way-back_is j (before v) u b) (last v t lv e)
    where
      go : ((u : ℕ) → before v < G.size → time_in H (before v) ≡ some u → length (back G H (before v)) ≡ j
          → way_of via before j (before v) ≡ back G H (before v))
          → Last v → way_of via before (suc j) v ≡ back G H v
      go ih (last_none z b) = absurd (omega (arith, ap length b))
      go ih (last-arc u x h lu b) =
          let m : length (back G H v) ≡ length (back G H (before v)) + 1 =
          ap length b ∙ length-append (back G H (before v)) (via v ∷ []) in
          ap (λ (r : List ℕ). r ++ (via v ∷ [])) (ih u lu h (omega arith)) ∙ sym b
