-- Proves that walks from one start are paths (`path_of_walk`, `walk_of-path`), and that the offered time is the least offer
-- (`offered-least`). Assumes nothing.
use Rattle.std.proofs.Common.{◌∙◌, ap, sym, inl, inr, eq-eqb, eqb-true, ne_eqb, add_assoc, add-zero, arith}
use Rattle.std.specs.Prelude.{◌≡◌, refl, ◌⊎◌, List, ◌∷◌, ◌+◌, ℕ, eqb}
use Rattle.std.proofs.Math.Option.{none, some}
use Rattle.std.proofs.lemmas.Bool.{eqb-false}
use Rattle.graph.specs.Total.{Tested, ◌⊕◌}
use Rattle.graph.proofs.Total.{cond_some, decide, none-some, some-some, ⊕-some}
use Rattle.graph.specs.Least.{IsLeast, SomeBelow}
use Rattle.graph.proofs.Least.{least-below, least-map, least_self, least-⊓}
use Rattle.graph.specs.Path.{Path, empty, link}
use Rattle.graph.proofs.Path.{path_snoc}
use Rattle.graph.specs.Network.{Arc, Network, arc_of}
use Rattle.graph.specs.Search.{Entry, Problem, offer_via, offered, time_in}
use Rattle.graph.specs.Walk.{Walk, begin, follow, Offer, by_start, by_arc, From, start_at, TimeIs}

-- ---- walks are paths from a start

pub walk_path : {G : Problem} {u v s t : ℕ} → Walk G u s → Path (Arc G.net) u v t → Walk G v (s + t)
walk_path {s} w empty = rw add-zero w
walk_path {s} w (link {c} {t} a p) = rw (← (add_assoc s c t)) (walk_path (follow w a refl) p)

pub walk_from : {G : Problem} {v t : ℕ} → Walk G v t → From G v t
walk_from (begin {v} {t} q) = record { first = v; first-time = t; rest = 0; start_is = q; path = empty; total = omega arith }
walk_from (follow {c} w a e) =
    let r = walk_from w in
    record {
      first = r.first;
      first-time = r.first-time;
      rest = r.rest + c;
      start_is = r.start_is;
      path = path_snoc r.path a;
      total = omega (arith, e, r.total);
    }

pub start_at-some : (s v t : ℕ) → start_at s v ≡ some t → (s ≡ v) × (0 ≡ t)
start_at-some s v t h = let q = cond_some (eqb s v) (some 0) t h in (eqb-true s v q.0, some-some refl q.1)

module _ (G : Problem) (s : ℕ) (starts : (v : ℕ) → G.start v ≡ start_at s v) where
  pub path_of_walk : {v t : ℕ} → Walk G v t → Path (Arc G.net) s v t
  path_of_walk {v} {t} w =
      let r = walk_from w in
      let q = start_at-some s r.first r.first-time (sym (starts r.first) ∙ r.start_is) in
      let e : t ≡ r.rest = omega (arith, r.total, q.1) in
      rw (e, q.0) r.path

  pub walk_of-path : {v t : ℕ} → Path (Arc G.net) s v t → Walk G v t
  walk_of-path {v} {t} p =
      let z : t ≡ 0 + t = omega arith in
      rw z (walk_path (begin {v = s} {t = 0} (starts s ∙ rw (eq-eqb s s refl))) p)

module _ (e : Entry) (H : List Entry) (v : ℕ) where
  pub time_in-here : e.vertex ≡ v → time_in (e ∷ H) v ≡ some e.time
  unfolding time_in
  time_in-here q = rw (eq-eqb e.vertex v q)

  pub time_in-there : (e.vertex ≡ v → ⊥) → time_in (e ∷ H) v ≡ time_in H v
  unfolding time_in
  time_in-there n = rw (ne_eqb e.vertex v n)

  pub same-vertex : (e.vertex ≡ v) ⊎ (e.vertex ≡ v → ⊥)
  same-vertex = go (decide (eqb e.vertex v))
    where
      go : Tested (eqb e.vertex v) → (e.vertex ≡ v) ⊎ (e.vertex ≡ v → ⊥)
      go (inl q) = inl (eqb-true e.vertex v q)
      go (inr q) = inr (eqb-false e.vertex v q)

  pub time_in-cases : (t : ℕ) → time_in (e ∷ H) v ≡ some t → TimeIs e H v t
  time_in-cases t h = go same-vertex
    where
      go : (e.vertex ≡ v) ⊎ (e.vertex ≡ v → ⊥) → TimeIs e H v t
      go (inl q) = inl (q, some-some (time_in-here q) h)
      go (inr n) = inr (n, sym (time_in-there n) ∙ h)

  pub time_in-none : time_in (e ∷ H) v ≡ none → (e.vertex ≡ v → ⊥) × (time_in H v ≡ none)
  time_in-none h = go same-vertex
    where
      go : (e.vertex ≡ v) ⊎ (e.vertex ≡ v → ⊥) → (e.vertex ≡ v → ⊥) × (time_in H v ≡ none)
      go (inl q) = absurd (none-some h (time_in-here q))
      go (inr n) = (n, sym (time_in-there n) ∙ h)

-- ---- the offered time is the least offer

module _ (N : Network) (H : List Entry) (v i : ℕ) where
  pub offer_via-some : (t : ℕ) → offer_via N H v i ≡ some t
      → (N.head i ≡ v) × ((s c : ℕ) × (time_in H (N.tail i) ≡ some s) × (N.cost i ≡ some c) × (t ≡ s + c))
  unfolding offer_via
  offer_via-some t h =
      let q = cond_some (eqb (N.head i) v) (time_in H (N.tail i) ⊕ N.cost i) t h in
      (eqb-true (N.head i) v q.0, ⊕-some (time_in H (N.tail i)) (N.cost i) t q.1)

  pub some-offer_via : (s c t : ℕ) → N.head i ≡ v → time_in H (N.tail i) ≡ some s → N.cost i ≡ some c → t ≡ s + c
      → offer_via N H v i ≡ some t
  unfolding offer_via
  some-offer_via s c t q h k e = rw (eq-eqb (N.head i) v q, h, k, e)

pub offered-least : (G : Problem) (H : List Entry) (v : ℕ) → IsLeast (Offer G H v) (offered G H v)
unfolding offered
offered-least G H v =
    least-map (λ t. elim [ inl q ↦ by_start q | inr w ↦ of_arc t w ]) to-arc
    (least-⊓ (least_self (G.start v)) (least-below G.net.arcs (λ i hi. least_self (offer_via G.net H v i))))
  where
    Given : ℕ → Type 0
    Given = SomeBelow G.net.arcs (λ i t. offer_via G.net H v i ≡ some t)

    of_arc : (t : ℕ) → Given t → Offer G H v t
    of_arc t w =
        let (to, (_, _, logged, costs, adds)) = offer_via-some G.net H v w.index t w.at in
        by_arc logged (arc_of w.index w.below refl to costs) adds

    to-arc : (t : ℕ) → Offer G H v t → (G.start v ≡ some t) ⊎ Given t
    to-arc t (by_start q) = inl q
    to-arc t (by_arc {s} {c} h a e) =
        inr (record {
          index = a.index;
          below = a.below;
          at = some-offer_via G.net H v a.index s c t a.at.to (ap (time_in H) a.at.from ∙ h) a.at.costs e;
        })
