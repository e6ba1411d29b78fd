-- Proves that the way back through a history is such a route of the logged time (`back-route`), by that rule (`back-smallest`). Assumes
-- nothing.
use Rattle.std.proofs.Common.{◌∙◌, ap, subst, sym, inl, inr, eq-eqb, eqb-true, ne_eqb, length-append, arith}
use Rattle.std.specs.Prelude.{◌≡◌, ◌⊎◌, false, true, ◌+◌, ◌<◌, ℕ, length}
use Rattle.std.proofs.Math.Path.{refl}
use Rattle.std.proofs.Math.Option.{none, some}
use mathlib.Core.List.Memᴰ
use mathlib.Core.List.{List, Memᴰ, [], ◌++◌, ◌∷◌}
use Rattle.graph.specs.Total.{Tested, Total}
use Rattle.graph.proofs.Total.{decide, none-some, some-some, true_false}
use Rattle.graph.specs.Least.{IsLeast}
use Rattle.graph.proofs.Least.{first_below-least, least-map}
use Rattle.graph.specs.Network.{Arc, Network, arc_of}
use Rattle.graph.proofs.Route.{leads_snoc, total_over_snoc}
use Rattle.graph.specs.Search.{Entry, Problem, back, back_step, first_via, is, offer_via, time_in}
use Rattle.graph.specs.Walk.{Offer, TimeIs, by_arc, by_start}
use Rattle.graph.proofs.Walk.{offer_via-some, some-offer_via, time_in-cases, time_in-here, time_in-there}
use Rattle.graph.specs.Choice.{chosen}
use Rattle.graph.specs.History.{Reached, fresh, grow}
use Rattle.graph.proofs.History.{offer_of}
use Rattle.graph.specs.Back.{RouteTo, Gives, SmallestInto, ShortRoute}

module _ (G : Problem) where
  route_snoc : {u v s c t : ℕ} {l : List ℕ} → RouteTo G u s l → (a : Arc G.net u v c) → t ≡ s + c → RouteTo G v t (l ++ (a.index ∷ []))
  route_snoc {c} {l} r a e = record {
    first = r.first;
    first-time = r.first-time;
    rest = r.rest + c;
    start_is = r.start_is;
    leads = leads_snoc G.net l r.first r.leads a;
    sums = total_over_snoc G.net l a.index ∙ rw (r.sums, a.at.costs);
    total = omega (arith, e, r.total);
  }

-- A time that is t.
pub is_true : (x : Total) (t : ℕ) → is x t ≡ true → x ≡ some t
unfolding is
is_true none t h = absurd (true_false h refl)
is_true (some s) t h = ap some (eqb-true s t h)

pub true_is : (x : Total) (t : ℕ) → x ≡ some t → is x t ≡ true
unfolding is
true_is x t q = rw q (eq-eqb t t refl)

-- The first arc that gives the time: none has a smaller number.
pub first_via-least : (N : Network) (H : List Entry) (v t : ℕ)
    → IsLeast (λ i. (i < N.arcs) × (offer_via N H v i ≡ some t)) (first_via N H v t)
unfolding first_via
first_via-least N H v t =
    least-map (λ i q. (q.0, is_true (offer_via N H v i) t q.1)) (λ i q. (q.0, true_is (offer_via N H v i) t q.1))
    (first_below-least N.arcs (λ i. is (offer_via N H v i) t))

first_via-gives : (N : Network) (H : List Entry) (v t : ℕ) → IsLeast (Gives N H v t) (first_via N H v t)
first_via-gives N H v t =
    least-map (λ i q. gives i q.0 q.1)
    (λ i g. (g.below, some-offer_via N H v i g.tail-time g.cost t g.to g.logged g.costs g.adds))
    (first_via-least N H v t)
  where
    gives : (i : ℕ) → i < N.arcs → offer_via N H v i ≡ some t → Gives N H v t i
    gives i below offer =
        let (to, (tail-time, cost, logged, costs, adds)) = offer_via-some N H v i t offer in
        record { below = below; to = to; tail-time = tail-time; cost = cost; logged = logged; costs = costs; adds = adds }

-- and so for a history with one entry more
smallest-later : {G : Problem} {H : List Entry} {i : ℕ} (e : Entry) → SmallestInto G H i → SmallestInto G (e ∷ H) i
smallest-later e r =
    record { entry = r.entry; earlier = r.earlier; later = e ∷ r.later; parts = ap (◌∷◌ e) r.parts; smallest = r.smallest }

-- The clauses of the way back.
module _ (G : Problem) (e : Entry) (H : List Entry) (v : ℕ) where
  pub back-there : (e.vertex ≡ v → ⊥) → back G (e ∷ H) v ≡ back G H v
  unfolding back back_step
  back-there n = rw (ne_eqb e.vertex v n)

  pub back_start : e.vertex ≡ v → G.start v ≡ some e.time → back G (e ∷ H) v ≡ []
  unfolding back back_step
  back_start q i = rw (eq-eqb e.vertex v q, true_is (G.start v) e.time i)

  pub back-via : (i : ℕ) → e.vertex ≡ v → is (G.start v) e.time ≡ false → first_via G.net H v e.time ≡ some i
      → back G (e ∷ H) v ≡ back G H (G.net.tail i) ++ (i ∷ [])
  unfolding back back_step
  back-via i q s f = rw (eq-eqb e.vertex v q, s, f)

-- A way back from v by the rule, until a start time gives the time.
data BackWay (G : Problem) : List Entry → ℕ → List ℕ → Type 0 where
  begins : {e : Entry} {H : List Entry} {v : ℕ} → e.vertex ≡ v → G.start v ≡ some e.time → BackWay G (e ∷ H) v []
  via :
      {e : Entry} {H : List Entry} {v i : ℕ} {l : List ℕ} → e.vertex ≡ v → IsLeast (Gives G.net H v e.time) (some i)
      → BackWay G H (G.net.tail i) l → BackWay G (e ∷ H) v (l ++ (i ∷ []))
  older : {e : Entry} {H : List Entry} {v : ℕ} {l : List ℕ} → (e.vertex ≡ v → ⊥) → BackWay G H v l → BackWay G (e ∷ H) v l

module _ (G : Problem) where
  way-route : {H : List Entry} {v : ℕ} {way : List ℕ} → BackWay G H v way → (t : ℕ) → time_in H v ≡ some t → ShortRoute G (length H) v t way
  way-route (begins {e} {H} {v} q b) t h =
      let z : e.time ≡ t = some-some (time_in-here e H v q) h in (
        record { first = v; first-time = t; rest = 0; start_is = b ∙ ap some z; leads = refl; sums = refl; total = omega arith },
        omega arith,
      )
  way-route (via {e} {H} {v} {i} {l} q f w) t h =
      let y : e.time ≡ t = some-some (time_in-here e H v q) h in
      let g = f.attained i refl in
      let b = way-route w g.tail-time g.logged in
      (route_snoc G b.0 (arc_of i g.below refl g.to g.costs) (sym y ∙ g.adds), omega (arith, b.1, length-append l (i ∷ [])))
  way-route (older {e} {H} {v} n w) t h =
      let b = way-route w t (sym (time_in-there e H v n) ∙ h) in
      (b.0, omega (arith, b.1))

  way-smallest : {H : List Entry} {v : ℕ} {way : List ℕ} → BackWay G H v way → (i : ℕ) → Memᴰ i way → SmallestInto G H i
  way-smallest (begins q b) i m = absurd (Memᴰ.not-nil m)
  way-smallest (via {e} {H} {v} {i = j} {l} q f w) i m = go (λ k. way-smallest w i k) (Memᴰ.append_cases l m)
    where
      go : (Memᴰ i l → SmallestInto G H i) → Memᴰ i l ⊎ Memᴰ i (j ∷ []) → SmallestInto G (e ∷ H) i
      go ih (inl k) = smallest-later e (ih k)
      go ih (inr k) = record { entry = e; earlier = H; later = []; parts = refl; smallest = rw (q, Memᴰ.eq_of_singleton k) f }
  way-smallest (older {e} n w) i m = smallest-later e (way-smallest w i m)

  -- The definition's way back is one, from every logged vertex.
  back-way : {H : List Entry} → Reached G H → (v t : ℕ) → time_in H v ≡ some t → BackWay G H v (back G H v)
  unfolding time_in
  back-way fresh v t h = absurd (none-some refl h)
  back-way (grow {c} {H} r g (chosen k p)) v t h = go (λ u s l. back-way r u s l) (time_in-cases c H v t h)
    where
      Older : Type 0
      Older = (u s : ℕ) → time_in H u ≡ some s → BackWay G H u (back G H u)

      by-arc : Older → c.vertex ≡ v → is (G.start v) c.time ≡ false → (o : Total) → first_via G.net H v c.time ≡ o
          → Offer G H v c.time → BackWay G (c ∷ H) v (back G (c ∷ H) v)
      by-arc ih q i o f (by_start b) = absurd (true_false (true_is (G.start v) c.time b) i)
      by-arc ih q i none f (by_arc {s} {c = d} l a z) =
          absurd (rw f at ((first_via-gives G.net H v c.time).bound a.index
          (record {
            below = a.below;
            to = a.at.to;
            tail-time = s;
            cost = d;
            logged = ap (time_in H) a.at.from ∙ l;
            costs = a.at.costs;
            adds = z;
          })))
      by-arc ih q i (some j) f (by_arc l a z) =
          let m = rw f at (first_via-gives G.net H v c.time) in
          let w = m.attained j refl in
          rw (back-via G c H v j q i f) (via q m (ih (G.net.tail j) w.tail-time w.logged))

      at_c : Older → c.vertex ≡ v → Tested (is (G.start v) c.time) → BackWay G (c ∷ H) v (back G (c ∷ H) v)
      at_c ih q (inl i) = let s = is_true (G.start v) c.time i in rw (back_start G c H v q s) (begins q s)
      at_c ih q (inr i) = by-arc ih q i (first_via G.net H v c.time) refl (subst (λ (u : ℕ). Offer G H u c.time) q (offer_of G k))

      go : Older → TimeIs c H v t → BackWay G (c ∷ H) v (back G (c ∷ H) v)
      go ih (inl e) = at_c ih e.0 (decide (is (G.start v) c.time))
      go ih (inr e) = rw (back-there G c H v e.0) (older e.0 (ih v t e.1))

  -- The way back is a route of the logged time, with fewer arcs than the history has entries.
  pub back-route : {H : List Entry} → Reached G H → (v t : ℕ) → time_in H v ≡ some t → ShortRoute G (length H) v t (back G H v)
  back-route r v t h = way-route (back-way r v t h) t h

  -- Each arc of the way back keeps the rule.
  pub back-smallest : {H : List Entry} → Reached G H → (v t : ℕ) → time_in H v ≡ some t → (i : ℕ) → Memᴰ i (back G H v)
      → SmallestInto G H i
  back-smallest r v t h i m = way-smallest (back-way r v t h) i m
