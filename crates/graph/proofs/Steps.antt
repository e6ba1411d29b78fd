-- Proves, for programs that run the search, that a choice over the offers in any order is the definition's (`best-next`), that offered
-- times may be kept and relaxed (`offered-relaxed`), that the loop ends with the history (`complete-history`), and that newer entries
-- leave older ones as they were. Assumes nothing.
use Rattle.std.proofs.Common.{◌∙◌, inl, inr, add_comm, add-one, arith}
use Rattle.std.specs.Prelude.{◌≡◌, ◌⊎◌, cond, false, ◌+◌, suc, ℕ, eqb, length}
use Rattle.std.proofs.Math.Path.{ap, refl, sym}
use Rattle.std.proofs.Math.Option.{Option, none, some}
use mathlib.Core.List.{List, Memᴰ, [], ◌++◌, ◌∷◌}
use borrow.Author.Tests.{eq-eqb, eqb-true, ne_eqb}
use Rattle.graph.specs.Total.{Total, ◌⊓◌, ◌⊕◌}
use Rattle.graph.proofs.Total.{cond_same, cond_some, none-some, some-some, ⊓-assoc, ⊓-none, ⊕-some}
use Rattle.graph.specs.Least.{SomeBelow, min_below}
use Rattle.graph.proofs.Least.{least-below, least-map, least-number, least_self, least_unique, least-⊓}
use Rattle.graph.specs.Network.{Network, arc_of}
use Rattle.graph.specs.Search.{Entry, Problem, back, extend, has_goal, history, next, offered, push, run, time_in, vertices}
use Rattle.graph.specs.Walk.{Offer, TimeIs, WellFormed, by_arc, by_start}
use Rattle.graph.proofs.Walk.{offered-least, time_in-cases, time_in-here, time_in-there}
use Rattle.graph.specs.Choice.{BestOf, Candidate, NextIs, chosen, finished}
use Rattle.graph.proofs.Choice.{next-is, next_unique}
use Rattle.graph.specs.History.{Reached, fresh, grow}
use Rattle.graph.proofs.History.{offer_of, time_in-mem}
use Rattle.graph.specs.Complete.{Complete}
use Rattle.graph.proofs.Complete.{history-complete, run_add, run_complete_stays, vertices-mem}
use Rattle.graph.proofs.Back.{back-there}
use Rattle.graph.specs.Steps.{IsOffer, via_newest, relaxed}

-- The choice may go over the offers one by one, in any order: the first of all offers is logged next.
module _ (G : Problem) (H : List Entry) where
  of_candidate : {e : Entry} → Candidate G H e → IsOffer G H e
  of_candidate k = record {
    below = k.below;
    unlogged = k.unlogged;
    estimate = k.estimate;
    pot-is = k.pot-is;
    key-is = k.key-is;
    offer = offer_of G k;
  }

  pub best-next : {x : Option Entry} → BestOf G (IsOffer G H) x → next G H ≡ x
  best-next (finished n) = next_unique G H (next-is G H) (finished (λ d k. n d (of_candidate k)))
  best-next (chosen {c} o p) = next_unique G H (next-is G H) (chosen candidate (λ d k. p d (of_candidate k)))
    where
      at : (s : ℕ) → Offer G H c.vertex s → IsOffer G H (record { vertex = c.vertex; time = s; key = s + o.estimate })
      at s w = record { below = o.below; unlogged = o.unlogged; estimate = o.estimate; pot-is = o.pot-is; key-is = refl; offer = w }

      candidate : Candidate G H c
      candidate = record {
        below = o.below;
        unlogged = o.unlogged;
        estimate = o.estimate;
        pot-is = o.pot-is;
        key-is = o.key-is;
        time-is = least_unique (offered-least G H c.vertex) (least-number o.offer (λ s w. omega (
          arith,
          o.key-is,
          (p (record { vertex = c.vertex; time = s; key = s + o.estimate }) (at s w)).keys,
        )));
      }

module _ (N : Network) (c : Entry) (v : ℕ) where
  via_newest-some : (i t : ℕ) → via_newest N c v i ≡ some t
      → (N.tail i ≡ c.vertex) × (N.head i ≡ v) × ((d : ℕ) × (N.cost i ≡ some d) × (t ≡ c.time + d))
  unfolding via_newest
  via_newest-some i t h =
      let p = cond_some (eqb (N.tail i) c.vertex) (cond (eqb (N.head i) v) (some c.time ⊕ N.cost i) none) t h in
      let q = cond_some (eqb (N.head i) v) (some c.time ⊕ N.cost i) t p.1 in
      let r = ⊕-some (some c.time) (N.cost i) t q.1 in
      let z : c.time ≡ r.0 = some-some refl r.2 in
      (eqb-true (N.tail i) c.vertex p.0, eqb-true (N.head i) v q.0, (r.1, r.3, omega (arith, r.4, z)))

  some-via_newest : (i d t : ℕ) → N.tail i ≡ c.vertex → N.head i ≡ v → N.cost i ≡ some d → t ≡ c.time + d → via_newest N c v i ≡ some t
  unfolding via_newest
  some-via_newest i d t p q k e = rw (eq-eqb (N.tail i) c.vertex p, eq-eqb (N.head i) v q, k, e)

  -- an arc that does not lead from c to v changes nothing
  pub via_newest-other : (i : ℕ) → (N.tail i ≡ c.vertex → ⊥) ⊎ (N.head i ≡ v → ⊥) → via_newest N c v i ≡ none
  unfolding via_newest
  via_newest-other i (inl n) = rw (ne_eqb (N.tail i) c.vertex n)
  via_newest-other i (inr n) = rw (ne_eqb (N.head i) v n) (cond_same (eqb (N.tail i) c.vertex) none)

  -- the steps of a relaxing loop
  pub relaxed-first : (x : Total) → relaxed N c v 0 x ≡ x
  unfolding relaxed
  relaxed-first x = ⊓-none x

  pub relaxed-next : (k : ℕ) (x : Total) → relaxed N c v (suc k) x ≡ relaxed N c v k x ⊓ via_newest N c v k
  unfolding relaxed
  relaxed-next k x = sym (⊓-assoc x (min_below k (via_newest N c v)) (via_newest N c v k))

pub offered-relaxed : (G : Problem) (H : List Entry) (c : Entry) → time_in H c.vertex ≡ none → (v : ℕ)
    → offered G (c ∷ H) v ≡ relaxed G.net c v G.net.arcs (offered G H v)
unfolding relaxed
offered-relaxed G H c un v =
    least_unique (offered-least G (c ∷ H) v)
    (least-map (λ t. elim [ inl o ↦ old o | inr w ↦ new t w ]) out
    (least-⊓ (offered-least G H v) (least-below G.net.arcs (λ i hi. least_self (via_newest G.net c v i)))))
  where
    New : ℕ → Type 0
    New = SomeBelow G.net.arcs (λ i t. via_newest G.net c v i ≡ some t)

    old : {t : ℕ} → Offer G H v t → Offer G (c ∷ H) v t
    old (by_start q) = by_start q
    old (by_arc {u} h a e) = by_arc (time_in-there c H u (λ i. none-some un (ap (time_in H) i ∙ h)) ∙ h) a e

    new : (t : ℕ) → New t → Offer G (c ∷ H) v t
    new t w =
        let (from, to, (_, costs, adds)) = via_newest-some G.net c v w.index t w.at in
        by_arc (time_in-here c H c.vertex refl) (arc_of w.index w.below from to costs) adds

    out : (t : ℕ) → Offer G (c ∷ H) v t → Offer G H v t ⊎ New t
    out t (by_start q) = inl (by_start q)
    out t (by_arc {u} {s} {c = d} h a e) = at (time_in-cases c H u s h)
      where
        at : TimeIs c H u s → Offer G H v t ⊎ New t
        at (inl i) = inr (record {
          index = a.index;
          below = a.below;
          at = some-via_newest G.net c v a.index d t (a.at.from ∙ sym i.0) a.at.to a.at.costs (omega (arith, e, i.1));
        })
        at (inr i) = inl (by_arc i.1 a e)

-- ---- ending: a loop that keeps `Reached` and leaves with `Complete` has computed the history

module _ {G : Problem} (wf : WellFormed G) where
  -- However the search is cut, it comes to the same end.
  pub run-history : (k : ℕ) → run G G.size (run G k []) ≡ history G
  unfolding history
  run-history k =
      sym (run_add G G.size k [])
      ∙ ap (λ (n : ℕ). run G n []) (add_comm k G.size)
      ∙ run_add G k G.size []
      ∙ run_complete_stays G k (history G) (history-complete wf)

  extend-next : {H : List Entry} {c : Entry} → has_goal G H ≡ false → NextIs G H (some c) → extend G H ≡ c ∷ H
  unfolding extend push
  extend-next {H} g n = rw (g, next_unique G H (next-is G H) n)

  pub reached-run : {H : List Entry} → Reached G H → H ≡ run G (length H) []
  unfolding run
  reached-run fresh = refl
  reached-run (grow {c} {H} r g n) = sym (grown ∙ ap (extend G) (sym (reached-run r)) ∙ extend-next g n)
    where
      grown : run G (suc (length H)) [] ≡ extend G (run G (length H) [])
      grown = ap (λ (k : ℕ). run G k []) (sym (add-one (length H))) ∙ run_add G 1 (length H) []

  pub complete-history : {H : List Entry} → Reached G H → Complete G H → H ≡ history G
  complete-history {H} r c =
      sym (run_complete_stays G G.size H c) ∙ ap (run G G.size) (reached-run r) ∙ run-history (length H)

-- Parts of a history: what newer entries leave as it was.
module _ {G : Problem} (wf : WellFormed G) (H : List Entry) where
  reached-older : (newer : List Entry) → Reached G (newer ++ H) → Reached G H
  reached-older [] r = r
  reached-older (c ∷ newer) (grow r g n) = reached-older newer r

  -- A vertex that was logged keeps its time.
  pub time_in-older : (newer : List Entry) → Reached G (newer ++ H) → (v t : ℕ) → time_in H v ≡ some t → time_in (newer ++ H) v ≡ some t
  time_in-older [] r v t h = h
  time_in-older (c ∷ newer) (grow r g (chosen k p)) v t h =
      let l = time_in-older newer r v t h in
      time_in-there c (newer ++ H) v (λ q. none-some k.unlogged (ap (time_in (newer ++ H)) q ∙ l)) ∙ l

  -- One that is among the older entries had its time there.
  pub time_in-among : (newer : List Entry) → Reached G (newer ++ H) → (v t : ℕ) → Memᴰ v (vertices H) → time_in (newer ++ H) v ≡ some t
      → time_in H v ≡ some t
  time_in-among newer r v t m h =
      let e = vertices-mem H v m in
      let l : time_in H v ≡ some e.0.time = ap (time_in H) e.2 ∙ time_in-mem wf (reached-older newer r) e.0 e.1 in
      l ∙ ap some (some-some (time_in-older newer r v e.0.time l) h)

  -- The way back from a logged vertex does not look at newer entries.
  pub back-older : (newer : List Entry) → Reached G (newer ++ H) → (v t : ℕ) → time_in H v ≡ some t → back G (newer ++ H) v ≡ back G H v
  back-older [] r v t h = refl
  back-older (c ∷ newer) (grow r g (chosen k p)) v t h =
      let l = time_in-older newer r v t h in
      back-there G c (newer ++ H) v (λ q. none-some k.unlogged (ap (time_in (newer ++ H)) q ∙ l)) ∙ back-older newer r v t h
