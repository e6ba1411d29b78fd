-- A search looks at the potential of its own vertices only: the unit's search and the plain machine's are the same. Assumes nothing.
use Rattle.std.proofs.Common.{◌∙◌, arith}
use Rattle.std.specs.Prelude.{◌≡◌, eqb}
use Rattle.std.proofs.Math.Path.{ap, ap₂, fun_ext, refl}
use Rattle.std.proofs.Math.Bool.{cond}
use Rattle.std.proofs.Math.Option.{Option, none, some}
use mathlib.Core.List.{List, [], ◌∷◌}
use Prim.Native.Nat.{◌+◌, ◌<◌, ◌≤◌, suc, zero, ℕ}
use Rattle.graph.specs.Total.{Total}
use Rattle.graph.specs.Search.{Entry, Problem, back, back_step, before, best_below, better, consider, count_of, extend, first_via}
use Rattle.graph.specs.Search.{has_goal, history, is, log_of, next, offered, route_of, run, time_in, way_in}
use Rattle.model.specs.Alike.{with_pot}

module _ (G : Problem) (p : ℕ → Total) (same : (v : ℕ) → v < G.size → G.pot v ≡ p v) where
  better-same : (c : Entry) (x : Option Entry) → better G c x ≡ better (with_pot G p) c x
  unfolding better before
  better-same c none = refl
  better-same c (some d) = refl

  consider-same : (v : ℕ) (l q t : Total) (x : Option Entry) → consider G v l q t x ≡ consider (with_pot G p) v l q t x
  unfolding consider
  consider-same v (some l) q t x = refl
  consider-same v none none t x = refl
  consider-same v none (some q) none x = refl
  consider-same v none (some q) (some t) x = better-same (record { vertex = v; time = t; key = t + q }) x

  best-same : (H : List Entry) (k : ℕ) → k ≤ G.size → best_below G H k ≡ best_below (with_pot G p) H k
  unfolding best_below offered
  best-same H zero h = refl
  best-same H (suc v) h =
      ap₂ (λ (q : Total) (x : Option Entry). consider G v (time_in H v) q (offered G H v) x) (same v h) (best-same H v (omega arith))
      ∙ consider-same v (time_in H v) (p v) (offered G H v) (best_below (with_pot G p) H v)

  next-same : (H : List Entry) → next G H ≡ next (with_pot G p) H
  unfolding next
  next-same H = best-same H G.size (omega arith)

  goal-same : (H : List Entry) → has_goal G H ≡ has_goal (with_pot G p) H
  unfolding has_goal
  goal-same [] = refl
  goal-same (e ∷ H) = rw (goal-same H)

  extend_same : (H : List Entry) → extend G H ≡ extend (with_pot G p) H
  unfolding extend
  extend_same H = rw (goal-same H, next-same H)

  run-same : (k : ℕ) (H : List Entry) → run G k H ≡ run (with_pot G p) k H
  unfolding run
  run-same zero H = refl
  run-same (suc k) H = run-same k (extend G H) ∙ ap (run (with_pot G p) k) (extend_same H)

  pub history-same : history G ≡ history (with_pot G p)
  unfolding history
  history-same = run-same G.size []

  pub log-same : log_of G ≡ log_of (with_pot G p)
  unfolding log_of
  log-same = rw history-same

  pub count_same : count_of G ≡ count_of (with_pot G p)
  unfolding count_of
  count_same = rw log-same

  back-same : (H : List Entry) (v : ℕ) → back G H v ≡ back (with_pot G p) H v
  unfolding back
  back-same [] v = refl
  back-same (e ∷ H) v =
      ap (λ (f : ℕ → List ℕ). back_step f G.net.tail v (eqb e.vertex v) (is (G.start v) e.time) (first_via G.net H v e.time))
      (fun_ext (λ u. back-same H u))

  way_same : (H : List Entry) → way_in G H ≡ way_in (with_pot G p) H
  unfolding way_in
  way_same [] = refl
  way_same (e ∷ H) = ap (λ (l : List ℕ). cond (G.goal e.vertex) l []) (back-same (e ∷ H) e.vertex)

  pub route-same : route_of G ≡ route_of (with_pot G p)
  unfolding route_of
  route-same = way_same (history G) ∙ ap (way_in (with_pot G p)) history-same
