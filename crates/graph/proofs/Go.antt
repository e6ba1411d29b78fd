-- Proves it for every valid map, all live costs that are not below the base costs, every rule of ties, every start and every target
-- (`go_meets`, with `go-none`); and that its sums fit (`go-fits`). Assumes nothing.
use Rattle.std.proofs.Common.{◌∙◌, sym, arith}
use Rattle.std.specs.Prelude.{◌≡◌, ◌*◌, ◌+◌, ◌-◌, ◌<◌, ◌≤◌, ℕ, length}
use Rattle.std.proofs.Math.Path.{ap, refl, subst, subst₂}
use Rattle.std.proofs.Math.Option.{none, some}
use mathlib.Core.List.{Memᴰ}
use borrow.Author.Tests.{eq-eqb, eqb-true}
use Rattle.graph.specs.Total.{Total}
use Rattle.graph.specs.Least.{IsLeast}
use Rattle.graph.proofs.Least.{least-map, least-none, least_unique}
use Rattle.graph.specs.Network.{Arc}
use Rattle.graph.proofs.Network.{at_costs-inside}
use Rattle.graph.specs.Route.{Leads, total_over}
use Rattle.graph.specs.Bound.{CostsAtMost}
use Rattle.graph.specs.Potential.{Slower}
use Rattle.graph.specs.Search.{Entry, count_of, log_of, route_of, total_of}
use Rattle.graph.specs.Walk.{Walk, WellFormed}
use Rattle.graph.proofs.Walk.{path_of_walk, start_at-some, walk_of-path}
use Rattle.graph.specs.History.{Keyed}
use Rattle.graph.proofs.Answer.{log-keyed, route-smallest, route-total, times-least, total-least}
use Rattle.graph.specs.Map.{Map, Valid, estimate_of}
use Rattle.graph.proofs.Map.{estimate_of-bound, estimate_of-consistent, estimate_of-here}
use Rattle.graph.specs.Map.{live_net, time_of}
use Rattle.graph.proofs.Map.{estimate_of-least, time_of-bound, time_of-least}
use Rattle.graph.specs.Go.{go_of, OpenPath, Demand}

module _ {M : Map} (ok : Valid M) {live : ℕ → Total} (slower : Slower M.base live) (tie : ℕ → ℕ) {s z : ℕ} (ls : s < M.vertices)
    (lz : z < M.vertices) where
  pub go_well_formed : WellFormed (go_of M live tie s z)
  unfolding go_of
  go_well_formed = record {
    inside = at_costs-inside ok.inside;
    starts = λ v t h. omega (arith, (start_at-some s v t h).0);
    consistent = estimate_of-consistent ok z lz slower;
    goals = λ v g. ap (estimate_of M z) (eqb-true v z g) ∙ estimate_of-here ok z lz;
  }

  go_walk : {v t : ℕ} → Walk (go_of M live tie s z) v t → OpenPath M live s v t
  unfolding go_of
  go_walk w = path_of_walk (go_of M live tie s z) s (λ v. refl) w

  go-path : {v t : ℕ} → OpenPath M live s v t → Walk (go_of M live tie s z) v t
  unfolding go_of
  go-path p = walk_of-path (go_of M live tie s z) s (λ v. refl) p

  pub go_time_least : (v : ℕ) → IsLeast (Walk (go_of M live tie s z) v) (time_of M live s v)
  go_time_least v = least-map (λ t p. go-path p) (λ t w. go_walk w) (time_of-least ok live s v)

  pub go-total : IsLeast (OpenPath M live s z) (total_of (go_of M live tie s z))
  unfolding go_of
  go-total =
      least-map (λ t w. subst (λ (v : ℕ). OpenPath M live s v t) (eqb-true w.0 z w.1) (go_walk w.2))
      (λ t p. (z, eq-eqb z z refl, go-path p))
      (total-least go_well_formed)

  -- no total exactly if no path
  pub go-none : (total_of (go_of M live tie s z) ≡ none → (t : ℕ) → OpenPath M live s z t → ⊥)
      × (((t : ℕ) → OpenPath M live s z t → ⊥) → total_of (go_of M live tie s z) ≡ none)
  go-none = least-none go-total

  go-route : (T : ℕ) → total_of (go_of M live tie s z) ≡ some T
      → Leads (live_net M live) s (route_of (go_of M live tie s z)) z
      × (total_over (live_net M live) (route_of (go_of M live tie s z)) ≡ some T)
      × (length (route_of (go_of M live tie s z)) < count_of (go_of M live tie s z))
  unfolding go_of
  go-route T q =
      let found = route-total go_well_formed T q in
      let r = found.route in
      let f = start_at-some s r.first r.first-time r.start_is in
      let t : r.rest ≡ T = omega (arith, r.total, f.1) in (
        subst₂ (λ (a : ℕ) (b : ℕ). Leads (live_net M live) a (route_of (go_of M live tie s z)) b)
            (sym f.0) (eqb-true found.at z found.at-goal) r.leads,
        r.sums ∙ ap some t,
        found.short,
      )

  pub go_meets : Demand M live s z (go_of M live tie s z)
  unfolding go_of
  go_meets = record {
    total = go-total;
    route = λ T q. (let r = go-route T q in (r.0, r.1));
    smallest = route-smallest go_well_formed;
    short = λ T q. (go-route T q).2;
    times = λ e m. least-map (λ t w. go_walk w) (λ t p. go-path p) (times-least go_well_formed e m);
    time-least = time_of-least ok live s;
    estimate-least = estimate_of-least ok z lz;
  }

  -- where no cost is above C, logged times are at most (n - 1) * C, and keys twice that
  pub go-fits : {C : ℕ} → CostsAtMost (Arc M.base) C → CostsAtMost (Arc (live_net M live)) C → (e : Entry)
      → Memᴰ e (log_of (go_of M live tie s z))
      → (e.time ≤ (M.vertices - 1) * C) × (e.key ≤ (M.vertices - 1) * C + (M.vertices - 1) * C)
  unfolding go_of
  go-fits {C} base-most live-most e m =
      let time-is = least_unique (time_of-least ok live s e.vertex) (go_meets.times e m) in
      let t : e.time ≤ (M.vertices - 1) * C = time_of-bound ok live live-most s e.vertex ls time-is in
      let k = log-keyed go_well_formed e m in
      let p : k.estimate ≤ (M.vertices - 1) * C = estimate-fits e k in
      (t, omega (arith, k.key-is))
    where
      estimate-fits : (e : Entry) (k : Keyed (go_of M live tie s z) e) → k.estimate ≤ (M.vertices - 1) * C
      estimate-fits e k = estimate_of-bound ok z lz base-most e.vertex k.below k.pot-is
