-- Proves that least base totals are consistent for them (`base-consistent`). Assumes nothing.
use Rattle.std.specs.Prelude.{◌≡◌, refl, ◌+◌, ◌<◌, ◌≤◌, ℕ}
use Rattle.std.proofs.Math.Option.{some}
use Rattle.std.proofs.Common.{arith}
use Rattle.graph.specs.Total.{Total}
use Rattle.graph.proofs.Total.{some-some, within}
use Rattle.graph.specs.Least.{AtMost, IsLeast}
use Rattle.graph.proofs.Least.{least_anti, least_self, least-⊕}
use Rattle.graph.specs.Path.{Arcs, Path, link}
use Rattle.graph.specs.Network.{Arc, InRange, Network, arc_of, at_costs}
use Rattle.graph.proofs.Network.{at_costs-inside, ends-below}
use Rattle.graph.specs.Potential.{Consistent, Slower}

module _ {E : Arcs} (h : ℕ → Total) (cons : Consistent E h) where
  -- where b has a potential, so has a
  pub falls-by : {a b c : ℕ} (q : ℕ) → E a b c → h b ≡ some q → (p : ℕ) × (h a ≡ some p) × (p ≤ c + q)
  falls-by {a} {b} {c} q e hb = within (h a) (c + q) (rw hb at (cons a b c e))

module _ {N : Network} {f : ℕ → Total} (slower : Slower N f) where
  -- a base arc for each live one
  pub base-arc : {a b c : ℕ} → Arc (at_costs N f) a b c → AtMost (Arc N a b) c
  base-arc {c} e =
      let i = e.index in
      let r = within (N.cost i) c (rw e.at.costs at (slower.no_faster i e.below)) in
      record { total = r.0; le = r.2; holds = arc_of i e.below e.at.from e.at.to r.1 }

  -- the least base totals to t, where h has them
  module _ {n t : ℕ} (inside : InRange n N) {h : ℕ → Total} (least : (a : ℕ) → a < n → IsLeast (Path (Arc N) a t) (h a)) where
    pub base-consistent : Consistent (Arc (at_costs N f)) h
    base-consistent a b c e =
        let ends = ends-below (at_costs-inside inside) a b c e in
        let r = base-arc e in
        least_anti (least a ends.0) (least-⊕ (least_self (some c)) (least b ends.1)) (λ u s.
        let one : c ≡ s.one = some-some refl s.first in
        record { total = r.total + s.two; le = omega (arith, r.le, s.adds); holds = link r.holds s.second })
