-- Proves of each what least total it is, and how large at most; and that estimates are a consistent potential for live costs
-- (`estimate_of-consistent`). Assumes nothing.
use Rattle.std.specs.Prelude.{◌≡◌, ◌*◌, ◌-◌, ◌<◌, ◌≤◌, ℕ}
use Rattle.std.proofs.Math.Option.{some}
use Rattle.std.proofs.Common.{zero-le}
use Rattle.graph.specs.Total.{Total}
use Rattle.graph.specs.Least.{IsLeast}
use Rattle.graph.proofs.Least.{least-number, least_unique}
use Rattle.graph.specs.Path.{Path, empty}
use Rattle.graph.specs.Network.{Arc, direct}
use Rattle.graph.proofs.Network.{at_costs-inside, direct-least, ends-below}
use Rattle.graph.specs.Level.{dist}
use Rattle.graph.proofs.Level.{dist-least}
use Rattle.graph.proofs.Pairs.{down-least, up_least}
use Rattle.graph.proofs.Estimate.{down_total_inner}
use Rattle.graph.specs.Bound.{CostsAtMost}
use Rattle.graph.proofs.Bound.{dist-bound, least-at_most, path-short}
use Rattle.graph.specs.Ranks.{renamed}
use Rattle.graph.proofs.Ranks.{estimate-least, inner_least, ranks_rename}
use Rattle.graph.specs.Potential.{Consistent, Slower}
use Rattle.graph.proofs.Potential.{base-consistent}
use Rattle.graph.specs.Map.{Map, Valid, rank, up_of, down_of, down_total_of, estimate_of, live_net, time_of, BelowRank}

module _ {M : Map} (ok : Valid M) where
  -- the up time and the down time, in the words of document 01; to rank below both is to rank below low
  module _ {low high : ℕ} (ll : low < M.vertices) (lh : high < M.vertices) (lt : rank M low < rank M high) where
    pub up_of-least : IsLeast (BelowRank M (rank M low) low high) (up_of M low high)
    up_of-least = inner_least (ranks_rename ok.orders) ok.inside ll lh (up_least (direct-least (renamed (rank M) M.base)) lt)

    pub down_of-least : IsLeast (BelowRank M (rank M low) high low) (down_of M low high)
    down_of-least = inner_least (ranks_rename ok.orders) ok.inside lh ll (down-least (direct-least (renamed (rank M) M.base)) lt)

  -- the down total of v for a target z of smaller rank is a least base total, of the paths whose inner vertices rank below v
  pub down_total_of-least : {z v : ℕ} → z < M.vertices → v < M.vertices → rank M z < rank M v
      → IsLeast (BelowRank M (rank M v) v z) (down_total_of M z v)
  down_total_of-least {z} {v} lz lv lt =
      inner_least (ranks_rename ok.orders) ok.inside lv lz
      (down_total_inner (direct-least (renamed (rank M) M.base)) (rank M z) (rank M v) lt)

  pub time_of-least : (live : ℕ → Total) (s v : ℕ) → IsLeast (Path (Arc (live_net M live)) s v) (time_of M live s v)
  time_of-least live s v = dist-least (direct-least (live_net M live)) (ends-below (at_costs-inside ok.inside)) s v

  pub time_of-bound : (live : ℕ → Total) {C : ℕ} → CostsAtMost (Arc (live_net M live)) C → (s v : ℕ) {u : ℕ} → s < M.vertices
      → time_of M live s v ≡ some u
      → u ≤ (M.vertices - 1) * C
  time_of-bound live most s v h e = dist-bound (direct-least (live_net M live)) (ends-below (at_costs-inside ok.inside)) most s v h e

  module _ (z : ℕ) (lz : z < M.vertices) where
    -- the estimate is the least base total of the paths of arcs, open or closed
    pub estimate_of-least : (v : ℕ) → v < M.vertices → IsLeast (Path (Arc M.base) v z) (estimate_of M z v)
    estimate_of-least v lv = estimate-least (ranks_rename ok.orders) ok.inside z v lz lv

    -- which does without order and pairs
    pub estimate_of-dist : (v : ℕ) → v < M.vertices → estimate_of M z v ≡ dist (direct M.base) M.vertices v z
    estimate_of-dist v lv = least_unique (estimate_of-least v lv) (dist-least (direct-least M.base) (ends-below ok.inside) v z)

    pub estimate_of-here : estimate_of M z z ≡ some 0
    estimate_of-here = least_unique (estimate_of-least z lz) (least-number empty (λ u p. zero-le))

    pub estimate_of-bound : {C : ℕ} → CostsAtMost (Arc M.base) C → (v : ℕ) {u : ℕ} → v < M.vertices → estimate_of M z v ≡ some u
        → u ≤ (M.vertices - 1) * C
    estimate_of-bound {C} most v lv e =
        least-at_most ((M.vertices - 1) * C) (estimate_of-least v lv) (λ u p. path-short most (ends-below ok.inside) lv p) e

    -- where no live cost is below the base cost, it is a consistent potential
    pub estimate_of-consistent : {live : ℕ → Total} → Slower M.base live → Consistent (Arc (live_net M live)) (estimate_of M z)
    estimate_of-consistent slower = base-consistent slower ok.inside estimate_of-least
