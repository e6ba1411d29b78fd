-- Defines networks, which serve base costs and live costs, by vertex or by rank, and the
-- least cost of a single arc between two vertices (`direct-least`). Assumes nothing.
use Rattle.std.specs.Prelude.{ℕ, eqb}
use Rattle.std.proofs.lemmas.Bool.{eqb-false}
use Rattle.std.proofs.Common.{eqb-true}
use Rattle.graph.specs.Total.{Total}
use Rattle.graph.proofs.Least.{least-below, least_cond, least-empty, least-map, least_self}
use Rattle.graph.specs.Path.{EndsBelow, Weighs}
use Rattle.graph.specs.Network.{Network, Arc, direct, InRange, at_costs}

pub direct-least : (N : Network) → Weighs (Arc N) (direct N)
unfolding direct
direct-least N a b =
    least-below N.arcs (λ i hi. least_cond (eqb (N.tail i) a)
    (λ f. least_cond (eqb (N.head i) b)
    (λ t. least-map (λ c e. record { from = eqb-true (N.tail i) a f; to = eqb-true (N.head i) b t; costs = e }) (λ c j. j.costs)
    (least_self (N.cost i)))
    (λ t. least-empty (λ c j. eqb-false (N.head i) b t j.to)))
    (λ f. least-empty (λ c j. eqb-false (N.tail i) a f j.from)))

pub ends-below : {n : ℕ} {N : Network} → InRange n N → EndsBelow (Arc N) n
ends-below {n} {N} h a b c e =
    (rw e.at.from at (h.tails e.index e.below), rw e.at.to at (h.heads e.index e.below))

pub at_costs-inside : {n : ℕ} {N : Network} {f : ℕ → Total} → InRange n N → InRange n (at_costs N f)
at_costs-inside h = record { tails = h.tails; heads = h.heads }
