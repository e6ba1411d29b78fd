-- Rows that question 4 takes are short. Assumes nothing.
use mathlib.Core.Path.{◌≡◌}
use mathlib.Core.Bool.{true}
use Prim.Native.Nat.{◌*◌, ◌≤◌, ℕ}
use native.Mathlib.Omega.{arith}
use Rattle.model.specs.Limits.{most_junctions, most_roads}
use Rattle.model.specs.Card.{sizes_ok}
use Rattle.model.proofs.Accept.{sizes-facts}

pub short : (a b : ℕ) → sizes_ok (4 * a) (4 * b) ≡ true → (a ≤ 3 * most_roads) × (b ≤ most_junctions)
short a b h = let z = sizes-facts (4 * a) (4 * b) h in (omega (arith, z.roads-high), omega (arith, z.order-high))
