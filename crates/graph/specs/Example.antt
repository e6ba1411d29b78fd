-- Two small maps, computed through the definitions. One has parallel arcs, a dead end, keys that tie, up times that a path over higher
-- ranks would undercut, and a target that is a candidate long before it is logged; the other has vertices whose keys and times tie.
-- Definitions; what is proved of them stands in proofs/Example.antt.
use Rattle.std.specs.Prelude.{List, ℕ}
use Rattle.graph.specs.Total.{Total}

-- ---- searches

-- what a search gives
pub record Shown : Type 0 where
  pub log : List ℕ
  pub times : List ℕ
  pub keys : List ℕ
  pub elapsed : List Total
  pub total : Total
  pub route : List ℕ
  pub count : ℕ
