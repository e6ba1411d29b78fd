-- The first road or place that fails, as a total. Definitions only.
use Rattle.std.specs.Prelude.{None, Option, Some, ℕ}
use Rattle.std.proofs.Math.Option.{none, some}
use Rattle.graph.specs.Total.{Total}

-- the first that fails, or none
abbrev pub failing_in : Option ℕ → Total
failing_in None = none
failing_in (Some i) = some i
