-- What the limits of document 01 give of the theory's bounds. Assumes nothing.
use Rattle.std.specs.Prelude.{◌*◌, ◌-◌, ◌≤◌, ℕ}
use Rattle.std.proofs.Common.{arith}
use Rattle.model.specs.Limits.{most_junctions, most_time, most_total}

-- every least total is at most the largest one
pub totals_fit : {n t : ℕ} → n ≤ most_junctions → t ≤ (n - 1) * most_time → t ≤ most_total
totals_fit h k = omega arith
