-- What appending the records of a row asks and leaves, and the zeros after the last record. Definitions only.
use Rattle.std.specs.Prelude.{◌≡◌, List, None, Option, Some, ◌*◌, ◌+◌, ◌<◌, ℕ, length, take}
use Rattle.std.proofs.Math.Option.{none}
use Rattle.graph.specs.Path.{Weights}
use Rattle.graph.specs.Pairs.{down, up}
use Rattle.graph.specs.Records.{Pair, rows}
use Rattle.model.specs.Areas.{record_size, zeros_after}
use Rattle.pairs_rows.specs.Rows.{Marked, Row}
use Rattle.pairs_fronts.specs.Fronts.{Holds, Narrow}

-- The answer is the number of records of l, which begin the areas; or these do not fit.
pub record Appended (l : List Pair) (pairs times : List ℕ) (answer : Option ℕ) : Type 0 where
  pub all : (count : ℕ) → answer ≡ Some count → Holds l count pairs times
  pub full : answer ≡ None → length pairs < record_size * length l

-- the two rows of times are those of r, and the areas begin with the records of the lower ranks
pub record RowTimes (w : Weights) (n r count : ℕ) (touched ups downs pairs times : List ℕ) : Type 0 where
  pub narrow : Narrow w n
  pub holds : Holds (rows w n r) count pairs times
  pub ups_are : Row r n ups (up w r)
  pub downs_are : Row r n downs (down w r)
  pub marked : Marked r n touched ups downs

-- the records of r stand there too, if they fit, and the rows of times are none again
pub record RowAppended (w : Weights) (n r : ℕ) (ups downs pairs times : List ℕ) (answer : Option ℕ) : Type 0 where
  pub appended : Appended (rows w n (r + 1)) pairs times answer
  pub ups-none : (count : ℕ) → answer ≡ Some count → Row r n ups (λ h. none)
  pub downs-none : (count : ℕ) → answer ≡ Some count → Row r n downs (λ h. none)

-- an area with zeros after its first `count` records
abbrev pub cleared : (count : ℕ) → List ℕ → List ℕ
cleared count area = zeros_after (take (record_size * count) area) (length area)
