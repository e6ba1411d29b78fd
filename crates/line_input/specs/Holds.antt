-- A line that is kept in an area. Definitions only.
use Rattle.std.specs.Prelude.{◌≡◌, Bool, true, List, ◌<◌, ◌≤◌, ℕ, length, ltb, take}
use Rattle.line_input.specs.declared.Part.{Part}
use Rattle.line_input.specs.declared.Part.TheVariants.{Kept, Long}

-- the bytes xs were taken: all of them stand first in the area, or they are more than it has
abbrev pub Holds : Part → (area xs : List ℕ) → Type 0
Holds (Kept n) area xs = (n ≤ length area) × (take n area ≡ xs)
Holds Long area xs = length area < length xs

-- whether there are any
abbrev pub has_bytes : Part → Bool
has_bytes (Kept n) = ltb 0 n
has_bytes Long = true
