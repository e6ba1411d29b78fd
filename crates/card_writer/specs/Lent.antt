-- The map as the writer is lent it. Definitions only.
use Rattle.std.specs.Prelude.{List, ◌*◌, ◌≤◌, ℕ, length}
use Rattle.model.specs.Limits.{most_junctions, most_roads}
use Rattle.model.specs.Card.{Rows}

-- the map of two rows of words
abbrev pub rows_of : (roads order : List ℕ) → Rows
rows_of roads order = record { roads = roads; order = order }

-- no longer than question 4 lets them be
abbrev pub Short : (roads order : List ℕ) → Type 0
Short roads order = (length roads ≤ 3 * most_roads) × (length order ≤ most_junctions)
