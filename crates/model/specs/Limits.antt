-- The limits of documents 01 and 02, each once. Definitions only.
use Rattle.std.specs.Prelude.{ℕ}

-- "n is 1 to 4,096"
abbrev pub most_junctions : ℕ
most_junctions = 4096

-- "m is 0 to 16,384"
abbrev pub most_roads : ℕ
most_roads = 16384

-- "At most 65,536 fit."
abbrev pub most_pairs : ℕ
most_pairs = 65536

-- document 02, A7: tenths of a second, "from 1 to 10,000,000"
abbrev pub most_time : ℕ
most_time = 10000000

-- the largest least total: 4,095 × 10,000,000 tenths
abbrev pub most_total : ℕ
most_total = 40950000000

-- document 02, A3: "at 2 to 32 junctions"
abbrev pub fewest_stops : ℕ
fewest_stops = 2

abbrev pub most_stops : ℕ
most_stops = 32

-- a leg leads from a stop to the next: one fewer than stops
abbrev pub most_legs : ℕ
most_legs = 31

-- document 02, A6: "bit c .., 0 to 7"
abbrev pub classes : ℕ
classes = 8

-- document 02, A6: "The first word may be 2 or 3": the roads and the order always, then the classes of each road
abbrev pub fewest_sections : ℕ
fewest_sections = 2

abbrev pub most_sections : ℕ
most_sections = 3
