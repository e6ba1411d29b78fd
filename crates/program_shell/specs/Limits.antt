-- The program's limits, each once. Definitions only.
use Rattle.std.specs.Prelude.{◌*◌, ℕ}
use Rattle.model.specs.Areas.{record_size}

-- "to 200 junctions, 800 roads"
abbrev pub junction_limit : ℕ
junction_limit = 200

abbrev pub road_limit : ℕ
road_limit = 800

-- "with room for 4,000 pairs": the words of their records, in each of the pairs' two areas
abbrev pub pair_words : ℕ
pair_words = record_size * 4000

-- "A file over 32,768 bytes prints `no 0`"
abbrev pub file_limit : ℕ
file_limit = 32768

-- the bytes of the area that a line is written to
abbrev pub out_room : ℕ
out_room = 8192
