-- What the loops over the lower ranks keep: their records, how far each of their rows is passed, and a bound for each block of them.
-- Definitions only.
use Rattle.std.specs.Prelude.{◌≡◌, List, ◌*◌, ◌+◌, ◌/◌, ◌<◌, ◌≤◌, min, suc, ℕ, get_or, length, set, take}
use Rattle.std.proofs.Math.Option.{some}
use Rattle.graph.specs.Total.{Total, ◌⊓◌}
use Rattle.graph.specs.Path.{Weights}
use Rattle.graph.specs.Level.{level}
use Rattle.graph.specs.Pairs.{down, up}
use Rattle.graph.specs.Records.{Pair, edge, min_over, row, rows}
use Rattle.graph.specs.Folds.{through}
use Rattle.model.specs.Limits.{most_pairs}
use Rattle.model.specs.Word.{of_word, unasked}
use Rattle.model.specs.Areas.{rank_words, record_size, time_words}
use Rattle.pairs_records.specs.Words.{down_in, high_in, up_in}
use Rattle.pairs_rows.specs.Rows.{Marked, Row, block}

-- every time of a pair fits
pub record Narrow (w : Weights) (n : ℕ) : Type 0 where
  pub ups : (l h t : ℕ) → l < n → h < n → up w l h ≡ some t → t < unasked
  pub downs : (l h t : ℕ) → l < n → h < n → down w l h ≡ some t → t < unasked

-- the two areas begin with the records of the pairs of l, count in number, and have the same room
pub record Holds (l : List Pair) (count : ℕ) (pairs times : List ℕ) : Type 0 where
  pub count-is : count ≡ length l
  pub room : record_size * count ≤ length pairs
  pub same-room : length times ≡ length pairs
  pub ranks_are : take (record_size * count) pairs ≡ rank_words l
  pub times_are : take (record_size * count) times ≡ time_words l

-- ---- a row of records relaxes the row of r

-- the highs of the records from `from` to before `to` have entries and marks
pub record Reached (pairs : List ℕ) (from to : ℕ) (ups downs touched : List ℕ) : Type 0 where
  pub ups_in : (j : ℕ) → from ≤ j → j < to → high_in pairs j < length ups
  pub downs_in : (j : ℕ) → from ≤ j → j < to → high_in pairs j < length downs
  pub marks_in : (j : ℕ) → from ≤ j → j < to → high_in pairs j < block * length touched

-- from record `from` on stand the pairs of l, with one of their two times where `time_in` finds it (up_in or down_in)
pub record Times (pairs times : List ℕ) (from : ℕ) (time_in : List ℕ → ℕ → ℕ) (time : Pair → Total) (l : List Pair) : Type 0 where
  pub high : (i : ℕ) (d : Pair) → i < length l → high_in pairs (from + i) ≡ (get_or l i d).high
  pub time-is : (i : ℕ) (d : Pair) → i < length l → of_word (time_in times (from + i)) ≡ time (get_or l i d)

-- each of these pairs relaxes the entry of its high by `first` and its time
pub record Relaxed (pairs times : List ℕ) (from to : ℕ) (time_in : List ℕ → ℕ → ℕ) (first : ℕ) (row row' : List ℕ) : Type 0 where
  pub by : (r n : ℕ) (l : List Pair) (time : Pair → Total) (x : ℕ → Total) → Times pairs times from time_in time l → from + length l ≡ to
      → Row r n row x
      → Row r n row' (λ h. x h ⊓ min_over (through (of_word first) time h) l)

-- both rows by the records after i, up to before `end`: the up times over i's down time, and the down times over i's up time
pub record Over (pairs times : List ℕ) (i end : ℕ) (ups downs touched ups' downs' touched' : List ℕ) : Type 0 where
  pub ups-by : Relaxed pairs times (i + 1) end up_in (down_in times i) ups ups'
  pub downs-by : Relaxed pairs times (i + 1) end down_in (up_in times i) downs downs'
  pub marks : (r n : ℕ) → Marked r n touched ups downs → Marked r n touched' ups' downs'

-- ---- the rows of the lower ranks

-- Of the records of v: cursor is the place of the first one whose high is s or more, ahead that high, or n where there is none, and end the
-- place after the last.
pub record Front (w : Weights) (n v s : ℕ) (cursor ahead ends : List ℕ) : Type 0 where
  pub cursor-is : get_or cursor v 0 ≡ length (rows w n v) + length (row w v s)
  pub ahead-is : get_or ahead v 0 ≡ (get_or (row w v n) (length (row w v s)) (edge n)).high
  pub end_is : get_or ends v 0 ≡ length (rows w n v) + length (row w v n)

-- each of n ranks has its front
pub record Wide (n : ℕ) (cursor ahead ends : List ℕ) : Type 0 where
  pub cursors : n ≤ length cursor
  pub aheads : n ≤ length ahead
  pub ends_too : n ≤ length ends

-- The row of r, relaxed over the ranks below k. The rows of these are passed up to r, those of the others up to before r.
pub record Stage (w : Weights) (n r k : ℕ) (pairs times cursor ahead ends ups downs touched : List ℕ) : Type 0 where
  pub inside : r < n
  pub wide : Wide n cursor ahead ends
  pub area : length pairs ≤ record_size * most_pairs
  pub narrow : Narrow w n
  pub count : ℕ
  pub holds : Holds (rows w n r) count pairs times
  pub passed : (v : ℕ) → v < k → Front w n v (suc r) cursor ahead ends
  pub waiting : (v : ℕ) → k ≤ v → v < r → Front w n v r cursor ahead ends
  pub ups_are : Row r n ups (λ h. level w k r h)
  pub downs_are : Row r n downs (λ h. level w k h r)
  pub marked : Marked r n touched ups downs

-- the same, and x is at most the high ahead of each rank from `from` to before k
pub record Scanned (w : Weights) (n r from k x : ℕ) (pairs times cursor ahead ends ups downs touched : List ℕ) : Type 0 where
  pub stage : Stage w n r k pairs times cursor ahead ends ups downs touched
  pub bound : (v : ℕ) → from ≤ v → v < k → x ≤ get_or ahead v 0

-- soon is, for each block, at most the high ahead of each of its ranks below r
pub record Sooner (n r : ℕ) (ahead soon : List ℕ) : Type 0 where
  pub wide : n ≤ block * length soon
  pub before : (v : ℕ) → v < r → get_or soon (v / block) 0 ≤ get_or ahead v 0

-- all of it
pub record Lower (w : Weights) (n r k : ℕ) (pairs times cursor ahead ends soon ups downs touched : List ℕ) : Type 0 where
  pub stage : Stage w n r k pairs times cursor ahead ends ups downs touched
  pub sooner : Sooner n r ahead soon

-- ---- the front of a new row

pub record Begun (r place high end : ℕ) (cursor ahead ends soon cursor' ahead' ends' soon' : List ℕ) : Type 0 where
  pub cursor-is : cursor' ≡ set cursor r place
  pub ahead-is : ahead' ≡ set ahead r high
  pub ends_are : ends' ≡ set ends r end
  pub soon-is : soon' ≡ set soon (r / block) (min (get_or soon (r / block) 0) high)
