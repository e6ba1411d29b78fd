-- The lines of the input: what taking the bytes of a chunk, and reading the next one, does to a line. Definitions only.
use Rattle.std.specs.Prelude.{◌≡◌, ◌≢◌, Bool, cond, false, not, true, List, [], ◌++◌, ◌∷◌, ◌+◌, ◌-◌, ◌<◌, ◌≤◌, ℕ, ltb, drop, length, take}
use Rattle.line_input.specs.Holds.{Holds, has_bytes}
use Rattle.line_input.specs.declared.Reader.{Reader}

abbrev pub newline : ℕ
newline = 10

-- the bytes of a chunk that are not taken yet
abbrev pub unread : Reader → List ℕ → List ℕ
unread r chunk = drop r.at (take r.end chunk)

-- ---- one step

-- before the first line: nothing is read, no line is begun. An input that is not open has ended
pub record AtStart (opens : Bool) (r : Reader) : Type 0 where
  pub nothing : (chunk : List ℕ) → unread r chunk ≡ []
  pub no_line : (area : List ℕ) → Holds r.part area []
  pub waits : r.ready ≡ false
  pub ended : r.ended ≡ not opens
  pub turns : r.turns ≡ 18446744073709551615

-- the byte b is taken: a newline ends the line, any other byte is its next one
pub record Took (b left : ℕ) (r : Reader) (area : List ℕ) (s : Reader) (area' : List ℕ) : Type 0 where
  pub at : s.at ≡ r.at + 1
  pub end : s.end ≡ r.end
  pub ended : s.ended ≡ r.ended
  pub turns : s.turns ≡ left
  pub ends : b ≡ newline → (s.ready ≡ true) × (s.part ≡ r.part) × (area' ≡ area)
  pub goes_on : b ≢ newline → (s.ready ≡ false) × ((xs : List ℕ) → Holds r.part area xs → Holds s.part area' (xs ++ (b ∷ [])))

-- n bytes were read, and stand first in the chunk. Where there are none the input has ended, and so has a line that has bytes
pub record Refilled (n left : ℕ) (r s : Reader) : Type 0 where
  pub at : s.at ≡ 0
  pub end : s.end ≡ n
  pub line : s.part ≡ r.part
  pub turns : s.turns ≡ left
  pub ends : n ≡ 0 → (s.ready ≡ has_bytes r.part) × (s.ended ≡ true)
  pub goes_on : 0 < n → (s.ready ≡ false) × (s.ended ≡ false)

-- a step takes the next byte of the chunk; where there is none, it reads
pub data Stepped (r : Reader) (chunk area : List ℕ) (s : Reader) (chunk' area' : List ℕ) : Type 0 where
  took : (b : ℕ) → unread r chunk ≡ b ∷ unread s chunk' → chunk' ≡ chunk → Took b (r.turns - 1) r area s area'
      → Stepped r chunk area s chunk' area'
  refilled : (n : ℕ) → unread r chunk ≡ [] → n ≤ length chunk' → Refilled n (r.turns - 1) r s → area' ≡ area
      → Stepped r chunk area s chunk' area'

-- whether a step more is to be made
abbrev pub waiting : Reader → Bool
waiting r = cond r.ready false (cond r.ended false (ltb 0 r.turns))

-- ---- a line

-- the bytes of all reads in their order, of a list that has the last read first
abbrev pub in_order : List (List ℕ) → List ℕ
in_order [] = []
in_order (c ∷ earlier) = in_order earlier ++ c

-- each read gave bytes
abbrev pub Gave : List (List ℕ) → Type 0
Gave [] = Unit {0}
Gave (c ∷ earlier) = (0 < length c) × Gave earlier

-- what the last read gave stands first in the chunk; where nothing was read, the chunk is as before
abbrev pub Last : List (List ℕ) → (before : List ℕ) → Reader → (chunk : List ℕ) → Type 0
Last [] before r chunk = chunk ≡ before
Last (c ∷ earlier) before r chunk = c ≡ take r.end chunk

-- no newline among the bytes
abbrev pub Plain : List ℕ → Type 0
Plain [] = Unit {0}
Plain (b ∷ s) = (b ≢ newline) × Plain s

-- "A line ends at a newline or at the end of the input; after a last newline no further line follows": the bytes `input` are a line, and
-- what is left; `ready` says whether there is a line.
-- The input ends where a read gives nothing, and `ended` says so from then on: nothing more is read. The last case is a reader that has
-- used up its steps, 2 ^ 64 - 1 bytes and reads in all: it has none left.
pub data Ends (input line rest : List ℕ) (left : ℕ) : (before : Bool) → (reads : List (List ℕ)) → (ready ended : Bool) → Type 0 where
  at-newline : {reads : List (List ℕ)} → Gave reads → input ≡ line ++ (newline ∷ rest) → Ends input line rest left false reads true false
  at-end : {earlier : List (List ℕ)} → Gave earlier → input ≡ line → rest ≡ []
      → Ends input line rest left false ([] ∷ earlier) (ltb 0 (length line)) true
  after-end : line ≡ [] → input ≡ rest → Ends input line rest left true [] false true
  out_of_turns : {reads : List (List ℕ)} → Gave reads → input ≡ line ++ rest → left ≡ 0 → Ends input line rest left false reads false false

-- the next line: of the bytes that were left, and then of those that were read. Each byte that is taken and each read is a step
pub record NextLine (from : Reader) (chunk : List ℕ) (to : Reader) (chunk' area : List ℕ) : Type 0 where
  pub line : List ℕ
  pub reads : List (List ℕ)
  pub last : Last reads chunk to chunk'
  pub plain : Plain line
  pub holds : Holds to.part area line
  pub ends : Ends (unread from chunk ++ in_order reads) line (unread to chunk') to.turns from.ended reads to.ready to.ended
  pub turns : to.turns + (length (unread from chunk ++ in_order reads) + length reads) ≡ from.turns + length (unread to chunk')
