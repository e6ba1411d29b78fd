-- The records by their words, what leads up, and the first record of a rank. Definitions only.
use Rattle.std.specs.Prelude.{Bool, ◌&&◌, cond, not, List, [], ◌++◌, ◌∷◌, ◌*◌, ◌+◌, ◌<◌, ◌≤◌, ℕ, eqb, ltb, drop, get_or, take}
use Rattle.model.specs.Word.{none_word, unasked}

-- ---- record i: its low and its high in the one area, its up time and its down time in the other (document 02, A7): where they stand is
-- said here

abbrev pub low_in : (pairs : List ℕ) → ℕ → ℕ
low_in pairs i = get_or pairs (2 * i) 0

abbrev pub high_in : (pairs : List ℕ) → ℕ → ℕ
high_in pairs i = get_or pairs (2 * i + 1) 0

abbrev pub up_in : (times : List ℕ) → ℕ → ℕ
up_in times i = get_or times (2 * i) 0

abbrev pub down_in : (times : List ℕ) → ℕ → ℕ
down_in times i = get_or times (2 * i + 1) 0

-- an area with record i written
abbrev pub with_record : {A : Type 0} → (area : List A) (i : ℕ) (first second : A) → List A
with_record area i first second = take (2 * i) area ++ (first ∷ second ∷ []) ++ drop (2 * i + 2) area

-- a record leads up from rank r to a higher one of the n ranks
unfoldable pub leads : (n r low high up : ℕ) → Bool
leads n r low high up = eqb low r && (ltb r high && (ltb high n && not (eqb up none_word)))

-- what a walk that found x answers: never unasked
unfoldable pub answer : ℕ → ℕ
answer x = cond (eqb x unasked) none_word x

-- the records ascend by low
abbrev pub Ascending : List ℕ → ℕ → Type 0
Ascending pairs count = (i k : ℕ) → i ≤ k → k < count → low_in pairs i ≤ low_in pairs k

-- whether the low of record i is below r, as a number
unfoldable pub below_in : List ℕ → ℕ → ℕ → ℕ
below_in pairs r i = cond (ltb (low_in pairs i) r) 1 0

-- if the records ascend, all before s are below r, and from s + 3 on none is
pub record Starts (pairs : List ℕ) (count r s : ℕ) : Type 0 where
  pub bound : s ≤ count
  pub before : Ascending pairs count → (i : ℕ) → i < s → low_in pairs i < r
  pub onward : Ascending pairs count → (i : ℕ) → s + 3 ≤ i → i < count → r ≤ low_in pairs i
