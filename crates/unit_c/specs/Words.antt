-- Answers as words. Definitions only.
use Rattle.std.specs.Prelude.{◌≡◌, List, [], ◌∷◌, ℕ}
use Rattle.model.specs.Types.{Accepted, Answer, Estimated, Gone, Previewed, Read, Reading, Refused, Stopped, Unreadable}
use Rattle.model.specs.Card.{Rows}
use Rattle.model.specs.Promises.{WriteContract}

-- 0, or the number of the question that refuses
abbrev pub reading_number : Reading → ℕ
reading_number (Unreadable q) = q.question
reading_number (Read n m) = 0

-- n and m, or the place that is named
abbrev pub reading_words : Reading → List ℕ
reading_words (Unreadable q) = q.place ∷ 0 ∷ []
reading_words (Read n m) = n ∷ m ∷ []

abbrev pub answer_number : Answer → ℕ
answer_number (Refused q) = q.question
answer_number Accepted = 0
answer_number (Estimated t) = 0
answer_number (Gone t c k) = 0
answer_number (Previewed a b c) = 0
answer_number (Stopped legs whole) = 0

abbrev pub answer_place : Answer → ℕ
answer_place (Refused q) = q.place
answer_place Accepted = 0
answer_place (Estimated t) = 0
answer_place (Gone t c k) = 0
answer_place (Previewed a b c) = 0
answer_place (Stopped legs whole) = 0

-- the caller sees the number and the place of an answer that meets the writer's contract
pub record Wrote (map : Rows) (area areaAfter : List ℕ) (number place : ℕ) : Type 0 where
  pub answer : Answer
  pub meets : WriteContract map area areaAfter answer
  pub number_is : number ≡ answer_number answer
  pub place_is : place ≡ answer_place answer
