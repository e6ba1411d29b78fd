-- The line that an answer prints. Definitions only.
use Rattle.std.specs.Prelude.{List, [], ◌++◌, ◌∷◌, ℕ}
use Rattle.model.specs.Types.{Answer}
use Rattle.line_texts.specs.Ascii.{ascii}
use Rattle.line_answers.specs.Texts.{worded}

abbrev pub newline : List ℕ
newline = 10 ∷ []

-- the line of an answer, with its newline
abbrev pub answer_text : Answer → (route : List ℕ) → List ℕ
answer_text a route = worded a route ++ newline

-- "an unreadable line prints `no 0`"
abbrev pub unreadable_text : List ℕ
unreadable_text = ascii "no 0" ++ newline
