-- The fields of a line: "a number has 1 to 20 decimal digits and fits the width of a time", and the parts at a space. Definitions only.
use Rattle.std.specs.Prelude.{Bool, ◌&&◌, cond, true, List, [], ◌∷◌, ◌*◌, ◌+◌, ◌-◌, ℕ, None, Option, Some, eqb, leb, length}
use Rattle.std.specs.List.{after_first, before_first}
use Rattle.model.specs.Word.{none_word}

-- ---- a number

-- '0' to '9'
unfoldable pub is_digit : ℕ → Bool
is_digit b = leb 48 b && leb b 57

unfoldable pub all_digits : List ℕ → Bool
all_digits [] = true
all_digits (b ∷ s) = is_digit b && all_digits s

-- the value of the digits s that follow digits of value v
unfoldable pub value_from : ℕ → List ℕ → ℕ
value_from v [] = v
value_from v (b ∷ s) = value_from (v * 10 + (b - 48)) s

-- "a number has 1 to 20 decimal digits and fits the width of a time", whose largest word is that of none
unfoldable pub is_number : List ℕ → Bool
is_number s = leb 1 (length s) && leb (length s) 20 && all_digits s && leb (value_from 0 s) none_word

unfoldable pub number_of : List ℕ → Option ℕ
number_of s = cond (is_number s) (Some (value_from 0 s)) None

-- ---- words and spaces

abbrev pub is_space : ℕ → Bool
is_space b = eqb b 32

-- the parts before and after the first space; where there is none, all of it and nothing
abbrev pub before_space : List ℕ → List ℕ
before_space s = before_first is_space s

abbrev pub after_space : List ℕ → List ℕ
after_space s = after_first is_space s
