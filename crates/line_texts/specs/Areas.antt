-- Numbers as text, and how a text stands in a lent area. Definitions only.
use Rattle.std.specs.Prelude.{◌≡◌, cond, List, [], ◌++◌, ◌∷◌, ◌%◌, ◌+◌, ◌/◌, min, suc, zero, ℕ, ltb, drop, length, take}

-- ---- decimal digits

-- the decimal digits of n, at most f of them
unfoldable pub digits_in : ℕ → ℕ → List ℕ
digits_in zero n = []
digits_in (suc f) n = cond (ltb n 10) ((48 + n) ∷ []) (digits_in f (n / 10) ++ ((48 + n % 10) ∷ []))

-- a number of at most 20 digits
unfoldable pub decimal : ℕ → List ℕ
unfolding digits_in
decimal n = digits_in 20 n

-- numbers, one space before each
unfoldable pub spaced : List ℕ → List ℕ
spaced [] = []
spaced (n ∷ l) = 32 ∷ (decimal n ++ spaced l)

-- ---- in an area

-- as much of the text as fits, then the rest of the area as it was
unfoldable pub shown : (text area : List ℕ) → List ℕ
shown text area = take (length area) text ++ drop (length text) area

-- The area, which was `before`, shows the text, as much of it as fits; `end` bytes of it.
pub record Written (before text after : List ℕ) (end : ℕ) : Type 0 where
  pub area : after ≡ shown text before
  pub count : end ≡ min (length text) (length before)

-- text is followed by s: from the area a, written up to `at`, the area z is made, written up to `end`
pub record Puts (s a : List ℕ) (at : ℕ) (z : List ℕ) (end : ℕ) : Type 0 where
  pub then : (o t : List ℕ) → Written o t a at → Written o (t ++ s) z end
