-- The loop of `read_number`: the digits passed make v, and what is left of s decides the rest. Assumes nothing.
use mathlib.Core.Path.{◌∙◌, ◌≡◌, ap, refl}
use mathlib.Core.Bool.{Bool, ◌&&◌, false, true}
use mathlib.Core.List.{List, [], ◌∷◌}
use Prim.Native.Nat.{◌*◌, ◌+◌, ◌-◌, ◌<◌, ◌≤◌, ℕ}
use borrow.Author.Tests.{le-leb, lt-leb}
use lib.ListN.{drop, drop_of_length-le, get_or, length}
use lib.Seq.{drop-cons}
use native.Mathlib.Numerals.{add-one}
use native.Mathlib.Omega.{arith}
use Rattle.model.specs.Word.{none_word}
use Rattle.std.specs.Prelude.{None, Some}
use Rattle.std.specs.Char.{is_ascii_digit}
use Rattle.line_fields.specs.Fields.{all_digits, is_digit, is_number, number_of, value_from}

pub and_false : (b : Bool) → b && false ≡ false
and_false true = refl
and_false false = refl

value_grows : (s : List ℕ) (v : ℕ) → v ≤ value_from v s
unfolding value_from
value_grows [] v = omega arith
value_grows (b ∷ s) v = omega (arith, value_grows s (v * 10 + (b - 48)))

module _ (s : List ℕ) (i : ℕ) (h : i < length s) where
  value-step : (v : ℕ) → value_from v (drop i s) ≡ value_from (v * 10 + (get_or s i 0 - 48)) (drop (i + 1) s)
  unfolding value_from
  value-step v = rw (add-one, drop-cons s i 0)

  digits_step : all_digits (drop i s) ≡ is_digit (get_or s i 0) && all_digits (drop (i + 1) s)
  unfolding all_digits
  digits_step = rw (add-one, drop-cons s i 0)

-- ---- the ways to no number, and the way to one

pub short : (s : List ℕ) → length s < 1 → None ≡ number_of s
unfolding number_of is_number
short s h = simp (lt-leb 1 (length s) h)

pub long : (s : List ℕ) → 20 < length s → None ≡ number_of s
unfolding number_of is_number
long s h = simp (lt-leb (length s) 20 h, and_false)

not_digits : (s : List ℕ) → all_digits s ≡ false → None ≡ number_of s
unfolding number_of is_number
not_digits s h = simp (h, and_false)

too_large : (s : List ℕ) → none_word < value_from 0 s → None ≡ number_of s
unfolding number_of is_number
too_large s h = simp (lt-leb (value_from 0 s) none_word h, and_false)

number_is : (s : List ℕ) → 1 ≤ length s → length s ≤ 20 → all_digits s ≡ true → value_from 0 s ≤ none_word
    → Some (value_from 0 s) ≡ number_of s
unfolding number_of is_number
number_is s a b d v = simp (le-leb 1 (length s) a, le-leb (length s) 20 b, d, le-leb (value_from 0 s) none_word v)

-- ---- the loop

-- the first i bytes of s are digits of value v
pub record Passed (s : List ℕ) (i v : ℕ) : Type 0 where
  pub inside : i ≤ length s
  pub small : v ≤ none_word
  pub value-left : value_from 0 s ≡ value_from v (drop i s)
  pub digits-left : all_digits s ≡ all_digits (drop i s)

-- and b is the byte after them
pub record Next (s : List ℕ) (i v b : ℕ) : Type 0 where
  pub passed : Passed s i v
  pub below : i < length s
  pub byte_is : b ≡ get_or s i 0

module _ {s : List ℕ} {i v b : ℕ} (next : Next s i v b) where
  digits-at : all_digits s ≡ is_digit b && all_digits (drop (i + 1) s)
  digits-at = next.passed.digits-left ∙ digits_step s i next.below ∙ simp (← next.byte_is)

  value-next : value_from 0 s ≡ value_from (v * 10 + (b - 48)) (drop (i + 1) s)
  value-next = rw (next.passed.value-left, value-step s i next.below, next.byte_is)

  pub other_byte : is_ascii_digit b ≡ false → None ≡ number_of s
  unfolding is_digit
  other_byte e = not_digits s (digits-at ∙ rw e)

  pub overflow : none_word < v * 10 + (b - 48) → None ≡ number_of s
  overflow l = too_large s (omega (arith, value-next, value_grows (drop (i + 1) s) (v * 10 + (b - 48))))

  pub passed-more : is_ascii_digit b ≡ true → v * 10 + (b - 48) ≤ none_word → Passed s (i + 1) (v * 10 + (b - 48))
  unfolding is_digit
  passed-more e fits = record {
    inside = omega (arith, next.below);
    small = fits;
    value-left = value-next;
    digits-left = digits-at ∙ rw e;
  }

-- every digit is passed
pub passed-all : {s : List ℕ} {i v : ℕ} → length s ≤ i → 1 ≤ length s → length s ≤ 20 → Passed s i v → Some v ≡ number_of s
unfolding value_from all_digits
passed-all {s} {i} {v} h a b p =
    let q : value_from 0 s ≡ v = p.value-left ∙ ap (value_from v) (drop_of_length-le s h) in
    rw (← q) (number_is s a b (p.digits-left ∙ ap all_digits (drop_of_length-le s h)) (omega (arith, q, p.small)))
