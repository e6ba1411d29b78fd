-- There and back: the number that the decimal digits of a word spell is the word. Assumes nothing.
use Rattle.std.proofs.Common.{◌∙◌, le-leb, length-append, pow-suc, arith}
use Rattle.std.specs.Prelude.{◌≡◌, refl, true, List, [], ◌++◌, ◌∷◌, ◌%◌, ◌*◌, ◌+◌, ◌-◌, ◌/◌, ◌<◌, ◌^◌, ◌≤◌, suc, zero, ℕ, length, Some}
use Rattle.std.proofs.Math.Decide.{dec_lt}
use Rattle.model.specs.Word.{none_word}
use Rattle.line_fields.specs.Fields.{all_digits, is_digit, is_number, number_of, value_from}
use Rattle.line_fields.specs.Parts.{both_left, both_right}
use Rattle.line_texts.specs.Areas.{decimal, digits_in}
use Rattle.line_texts.specs.Decimals.{digits-few, digits_large, digits-small}

value-last : (s : List ℕ) (v b : ℕ) → value_from v (s ++ (b ∷ [])) ≡ value_from v s * 10 + (b - 48)
unfolding value_from
value-last [] v b = refl
value-last (c ∷ s) v b = value-last s (v * 10 + (c - 48)) b

all-last : (s : List ℕ) (b : ℕ) → all_digits s ≡ true → is_digit b ≡ true → all_digits (s ++ (b ∷ [])) ≡ true
unfolding all_digits
all-last [] b p q = rw q
all-last (c ∷ s) b p q = rw (both_left (is_digit c) (all_digits s) p, all-last s b (both_right (is_digit c) (all_digits s) p) q)

is_digit_lem : (d : ℕ) → d < 10 → is_digit (48 + d) ≡ true
unfolding is_digit
is_digit_lem d h = rw (le-leb 48 (48 + d) (omega arith), le-leb (48 + d) 57 (omega arith))

-- what the digits of n spell
record Spells (n : ℕ) (s : List ℕ) : Type 0 where
  some-digits : 1 ≤ length s
  digits : all_digits s ≡ true
  value : value_from 0 s ≡ n

spells_one : (n : ℕ) → n < 10 → Spells n ((48 + n) ∷ [])
unfolding all_digits value_from
spells_one n h = record { some-digits = omega arith; digits = rw (is_digit_lem n h); value = omega arith }

spells-more : (n : ℕ) (s : List ℕ) → Spells (n / 10) s → Spells n (s ++ ((48 + n % 10) ∷ []))
spells-more n s p = record {
  some-digits = omega (arith, length-append s ((48 + n % 10) ∷ []));
  digits = all-last s (48 + n % 10) p.digits (is_digit_lem (n % 10) (omega arith));
  value = value-last s 0 (48 + n % 10) ∙ omega (arith, p.value);
}

spells : (f n : ℕ) → n < 10 ^ suc f → Spells n (digits_in (suc f) n)
spells zero n h = rw (digits-small 0 n (omega arith)) (spells_one n (omega arith))
spells (suc f) n h = go (dec_lt n 10) (λ l. spells f (n / 10) l)
  where
    go : Dec (n < 10) → (n / 10 < 10 ^ suc f → Spells (n / 10) (digits_in (suc f) (n / 10))) → Spells n (digits_in (suc (suc f)) n)
    go (yes l) r = rw (digits-small (suc f) n l) (spells_one n l)
    go (no l) r =
        rw (digits_large (suc f) n (omega arith)) (spells-more n (digits_in (suc f) (n / 10)) (r (omega (arith, pow-suc 10 (suc f)))))

-- the decimal digits of a word are a number, and the number is the word
pub there_and_back : (n : ℕ) → n ≤ none_word → number_of (decimal n) ≡ Some n
unfolding decimal number_of is_number
there_and_back n h =
    let p = spells 19 n (omega arith) in
    let few = digits-few 20 19 n (omega arith) in
    let k = length (digits_in 20 n) in
    rw (le-leb 1 k p.some-digits, le-leb k 20 (omega (arith, few)), p.digits, p.value, le-leb n none_word h)
