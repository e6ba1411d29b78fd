-- A number has at most 20 digits and no space; a line is its parts at the first space. Assumes nothing.
use Rattle.std.proofs.Common.{◌∙◌, ap, eqb-true, leb-true, ne_eqb, arith}
use Rattle.std.specs.Prelude.{◌≡◌, refl, Bool, ◌&&◌, cond, false, true, List, [], ◌++◌, ◌∷◌, ◌+◌, ◌<◌, ◌≤◌, ℕ, None, Some, eqb, leb, length}
use Rattle.std.specs.List.{position_or_len}
use Rattle.std.specs.Str.{bytes_eq}
use Rattle.std.proofs.lemmas.Slice.Eq.{bytes_eq-Decides}
use Rattle.std.proofs.Math.Decide.{dec_lt}
use Rattle.std.proofs.lemmas.Bool.{false≢true}
use Rattle.std.proofs.lemmas.List.Sums.{passes_at_first, split_at_first}
use Rattle.std.proofs.Math.ListN.{drop, drop_of_length-le, take}
use Rattle.std.proofs.Math.Seq.{drop-append-add, take-append_seam}
use Rattle.model.specs.Word.{none_word}
use Rattle.line_fields.specs.Fields.{after_space, all_digits, before_space, is_digit, is_number, is_space, number_of, value_from}

pub both_left : (a b : Bool) → a && b ≡ true → a ≡ true
both_left true b e = refl
both_left false b e = e

pub both_right : (a b : Bool) → a && b ≡ true → b ≡ true
both_right true b e = e
both_right false b e = absurd (false≢true e)

-- ---- a number

-- a number was found, so its test passed
picked : (b : Bool) (x v : ℕ) → cond b (Some x) None ≡ Some v → b ≡ true
picked true x v e = refl
picked false x v e = cc

pub digits_of : (s : List ℕ) (v : ℕ) → number_of s ≡ Some v → all_digits s ≡ true
unfolding number_of is_number
digits_of s v e =
    let sized = leb 1 (length s) && leb (length s) 20 in
    let fits = leb (value_from 0 s) none_word in
    both_right sized (all_digits s) (both_left (sized && all_digits s) fits (picked (sized && all_digits s && fits) (value_from 0 s) v e))

pub no_number : (v : ℕ) → number_of [] ≡ Some v → ⊥
unfolding number_of is_number
no_number v e = cc

pub number-length : (s : List ℕ) (v : ℕ) → number_of s ≡ Some v → length s ≤ 20
unfolding number_of is_number
number-length s v e =
    let sized = leb 1 (length s) && leb (length s) 20 in
    let fits = leb (value_from 0 s) none_word in
    let all = picked (sized && all_digits s && fits) (value_from 0 s) v e in
    let p = both_left sized (all_digits s) (both_left (sized && all_digits s) fits all) in
    leb-true (length s) 20 (both_right (leb 1 (length s)) (leb (length s) 20) p)

-- ---- the parts at a space

-- no digit is a space
pub no_space : (s t : List ℕ) → all_digits s ≡ true → position_or_len is_space (s ++ 32 ∷ t) ≡ length s
unfolding all_digits is_digit
no_space [] t d = refl
no_space (b ∷ s) t d =
    let h = leb-true 48 b (both_left (leb 48 b) (leb b 57) (both_left (is_digit b) (all_digits s) d)) in
    let e : eqb b 32 ≡ false = ne_eqb b 32 (λ q. omega arith) in
    rw (e, no_space s t (both_right (is_digit b) (all_digits s) d)) (omega arith)

-- the two parts of a line whose first space is the one shown
module _ (w r : List ℕ) (e : position_or_len is_space (w ++ 32 ∷ r) ≡ length w) where
  pub before_of : before_space (w ++ 32 ∷ r) ≡ w
  before_of = ap (λ (k : ℕ). take k (w ++ 32 ∷ r)) e ∙ take-append_seam w (32 ∷ r)

  pub after_of : after_space (w ++ 32 ∷ r) ≡ r
  after_of = ap (λ (k : ℕ). drop (k + 1) (w ++ 32 ∷ r)) e ∙ drop-append-add w (32 ∷ r) 1

-- a line is its parts with a space between them, or has nothing after a space
pub data Split (s : List ℕ) : Type 0 where
  spaces : s ≡ before_space s ++ 32 ∷ after_space s → Split s
  nothing : after_space s ≡ [] → Split s

pub split : (s : List ℕ) → Split s
split s = go (dec_lt (position_or_len is_space s) (length s))
  where
    go : Dec (position_or_len is_space s < length s) → Split s
    go (yes l) = spaces (split_at_first is_space s 0 l ∙ rw (eqb-true _ 32 (passes_at_first is_space s 0 l)))
    go (no l) = nothing (drop_of_length-le s (omega arith))

-- rows of bytes that the code finds the same are the same
pub same-is : (a b : List ℕ) → bytes_eq a b ≡ true → a ≡ b
same-is a b = (bytes_eq-Decides a b).0
