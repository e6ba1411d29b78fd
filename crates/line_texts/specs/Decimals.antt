-- Decimal digits: the recursion that `Out::number` takes, and lengths. Assumes nothing.
use Rattle.std.proofs.Common.{◌∙◌, ap, sym, le-ltb, lt-ltb, length-append, pow-suc, arith}
use Rattle.std.specs.Prelude.{◌≡◌, List, [], ◌++◌, ◌∷◌, ◌%◌, ◌+◌, ◌/◌, ◌<◌, ◌^◌, ◌≤◌, suc, zero, ℕ, length}
use Rattle.std.proofs.Math.Decide.{dec_lt}
use Rattle.line_texts.specs.Areas.{decimal, digits_in}

-- ---- one digit, or those of the tenth and one more

pub digits-small : (f n : ℕ) → n < 10 → digits_in (suc f) n ≡ (48 + n) ∷ []
unfolding digits_in
digits-small f n h = rw (lt-ltb n 10 h)

pub digits_large : (f n : ℕ) → 10 ≤ n → digits_in (suc f) n ≡ digits_in f (n / 10) ++ ((48 + n % 10) ∷ [])
unfolding digits_in
digits_large f n h = rw (le-ltb n 10 h)

-- room for more digits than there are changes nothing
digits_enough : (f n : ℕ) → n < 10 ^ suc f → digits_in (suc (suc f)) n ≡ digits_in (suc f) n
digits_enough zero n h = digits-small 1 n (omega arith) ∙ sym (digits-small 0 n (omega arith))
digits_enough (suc f) n h = go (dec_lt n 10) (λ k. digits_enough f (n / 10) k)
  where
    go : Dec (n < 10) → (n / 10 < 10 ^ suc f → digits_in (suc (suc f)) (n / 10) ≡ digits_in (suc f) (n / 10))
        → digits_in (suc (suc (suc f))) n ≡ digits_in (suc (suc f)) n
    go (yes l) r = digits-small (suc (suc f)) n l ∙ sym (digits-small (suc f) n l)
    go (no l) r =
        digits_large (suc (suc f)) n (omega arith)
        ∙ ap (λ (x : List ℕ). x ++ ((48 + n % 10) ∷ [])) (r (omega (arith, pow-suc 10 (suc f))))
        ∙ sym (digits_large (suc f) n (omega arith))

pub decimal-small : (n : ℕ) → n < 10 → decimal n ≡ (48 + n) ∷ []
unfolding decimal
decimal-small n h = digits-small 19 n h

pub decimal_large : (n : ℕ) → 10 ≤ n → n < 10 ^ 20 → decimal n ≡ decimal (n / 10) ++ ((48 + n % 10) ∷ [])
unfolding decimal
decimal_large n h b = digits_large 19 n h ∙ ap (λ (x : List ℕ). x ++ ((48 + n % 10) ∷ [])) (sym (digits_enough 18 (n / 10) (omega arith)))

-- ---- lengths: a number below 10 ^ k has at most k digits

pub digits-few : (f k n : ℕ) → n < 10 ^ suc k → length (digits_in f n) ≤ suc k
unfolding digits_in
digits-few zero k n h = omega arith
digits-few (suc f) k n h = go k h (dec_lt n 10) (λ j l. digits-few f j (n / 10) l)
  where
    go : (k : ℕ) → n < 10 ^ suc k → Dec (n < 10) → ((j : ℕ) → n / 10 < 10 ^ suc j → length (digits_in f (n / 10)) ≤ suc j)
        → length (digits_in (suc f) n) ≤ suc k
    go k h (yes l) r = rw (digits-small f n l) (omega arith)
    go zero h (no l) r = absurd (omega arith)
    go (suc k) h (no l) r =
        let few = r k (omega (arith, pow-suc 10 (suc k))) in
        rw (digits_large f n (omega arith), length-append (digits_in f (n / 10)) ((48 + n % 10) ∷ [])) (omega (arith, few))
