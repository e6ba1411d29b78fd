-- Laws of the tests on a record's words, of answers and of the search for the start of a rank.
use Rattle.std.proofs.Common.{◌∙◌, subst, sym, inl, inr, arith}
use Rattle.std.specs.Prelude.{◌≡◌, ◌⊎◌, Bool, false, not, true, List, ◌*◌, ◌+◌, ◌-◌, ◌/◌, ◌<◌, ◌≤◌, ℕ, eqb, ltb}
use borrow.Author.Tests.{eq-eqb, eqb-false, eqb-true, le-ltb, lt-ltb, ltb-true, ne_eqb, not-true}
use Rattle.std.proofs.Math.Decide.{dec_lt, ℕ_discrete}
use Rattle.graph.proofs.Total.{and_true}
use Rattle.model.specs.Word.{none_word, unasked}
use Rattle.pairs_records.specs.Words.{Ascending, Starts, answer, below_in, leads, low_in}

-- ---- a record that leads up

pub record Leads (n r low high up : ℕ) : Type 0 where
  pub low-is : low ≡ r
  pub rises : r < high
  pub below : high < n
  pub there : up ≡ none_word → ⊥

module _ (n r low high up : ℕ) where
  pub leads-facts : leads n r low high up ≡ true → Leads n r low high up
  unfolding leads
  leads-facts e =
      let a = and_true (eqb low r) _ e in
      let b = and_true (ltb r high) _ a.1 in
      let c = and_true (ltb high n) _ b.1 in
      record {
        low-is = eqb-true low r a.0;
        rises = ltb-true r high b.0;
        below = ltb-true high n c.0;
        there = eqb-false up none_word (not-true (eqb up none_word) c.1);
      }

  -- the last way through the test: the up time decides
  pub leads-by : low ≡ r → r < high → high < n → (b : Bool) → b ≡ eqb up none_word → not b ≡ leads n r low high up
  unfolding leads
  leads-by e h k b q = rw (eq-eqb low r e, lt-ltb r high h, lt-ltb high n k, q)

-- the ways where a test fails
pub leads-other : {r low : ℕ} (n high up : ℕ) → (low ≡ r → ⊥) → false ≡ leads n r low high up
unfolding leads
leads-other {r} {low} n high up h = rw (ne_eqb low r h)

pub leads-down : {r low high : ℕ} (n up : ℕ) → low ≡ r → high ≤ r → false ≡ leads n r low high up
unfolding leads
leads-down {r} {low} {high} n up e h = rw (eq-eqb low r e, le-ltb r high h)

pub leads-out : {n r low high : ℕ} (up : ℕ) → low ≡ r → r < high → n ≤ high → false ≡ leads n r low high up
unfolding leads
leads-out {n} {r} {low} {high} up e h k = rw (eq-eqb low r e, lt-ltb r high h, le-ltb high n k)

-- ---- answers

pub answer-none : (x : ℕ) → x ≡ unasked → none_word ≡ answer x
unfolding answer
answer-none x h = rw (eq-eqb x unasked h)

pub answer-other : (x : ℕ) → (x ≡ unasked → ⊥) → x ≡ answer x
unfolding answer
answer-other x h = rw (ne_eqb x unasked h)

pub answer-asked : (x : ℕ) → answer x ≡ unasked → ⊥
answer-asked x = go (ℕ_discrete x unasked)
  where
    go : Dec (x ≡ unasked) → answer x ≡ unasked → ⊥
    go (yes h) e = let k = answer-none x h in omega arith
    go (no h) e = let k = answer-other x h in h (omega arith)

-- ---- the search for the start of a rank

pub below_one : {r : ℕ} (pairs : List ℕ) (i : ℕ) → low_in pairs i < r → 1 ≡ below_in pairs r i
unfolding below_in
below_one {r} pairs i h = rw (lt-ltb (low_in pairs i) r h)

pub below-zero : {r : ℕ} (pairs : List ℕ) (i : ℕ) → r ≤ low_in pairs i → 0 ≡ below_in pairs r i
unfolding below_in
below-zero {r} pairs i h = rw (le-ltb (low_in pairs i) r h)

-- the answer b of the test on record i
abbrev Test : List ℕ → ℕ → ℕ → ℕ → Type 0
Test pairs r i b = ((b ≡ 1) × (low_in pairs i < r)) ⊎ ((b ≡ 0) × (r ≤ low_in pairs i))

test : {b : ℕ} (pairs : List ℕ) (r i : ℕ) → b ≡ below_in pairs r i → Test pairs r i b
test {b} pairs r i e = go (dec_lt (low_in pairs i) r)
  where
    go : Dec (low_in pairs i < r) → Test pairs r i b
    go (yes h) = inl (e ∙ sym (below_one pairs i h), h)
    go (no h) = let k : r ≤ low_in pairs i = omega (arith, h) in inr (e ∙ sym (below-zero pairs i k), k)

pub below-most : {b : ℕ} (pairs : List ℕ) (r i : ℕ) → b ≡ below_in pairs r i → b ≤ 1
below-most {b} pairs r i e = go (test pairs r i e)
  where
    go : Test pairs r i b → b ≤ 1
    go (inl h) = omega (arith, h.0)
    go (inr h) = omega (arith, h.0)

-- `size` records are left from `base` on: those before are below r, those after are not
pub record Left (pairs : List ℕ) (count r base size : ℕ) : Type 0 where
  pub fits : base + size ≤ count
  pub before : Ascending pairs count → (i : ℕ) → i < base → low_in pairs i < r
  pub onward : Ascending pairs count → (i : ℕ) → base + size ≤ i → i < count → r ≤ low_in pairs i

pub left-all : {pairs : List ℕ} {count r : ℕ} → Left pairs count r 0 count
left-all {pairs} {count} {r} =
    record { fits = omega arith; before = λ s i q. absurd (omega (arith, q)); onward = λ s i q k. absurd (omega (arith, q, k)) }

module _ {pairs : List ℕ} {count r base size : ℕ} (left : Left pairs count r base size) where
  -- at most three are left
  pub left-few : size ≤ 3 → Starts pairs count r base
  left-few h = record {
    bound = omega (arith, left.fits);
    before = left.before;
    onward = λ s i q k. left.onward s i (omega (arith, h, q)) k;
  }

  -- a turn: of four quarters of q records one is left, with what remains of the division
  module _ {q one two three : ℕ} (more : 3 < size) (q-is : q ≡ size / 4) (e₁ : one ≡ below_in pairs r (base + q))
      (e₂ : two ≡ below_in pairs r (base + 2 * q)) (e₃ : three ≡ below_in pairs r (base + 3 * q)) where
    abbrev Next : ℕ → Type 0
    Next p = Left pairs count r (base + p) (size - 3 * q)

    -- p records more are below r, as far as a record at u says; none from v on
    by : (p : ℕ) → p ≤ 3 * q → (Ascending pairs count → (i : ℕ) → i < base + p → low_in pairs i < r)
        → (Ascending pairs count → (i : ℕ) → base + p + (size - 3 * q) ≤ i → i < count → r ≤ low_in pairs i) → Next p
    by p h f g = record { fits = omega (arith, h, q-is, left.fits); before = f; onward = g }

    up : (p u : ℕ) → u < base + size → base + p ≤ u → low_in pairs u < r → Ascending pairs count → (i : ℕ) → i < base + p
        → low_in pairs i < r
    up p u h l b s i k = omega (arith, b, s i u (omega (arith, k, l)) (omega (arith, h, left.fits)))

    down : (p v : ℕ) → v ≤ base + p + (size - 3 * q) → r ≤ low_in pairs v → Ascending pairs count → (i : ℕ) → base + p + (size - 3 * q) ≤ i
        → i < count → r ≤ low_in pairs i
    down p v l b s i k c = omega (arith, b, s v i (omega (arith, k, l)) c)

    pub left-turn : Next (q * (one + two + three))
    left-turn = go (test pairs r (base + q) e₁) (test pairs r (base + 2 * q) e₂) (test pairs r (base + 3 * q) e₃)
      where
        to : (m : ℕ) → one + two + three ≡ m → Next (q * m) → Next (q * (one + two + three))
        to m e = subst (λ (x : ℕ). Next (q * x)) (sym e)

        go : Test pairs r (base + q) one → Test pairs r (base + 2 * q) two → Test pairs r (base + 3 * q) three
            → Next (q * (one + two + three))
        go (inl (a, x)) (inl (b, y)) (inl (c, z)) =
            to 3 (omega (arith, a, b, c)) (by (q * 3) (omega arith) (up (q * 3) (base + 3 * q) (omega (arith, more, q-is)) (omega arith) z)
            (λ s i k l. left.onward s i (omega (arith, k, q-is)) l))
        go (inl (a, x)) (inl (b, y)) (inr (c, z)) =
            to 2 (omega (arith, a, b, c)) (by (q * 2) (omega arith) (up (q * 2) (base + 2 * q) (omega (arith, more, q-is)) (omega arith) y)
            (down (q * 2) (base + 3 * q) (omega (arith, q-is)) z))
        go (inl (a, x)) (inr (b, y)) (inl (c, z)) =
            to 2 (omega (arith, a, b, c)) (by (q * 2) (omega arith) (up (q * 2) (base + 3 * q) (omega (arith, more, q-is)) (omega arith) z)
            (down (q * 2) (base + 2 * q) (omega (arith, q-is)) y))
        go (inl (a, x)) (inr (b, y)) (inr (c, z)) =
            to 1 (omega (arith, a, b, c)) (by (q * 1) (omega arith) (up (q * 1) (base + q) (omega (arith, more, q-is)) (omega arith) x)
            (down (q * 1) (base + 2 * q) (omega (arith, q-is)) y))
        go (inr (a, x)) (inl (b, y)) (inl (c, z)) =
            to 2 (omega (arith, a, b, c)) (by (q * 2) (omega arith) (up (q * 2) (base + 3 * q) (omega (arith, more, q-is)) (omega arith) z)
            (down (q * 2) (base + q) (omega (arith, q-is)) x))
        go (inr (a, x)) (inl (b, y)) (inr (c, z)) =
            to 1 (omega (arith, a, b, c)) (by (q * 1) (omega arith) (up (q * 1) (base + 2 * q) (omega (arith, more, q-is)) (omega arith) y)
            (down (q * 1) (base + q) (omega (arith, q-is)) x))
        go (inr (a, x)) (inr (b, y)) (inl (c, z)) =
            to 1 (omega (arith, a, b, c)) (by (q * 1) (omega arith) (up (q * 1) (base + 3 * q) (omega (arith, more, q-is)) (omega arith) z)
            (down (q * 1) (base + q) (omega (arith, q-is)) x))
        go (inr (a, x)) (inr (b, y)) (inr (c, z)) =
            to 0 (omega (arith, a, b, c)) (by (q * 0) (omega arith) (λ s i k. left.before s i (omega (arith, k)))
            (down (q * 0) (base + q) (omega (arith, q-is)) x))

-- the test on what was read is the test on the record
pub leads_read : (n r l h u low high up : ℕ) (b : Bool) → b ≡ leads n r low high up → low ≡ l → high ≡ h → up ≡ u → leads n r l h u ≡ b
leads_read n r l h u low high up b q e f g = sym (rw (e, f, g) at q)
