-- The ways through the functions that put bytes and numbers: a byte that fits or is lost, the loops, and the digits of a number. Assumes
-- nothing.
use mathlib.Core.Path.{◌∙◌, ◌≡◌, ap, refl, sym}
use mathlib.Core.List.{List, [], ◌++◌, ◌∷◌, append-nil}
use Prim.Native.Nat.{◌%◌, ◌+◌, ◌/◌, ◌<◌, ◌^◌, ◌≤◌, suc, ℕ}
use lib.ListN.{get_or, length, length-append, set, take}
use lib.Seq.{take-suc}
use native.Mathlib.Nat.{le_of_suc-le-suc}
use native.Mathlib.Numerals.{add-one}
use native.Mathlib.Omega.{arith}
use Rattle.line_texts.specs.Areas.{Puts, Written, decimal, shown, spaced}
use Rattle.line_texts.specs.declared.Out.{Out}
use Rattle.line_texts.specs.Outs.{Added, added_as, added_then}
use Rattle.line_texts.specs.Decimals.{decimal_large, decimal-small}
use Rattle.line_texts.specs.Puts.{puts_none, shown-none}

-- ---- one byte

shown-step : (b : ℕ) (t : List ℕ) (x : ℕ) (o : List ℕ) → shown (b ∷ t) (x ∷ o) ≡ b ∷ shown t o
unfolding shown
shown-step b t x o = refl

shown-full : (t : List ℕ) → shown t [] ≡ []
unfolding shown
shown-full [] = refl
shown-full (b ∷ t) = refl

shown-length : (t o : List ℕ) → length (shown t o) ≡ length o
shown-length [] o = ap length (shown-none o)
shown-length (b ∷ t) [] = ap length (shown-full (b ∷ t))
shown-length (b ∷ t) (x ∷ o) = ap length (shown-step b t x o) ∙ ap suc (shown-length t o)

-- the byte fits
shown-more : (t o : List ℕ) (b : ℕ) → length t < length o → set (shown t o) (length t) b ≡ shown (t ++ (b ∷ [])) o
shown-more [] [] b h = absurd (omega arith)
shown-more [] (x ∷ o) b h = rw (shown-none (x ∷ o), shown-step b [] x o, shown-none o)
shown-more (c ∷ t) [] b h = absurd (omega arith)
shown-more (c ∷ t) (x ∷ o) b h = rw (shown-step c t x o, shown-step c (t ++ (b ∷ [])) x o, ← shown-more t o b (le_of_suc-le-suc h))

-- it does not
shown-same : (t o : List ℕ) (b : ℕ) → length o ≤ length t → shown t o ≡ shown (t ++ (b ∷ [])) o
shown-same t [] b h = shown-full t ∙ sym (shown-full (t ++ (b ∷ [])))
shown-same [] (x ∷ o) b h = absurd (omega arith)
shown-same (c ∷ t) (x ∷ o) b h = rw (shown-step c t x o, shown-step c (t ++ (b ∷ [])) x o, ← shown-same t o b (le_of_suc-le-suc h))

module _ {b : ℕ} {a : List ℕ} {at : ℕ} where
  pub byte_fits : at < length a → Puts (b ∷ []) a at (set a at b) (at + 1)
  byte_fits h = record { then = go }
    where
      go : (o t : List ℕ) → Written o t a at → Written o (t ++ (b ∷ [])) (set a at b) (at + 1)
      go o t w =
          let k : length a ≡ length o = ap length w.area ∙ shown-length t o in
          let q : at ≡ length t = omega (arith, w.count) in
          let p : set a at b ≡ set (shown t o) (length t) b = rw (q, w.area) in
          record { area = p ∙ shown-more t o b (omega (arith, w.count)); count = omega (arith, w.count, length-append t (b ∷ [])) }

  pub byte_lost : length a ≤ at → Puts (b ∷ []) a at a at
  byte_lost h = record { then = go }
    where
      go : (o t : List ℕ) → Written o t a at → Written o (t ++ (b ∷ [])) a at
      go o t w =
          let k : length a ≡ length o = ap length w.area ∙ shown-length t o in
          record { area = w.area ∙ shown-same t o b (omega (arith, w.count)); count = omega (arith, w.count, length-append t (b ∷ [])) }

-- ---- the loops: the text of a list is put element by element

-- the text of the first i elements of s is put
pub record PutFirst (text : List ℕ → List ℕ) (s : List ℕ) (i : ℕ) (o z : Out) : Type 0 where
  pub inside : i ≤ length s
  pub added : Added (text (take i s)) o z

module _ {text : List ℕ → List ℕ} {s : List ℕ} {o : Out} where
  pub put-none : text [] ≡ [] → PutFirst text s 0 o o
  put-none e = record {
    inside = omega arith;
    added = added_as (sym e) (record { puts = puts_none o.area.now o.at; same_reference = refl; same_room = refl });
  }

  -- the text of a list is the texts of its elements, one after the other
  pub put-more : {i : ℕ} {m z : Out} → ((l r : List ℕ) → text (l ++ r) ≡ text l ++ text r) → i < length s
      → PutFirst text s i o m → Added (text (get_or s i 0 ∷ [])) m z → PutFirst text s (i + 1) o z
  put-more {i} joins h p q =
      let more = ap (λ (j : ℕ). text (take j s)) (add-one i) ∙ ap text (take-suc s i 0 h) ∙ joins (take i s) (get_or s i 0 ∷ []) in
      record { inside = omega arith; added = added_as (sym more) (added_then p.added q) }

-- ---- digits

module _ {n : ℕ} {o z : Out} where
  pub digit-put : n < 10 → Added ((48 + n % 10) ∷ []) o z → Added (decimal n) o z
  digit-put h p = added_as (ap (λ (x : ℕ). x ∷ []) (omega arith) ∙ sym (decimal-small n h)) p

  pub digits-put : {m : Out} → 10 ≤ n → n < 2 ^ 64 → Added (decimal (n / 10)) o m → Added ((48 + n % 10) ∷ []) m z → Added (decimal n) o z
  digits-put h b p q = added_as (sym (decimal_large n h (omega arith))) (added_then p q)

-- ---- a space and a number

pub spaced-put : (n : ℕ) {o m z : Out} → Added (32 ∷ []) o m → Added (decimal n) m z → Added (spaced (n ∷ [])) o z
unfolding spaced
spaced-put n p q = added_as (ap (λ (x : List ℕ). 32 ∷ x) (sym (append-nil (decimal n)))) (added_then p q)
