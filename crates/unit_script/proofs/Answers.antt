-- The words of an answer, and where they are put. Assumes nothing.
use mathlib.Core.Path.{◌∙◌, ◌≡◌, ap, ap₂, refl, subst, sym}
use mathlib.Core.List.{List, [], ◌++◌, ◌∷◌, append_assoc, append-nil}
use Prim.Native.Nat.{◌*◌, ◌+◌, ◌-◌, ◌<◌, ◌≤◌, suc, zero, ℕ}
use lib.ListN.{get_or-eq_default, drop, get_or, get_or-replicate, length, length-append, length-replicate, replicate, set, take}
use lib.ListN.{length-drop, take-append-drop}
use lib.Seq.{drop-append-add, drop-drop, length-take-le, sets-eq, take_at}
use native.Mathlib.Decide.{dec_lt}
use native.Mathlib.Numerals.{add-one}
use native.Mathlib.Omega.{arith}
use Rattle.std.proofs.lemmas.Slice.{drop-put_mid, take-put_mid}
use borrow.Rule.Slice.PartMut.{put_mid}
use Rattle.model.specs.Limits.{most_legs}
use Rattle.std.specs.Prelude.{Ok, Result}
use Rattle.network.specs.declared.Refusal.{Refusal}
use Rattle.call_stops.specs.Legs.{Rest}
use Rattle.call_stops.specs.Shape.{legs_from, stopping_in}
use Rattle.call_stops.specs.declared.Journey.{Journey}
use Rattle.unit_script.specs.declared.Made.{Made}
use Rattle.unit_script.specs.Words.{answer_size, answer_words, four_of, leg_words, legs_words, made_words}
use Rattle.unit_script.specs.Words.{put_at}

-- ---- the words of legs

pub legs_words-length : (totals roads : List ℕ) (i k : ℕ) → length (legs_words totals roads i k) ≡ 2 * k
unfolding legs_words
legs_words-length totals roads i zero = refl
legs_words-length totals roads i (suc k) = let h = legs_words-length totals roads (suc i) k in omega (arith, h)

-- one leg more
legs_words_snoc : (totals roads : List ℕ) (i k : ℕ)
    → legs_words totals roads i (suc k) ≡ legs_words totals roads i k ++ (get_or totals (i + k) 0 ∷ get_or roads (i + k) 0 ∷ [])
unfolding legs_words
legs_words_snoc totals roads i zero = let e : i + 0 ≡ i = omega arith in rw e
legs_words_snoc totals roads i (suc k) =
    let e : suc i + k ≡ i + suc k = omega arith in
    ap (λ (w : List ℕ). get_or totals i 0 ∷ get_or roads i 0 ∷ w) (rw e at (legs_words_snoc totals roads (suc i) k))

-- legs that there are not
module _ (totals roads : List ℕ) where
  zero-words : (i k : ℕ) → ((j : ℕ) → i ≤ j → get_or totals j 0 ≡ 0) → ((j : ℕ) → i ≤ j → get_or roads j 0 ≡ 0)
      → legs_words totals roads i k ≡ replicate (2 * k) 0
  unfolding legs_words
  zero-words i zero f g = refl
  zero-words i (suc k) f g =
      let e : 2 * suc k ≡ suc (suc (2 * k)) = omega arith in
      let h = zero-words (suc i) k (λ j q. f j (omega (arith, q))) (λ j q. g j (omega (arith, q))) in
      rw (e, f i (omega arith), g i (omega arith), h)

  -- k legs from leg i on, and r that there are not
  rest-words : (i k r : ℕ) → ((j : ℕ) → i + k ≤ j → get_or totals j 0 ≡ 0) → ((j : ℕ) → i + k ≤ j → get_or roads j 0 ≡ 0)
      → legs_words totals roads i (k + r) ≡ leg_words (legs_from totals roads i k) ++ replicate (2 * r) 0
  unfolding legs_words
  rest-words i zero r f g =
      let e : 0 + r ≡ r = omega arith in
      ap (legs_words totals roads i) e ∙ zero-words i r (λ j q. f j (omega (arith, q))) (λ j q. g j (omega (arith, q)))
  rest-words i (suc k) r f g =
      let e : suc k + r ≡ suc (k + r) = omega arith in
      ap (legs_words totals roads i) e
      ∙ ap (λ (w : List ℕ). get_or totals i 0 ∷ get_or roads i 0 ∷ w)
      (rest-words (suc i) k r (λ j q. f j (omega (arith, q))) (λ j q. g j (omega (arith, q))))

legs-count : (totals roads : List ℕ) (i k : ℕ) → length (legs_from totals roads i k) ≡ k
legs-count totals roads i zero = refl
legs-count totals roads i (suc k) = ap suc (legs-count totals roads (suc i) k)

-- a row of zeros
zeros : (n j : ℕ) → ◌≡◌ {A = ℕ} (get_or (replicate n 0) j 0) 0
zeros n j = go (dec_lt j n)
  where
    go : Dec (j < n) → ◌≡◌ {A = ℕ} (get_or (replicate n 0) j 0) 0
    go (yes h) = get_or-replicate n j 0 0 h
    go (no h) = get_or-eq_default (replicate n 0) 0 {n = j} (omega (arith, h, length-replicate {A = ℕ} n 0))

-- ---- the words that are handed on

pub made-length : (m : Made) → length (made_words m) ≡ answer_size
made-length m = omega (arith, legs_words-length m.legs.totals m.legs.roads 0 most_legs)

-- a row of four is its four words
pub row-of-four : (w : List ℕ) → length w ≡ 4 → w ≡ four_of w
row-of-four (a ∷ b ∷ c ∷ d ∷ []) e = refl
row-of-four [] e = let z : ⊥ = omega (arith, e) in absurd z
row-of-four (a ∷ []) e = let z : ⊥ = omega (arith, e) in absurd z
row-of-four (a ∷ b ∷ []) e = let z : ⊥ = omega (arith, e) in absurd z
row-of-four (a ∷ b ∷ c ∷ []) e = let z : ⊥ = omega (arith, e) in absurd z
row-of-four (a ∷ b ∷ c ∷ d ∷ x ∷ w) e = let z : ⊥ = omega (arith, e) in absurd z

-- no legs
pub no-legs : (n k : ℕ) → legs_words (replicate n 0) (replicate n 0) 0 k ≡ replicate (2 * k) 0
no-legs n k = zero-words (replicate n 0) (replicate n 0) 0 k (λ j q. zeros n j) (λ j q. zeros n j)

-- those of k legs, and of those that there are not
with_legs : (totals roads : List ℕ) (k whole most : ℕ) → k ≤ most
    → ((j : ℕ) → k ≤ j → get_or totals j 0 ≡ 0) → ((j : ℕ) → k ≤ j → get_or roads j 0 ≡ 0)
    → 0 ∷ whole ∷ 0 ∷ k ∷ legs_words totals roads 0 most
    ≡ (0 ∷ whole ∷ 0 ∷ length (legs_from totals roads 0 k) ∷ []) ++ leg_words (legs_from totals roads 0 k)
    ++ replicate (2 * most - 2 * length (legs_from totals roads 0 k)) 0
with_legs totals roads k whole most few f g =
    let n : length (legs_from totals roads 0 k) ≡ k = legs-count totals roads 0 k in
    let all : most ≡ k + (most - k) = omega (arith, few) in
    let left : 2 * (most - k) ≡ 2 * most - 2 * length (legs_from totals roads 0 k) = omega (arith, few, n) in
    ap₂ (λ (i : ℕ) (w : List ℕ). 0 ∷ whole ∷ 0 ∷ i ∷ w) (sym n)
    (ap (legs_words totals roads 0) all
    ∙ rest-words totals roads 0 k (most - k) (λ j q. f j (omega (arith, q))) (λ j q. g j (omega (arith, q)))
    ∙ ap (λ (i : ℕ). leg_words (legs_from totals roads 0 k) ++ replicate i 0) left)

-- those of a list of stops
pub stopped-words : (x : Result Journey Refusal) {j : Journey} → Rest x → x ≡ Ok j
    → 0 ∷ j.whole ∷ 0 ∷ j.number ∷ legs_words j.legs.totals j.legs.roads 0 most_legs ≡ answer_words (stopping_in x)
stopped-words x {j} rest e =
    let r : Rest (Ok j) = subst Rest e rest in
    with_legs j.legs.totals j.legs.roads j.number j.whole most_legs r.few-legs r.totals_end r.roads-end
    ∙ ap (λ (y : Result Journey Refusal). answer_words (stopping_in y)) (sym e)

-- ---- words put into an area

put-none : (s : List ℕ) (i : ℕ) → s ≡ put_at s i []
put-none s i =
    let e : i ≡ i + 0 = omega arith in
    sym (take-append-drop i s) ∙ ap₂ (λ (u : List ℕ) (j : ℕ). u ++ drop j s) (sym (append-nil (take i s))) e

-- words behind those that were put
pub put-behind : (s w v : List ℕ) (i : ℕ) → i + length w ≤ length s → put_at (put_at s i w) (i + length w) v ≡ put_at s i (w ++ v)
put-behind s w v i h =
    let front : List ℕ = take i s ++ w in
    let rest : List ℕ = drop (i + length w) s in
    let n : length front ≡ i + length w =
    length-append (take i s) w ∙ ap (λ (j : ℕ). j + length w) (length-take-le i s (omega (arith, h))) in
    let a : take (i + length w) (front ++ rest) ≡ front = take_at front rest (i + length w) n in
    let d : drop (i + length w + length v) (front ++ rest) ≡ drop (i + length w + length v) s =
    ap (λ (j : ℕ). drop (j + length v) (front ++ rest)) (sym n)
    ∙ drop-append-add front rest (length v)
    ∙ drop-drop (length v) (i + length w) s in
    let m : i + length w + length v ≡ i + length (w ++ v) = omega (arith, length-append w v) in
    ap₂ (λ (x : List ℕ) (y : List ℕ). x ++ v ++ y) a (d ∙ ap (λ (j : ℕ). drop j s) m)
    ∙ ap (λ (x : List ℕ). x ++ drop (i + length (w ++ v)) s) (append_assoc (take i s) w v)

-- a row of four copied to the four entries from i on
module _ (out : List ℕ) (i : ℕ) {row words : List ℕ} (long : length row ≡ length (take (i + 4 - i) (drop i out))) (same : row ≡ words)
    (room : i + 4 ≤ length out) where
  pub row-length : length words ≡ 4
  row-length =
      let four : i + 4 - i ≡ 4 = omega arith in
      sym (ap length same) ∙ long ∙ ap (λ (n : ℕ). length (take n (drop i out))) four
      ∙ length-take-le 4 (drop i out) (omega (arith, room, length-drop i out))

  pub row-put : put_mid i (i + 4 - i) out row ≡ put_at out i words
  row-put =
      let n : length row ≡ i + 4 - i = omega (arith, same-length, row-length) in
      let end : i + (i + 4 - i) ≤ i + length row = omega (arith, n) in
      sym (take-append-drop (i + length row) (put_mid i (i + 4 - i) out row))
      ∙ ap₂ ◌++◌ (take-put_mid i (i + 4 - i) out row (i + length row) refl (omega (arith, room)))
      (drop-put_mid i (i + 4 - i) out row (i + length row) end (omega (arith, room)) n)
      ∙ ap (λ (x : List ℕ). take i out ++ x ++ drop (i + length x) out) same
    where
      same-length : length row ≡ length words
      same-length = ap length same

-- the four words of an answer, and its legs' behind them
pub made-put : (out : List ℕ) (k : ℕ) (m : Made) {mid after : List ℕ} → length m.words ≡ 4 → answer_size * k + answer_size ≤ length out
    → mid ≡ put_at out (answer_size * k) m.words
    → after ≡ put_at mid (answer_size * k + 4) (legs_words m.legs.totals m.legs.roads 0 most_legs)
    → after ≡ put_at out (answer_size * k) (made_words m)
made-put out k m four room e f =
    let legs : List ℕ = legs_words m.legs.totals m.legs.roads 0 most_legs in
    f
    ∙ ap (λ (x : List ℕ). put_at x (answer_size * k + 4) legs) (e ∙ ap (put_at out (answer_size * k)) (row-of-four m.words four))
    ∙ put-behind out (four_of m.words) legs (answer_size * k) (omega (arith, room))

-- no leg
pub legs-start : (s totals roads : List ℕ) (start : ℕ) → s ≡ put_at s start (legs_words totals roads 0 0)
unfolding legs_words
legs-start s totals roads start = put-none s start

-- a leg's two words behind those of the legs before it
module _ (s totals roads : List ℕ) (start i : ℕ) {out : List ℕ} (sofar : out ≡ put_at s start (legs_words totals roads 0 i)) where
  pub leg-stored : start + 2 * i + 2 ≤ length s → length out ≡ length s
      → set (set out (start + 2 * i) (get_or totals i 0)) (start + 2 * i + 1) (get_or roads i 0)
      ≡ put_at s start (legs_words totals roads 0 (i + 1))
  leg-stored room same =
      let n : start + length (legs_words totals roads 0 i) ≡ start + 2 * i = ap (◌+◌ start) (legs_words-length totals roads 0 i) in
      let e : start + 2 * i + 1 ≡ suc (start + 2 * i) = omega arith in
      let z : 0 + i ≡ i = omega arith in
      let more : legs_words totals roads 0 i ++ (get_or totals i 0 ∷ get_or roads i 0 ∷ []) ≡ legs_words totals roads 0 (suc i) =
      sym (rw z at (legs_words_snoc totals roads 0 i)) in
      ap (λ (j : ℕ). set (set out (start + 2 * i) (get_or totals i 0)) j (get_or roads i 0)) e
      ∙ sets-eq (get_or totals i 0 ∷ get_or roads i 0 ∷ []) out (start + 2 * i) (omega (arith, room, same))
      ∙ ap₂ (λ (x : List ℕ) (j : ℕ). put_at x j (get_or totals i 0 ∷ get_or roads i 0 ∷ [])) sofar (sym n)
      ∙ put-behind s (legs_words totals roads 0 i) (get_or totals i 0 ∷ get_or roads i 0 ∷ []) start (omega (arith, room, n))
      ∙ ap (put_at s start) (more ∙ ap (legs_words totals roads 0) (sym (add-one i)))
