-- Proves that a list without repetition is no longer than one that contains it (`distinct_length`, `counted`, `pigeonhole`). Assumes
-- nothing.
use Rattle.std.proofs.Common.{◌∙◌, inl, inr, eqb-true, zero-lt-suc}
use Rattle.std.specs.Prelude.{◌≡◌, ◌⊎◌, Bool, false, eqb, length}
use Rattle.std.proofs.Math.Path.{ap, refl, sym}
use Rattle.std.proofs.Math.Bool.{true}
use mathlib.Core.List.Memᴰ
use mathlib.Core.List.{List, Memᴰ}
use mathlib.Core.List.{[], ◌∷◌, map, reverse, reverse_aux}
use Prim.Native.Nat.{◌<◌, ◌≤◌, suc, zero, zero-le, ℕ}
use Rattle.std.proofs.lemmas.Bool.{eqb-false}
use native.Mathlib.Omega.{arith}
use Rattle.graph.specs.Total.{Tested}
use Rattle.graph.proofs.Total.{decide, true_false}
use Rattle.graph.specs.Lists.{Distinct, distinct_nil, distinct_cons, range, filter, count_below, Injective}

module _ {A : Type 0} where
  -- The list without one place.
  pub remove : {a : A} {l : List A} → Memᴰ a l → List A
  remove (Memᴰ.head {xs} e) = xs
  remove (Memᴰ.tail {x} m) = x ∷ remove m

  pub length-remove : {a : A} {l : List A} (m : Memᴰ a l) → length l ≡ suc (length (remove m))
  unfolding remove
  length-remove (Memᴰ.head e) = refl
  length-remove (Memᴰ.tail m) = ap suc (length-remove m)

  pub mem-remove : {a b : A} {l : List A} (m : Memᴰ a l) → (b ≡ a → ⊥) → Memᴰ b l → Memᴰ b (remove m)
  unfolding remove
  mem-remove {a} {b} (Memᴰ.head {x} {xs} e) n k = go (Memᴰ.cases_cons k)
    where
      go : (b ≡ x) ⊎ Memᴰ b xs → Memᴰ b xs
      go (inl q) = absurd (n (q ∙ sym e))
      go (inr h) = h
  mem-remove {a} {b} (Memᴰ.tail {x} {xs} m) n k = go (λ h. mem-remove m n h) (Memᴰ.cases_cons k)
    where
      go : (Memᴰ b xs → Memᴰ b (remove m)) → (b ≡ x) ⊎ Memᴰ b xs → Memᴰ b (x ∷ remove m)
      go ih (inl q) = Memᴰ.head q
      go ih (inr h) = Memᴰ.tail (ih h)

  pub distinct_length : {xs : List A} → Distinct xs → (ys : List A) → ((x : A) → Memᴰ x xs → Memᴰ x ys) → length xs ≤ length ys
  distinct_length distinct_nil ys sub = omega arith
  distinct_length (distinct_cons {a} {l} n d) ys sub =
      let m = sub a (Memᴰ.head refl) in
      let k = distinct_length d (remove m) (λ x h. mem-remove m (λ q. n (Memᴰ.cast (sym q) h)) (sub x (Memᴰ.tail h))) in
      omega (arith, k, length-remove m)

  pub mem-map : {B : Type 0} (f : A → B) {a : A} {l : List A} → Memᴰ a l → Memᴰ (f a) (map f l)
  mem-map f (Memᴰ.head e) = Memᴰ.head (ap f e)
  mem-map f (Memᴰ.tail m) = Memᴰ.tail (mem-map f m)

  pub map-mem : {B : Type 0} (f : A → B) {b : B} (l : List A) → Memᴰ b (map f l) → (a : A) × Memᴰ a l × (b ≡ f a)
  map-mem f [] m = absurd (Memᴰ.not-nil m)
  map-mem f {b} (x ∷ l) m = go (λ h. map-mem f l h) (Memᴰ.cases_cons m)
    where
      go : (Memᴰ b (map f l) → (a : A) × Memᴰ a l × (b ≡ f a)) → (b ≡ f x) ⊎ Memᴰ b (map f l)
          → (a : A) × Memᴰ a (x ∷ l) × (b ≡ f a)
      go ih (inl q) = (x, Memᴰ.head refl, q)
      go ih (inr h) = let r = ih h in (r.0, Memᴰ.tail r.1, r.2)

  mem_reverse_aux : {a : A} (l r : List A) → Memᴰ a (reverse_aux l r) → Memᴰ a l ⊎ Memᴰ a r
  mem_reverse_aux [] r m = inr m
  mem_reverse_aux {a} (x ∷ l) r m = go (mem_reverse_aux l (x ∷ r) m)
    where
      go : Memᴰ a l ⊎ Memᴰ a (x ∷ r) → Memᴰ a (x ∷ l) ⊎ Memᴰ a r
      go (inl h) = inl (Memᴰ.tail h)
      go (inr h) = last (Memᴰ.cases_cons h)
        where
          last : (a ≡ x) ⊎ Memᴰ a r → Memᴰ a (x ∷ l) ⊎ Memᴰ a r
          last (inl q) = inl (Memᴰ.head q)
          last (inr k) = inr k

  pub mem-reverse : {a : A} (l : List A) → Memᴰ a (reverse l) → Memᴰ a l
  mem-reverse {a} l m = go (mem_reverse_aux l [] m)
    where
      go : Memᴰ a l ⊎ Memᴰ a [] → Memᴰ a l
      go (inl h) = h
      go (inr h) = absurd (Memᴰ.not-nil h)

pub range_lt : (n v : ℕ) → Memᴰ v (range n) → v < n
unfolding range
range_lt zero v m = absurd (Memᴰ.not-nil m)
range_lt (suc n) v m = go (range_lt n v) (Memᴰ.cases_cons m)
  where
    go : (Memᴰ v (range n) → v < n) → (v ≡ n) ⊎ Memᴰ v (range n) → v < suc n
    go ih (inl q) = omega arith
    go ih (inr h) = omega (arith, ih h)

pub range-mem : (n v : ℕ) → v < n → Memᴰ v (range n)
unfolding range
range-mem zero v l = absurd (omega arith)
range-mem (suc n) v l = go (range-mem n v) (decide (eqb v n))
  where
    go : (v < n → Memᴰ v (range n)) → Tested (eqb v n) → Memᴰ v (n ∷ range n)
    go ih (inl e) = Memᴰ.head (eqb-true v n e)
    go ih (inr e) = let ne = eqb-false v n e in Memᴰ.tail (ih (omega arith))

pub distinct_range : (n : ℕ) → Distinct (range n)
unfolding range
distinct_range zero = distinct_nil
distinct_range (suc n) = distinct_cons (λ (m : Memᴰ n (range n)). omega (arith, range_lt n n m)) (distinct_range n)

pub range_length : (n : ℕ) → length (range n) ≡ n
unfolding range
range_length zero = refl
range_length (suc n) = ap suc (range_length n)

module _ (p : ℕ → Bool) where
  filter_true : (x : ℕ) (l : List ℕ) → p x ≡ true → filter p (x ∷ l) ≡ x ∷ filter p l
  unfolding filter
  filter_true x l e = rw e

  filter_false : (x : ℕ) (l : List ℕ) → p x ≡ false → filter p (x ∷ l) ≡ filter p l
  unfolding filter
  filter_false x l e = rw e

  pub filter-mem : (v : ℕ) (l : List ℕ) → Memᴰ v (filter p l) → Memᴰ v l × (p v ≡ true)
  unfolding filter
  filter-mem v [] m = absurd (Memᴰ.not-nil m)
  filter-mem v (x ∷ l) m = go (filter-mem v l) (decide (p x))
    where
      rest : (Memᴰ v (filter p l) → Memᴰ v l × (p v ≡ true)) → p x ≡ true → (v ≡ x) ⊎ Memᴰ v (filter p l)
          → Memᴰ v (x ∷ l) × (p v ≡ true)
      rest ih e (inl q) = (Memᴰ.head q, ap p q ∙ e)
      rest ih e (inr h) = (Memᴰ.tail (ih h).0, (ih h).1)

      go : (Memᴰ v (filter p l) → Memᴰ v l × (p v ≡ true)) → Tested (p x) → Memᴰ v (x ∷ l) × (p v ≡ true)
      go ih (inl e) = rest ih e (Memᴰ.cases_cons (rw (filter_true x l e) at m))
      go ih (inr e) = let r = ih (rw (filter_false x l e) at m) in (Memᴰ.tail r.0, r.1)

  pub mem-filter : (v : ℕ) (l : List ℕ) → Memᴰ v l → p v ≡ true → Memᴰ v (filter p l)
  mem-filter v [] m e = absurd (Memᴰ.not-nil m)
  mem-filter v (x ∷ l) m e = go (λ h. mem-filter v l h e) (decide (p x)) (Memᴰ.cases_cons m)
    where
      go : (Memᴰ v l → Memᴰ v (filter p l)) → Tested (p x) → (v ≡ x) ⊎ Memᴰ v l → Memᴰ v (filter p (x ∷ l))
      go ih (inl t) (inl q) = rw (filter_true x l t) (Memᴰ.head q)
      go ih (inl t) (inr h) = rw (filter_true x l t) (Memᴰ.tail (ih h))
      go ih (inr f) (inl q) = absurd (true_false e (ap p q ∙ f))
      go ih (inr f) (inr h) = rw (filter_false x l f) (ih h)

  pub distinct_filter : {l : List ℕ} → Distinct l → Distinct (filter p l)
  unfolding filter
  distinct_filter distinct_nil = distinct_nil
  distinct_filter (distinct_cons {a} {l} n d) = go (distinct_filter d) (decide (p a))
    where
      go : Distinct (filter p l) → Tested (p a) → Distinct (filter p (a ∷ l))
      go ih (inl t) = rw (filter_true a l t) (distinct_cons (λ m. n (filter-mem a l m).0) ih)
      go ih (inr f) = rw (filter_false a l f) ih

-- Numbers below n that pass the test, without repetition, are at most so many; and exactly so many, if they are all.
module _ (p : ℕ → Bool) (n : ℕ) {l : List ℕ} (once : Distinct l) (passing : (v : ℕ) → Memᴰ v l → (v < n) × (p v ≡ true)) where
  pub counted-le : length l ≤ count_below p n
  unfolding count_below
  counted-le =
      distinct_length once (filter p (range n)) (λ v m. (let k = passing v m in mem-filter p v (range n) (range-mem n v k.0) k.1))

  pub counted : ((v : ℕ) → v < n → p v ≡ true → Memᴰ v l) → length l ≡ count_below p n
  unfolding count_below
  counted all =
      omega (
        arith,
        counted-le,
        distinct_length (distinct_filter p (distinct_range n)) l (λ v m. (let k = filter-mem p v (range n) m in
            all v (range_lt n v k.0) k.1)),
      )

pub mem_pos : {A : Type 0} {x : A} {l : List A} → Memᴰ x l → 0 < length l
mem_pos (Memᴰ.head {xs} e) = zero-lt-suc (length xs)
mem_pos (Memᴰ.tail {xs} m) = zero-lt-suc (length xs)

pub pigeonhole : (n : ℕ) (f : ℕ → ℕ) (l : List ℕ) → Injective n f → ((i : ℕ) → i < n → Memᴰ (f i) l) → n ≤ length l
pigeonhole zero f l inj mem = zero-le
pigeonhole (suc n) f l inj mem =
    let last = mem n (omega arith) in
    let rest = pigeonhole n f (remove last) (λ i j hi hj. inj i j (omega arith) (omega arith)) (λ i hi.
    mem-remove last (λ e. omega (arith, inj i n (omega arith) (omega arith) e)) (mem i (omega arith))) in
    omega (arith, length-remove last)
