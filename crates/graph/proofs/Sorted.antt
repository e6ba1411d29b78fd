-- Proves that there is only one such list (`sorted-one`), that sorting makes it (`sorted_all`), and that a list in the reverse order is
-- one backwards (`sorted-reverse`). Assumes nothing.
use Rattle.std.proofs.Common.{◌∙◌, ap₂, sym}
use Rattle.std.specs.Prelude.{◌≡◌, refl, ◌⊎◌, Bool, cond, false}
use Rattle.std.proofs.Math.Logic.{inl, inr}
use mathlib.Core.List.Memᴰ
use mathlib.Core.List.{List, Memᴰ}
use mathlib.Core.List.{[], ◌∷◌, reverse, reverse_aux}
use Rattle.graph.specs.Total.{Tested}
use Rattle.graph.proofs.Total.{decide}
use Rattle.graph.specs.Lists.{Distinct, Ordered, distinct_cons, distinct_nil, ordered_cons, ordered_nil}
use Rattle.graph.proofs.Lists.{mem-reverse}
use Rattle.graph.specs.Sorted.{insert, sorted, SortedOf, MayPrecede}

-- ---- there is one such list

module _ {A : Type 0} (R : A → A → Type 0) (antisym : (a b : A) → R a b → R b a → a ≡ b) where
  same_list : (l m : List A) → Ordered R l → Ordered R m → Distinct l → Distinct m
      → ((a : A) → Memᴰ a l → Memᴰ a m) → ((a : A) → Memᴰ a m → Memᴰ a l) → l ≡ m
  same_list [] [] o p d e f g = refl
  same_list [] (b ∷ m) o p d e f g = absurd (Memᴰ.not-nil (g b (Memᴰ.head refl)))
  same_list (a ∷ l) [] o p d e f g = absurd (Memᴰ.not-nil (f a (Memᴰ.head refl)))
  same_list (a ∷ l) (b ∷ m) (ordered_cons ra o) (ordered_cons rb p) (distinct_cons na d) (distinct_cons nb e) f g =
      ap₂ ◌∷◌ eq (same_list l m o p d e
      (λ x k. right x k (Memᴰ.cases_cons (f x (Memᴰ.tail k))))
      (λ x k. left x k (Memᴰ.cases_cons (g x (Memᴰ.tail k)))))
    where
      meet : (a ≡ b) ⊎ Memᴰ a m → (b ≡ a) ⊎ Memᴰ b l → a ≡ b
      meet (inl q) h = q
      meet (inr k) (inl q) = sym q
      meet (inr k) (inr h) = antisym a b (ra b h) (rb a k)

      eq : a ≡ b
      eq = meet (Memᴰ.cases_cons (f a (Memᴰ.head refl))) (Memᴰ.cases_cons (g b (Memᴰ.head refl)))

      right : (x : A) → Memᴰ x l → (x ≡ b) ⊎ Memᴰ x m → Memᴰ x m
      right x k (inl q) = absurd (na (Memᴰ.cast (eq ∙ sym q) k))
      right x k (inr h) = h

      left : (x : A) → Memᴰ x m → (x ≡ a) ⊎ Memᴰ x l → Memᴰ x l
      left x k (inl q) = absurd (nb (Memᴰ.cast (sym eq ∙ sym q) k))
      left x k (inr h) = h

  pub sorted-one : {Q : A → Type 0} {l m : List A} → SortedOf R Q l → SortedOf R Q m → l ≡ m
  sorted-one {Q} {l} {m} s t =
      same_list l m s.in_order t.in_order s.once t.once (λ a k. t.all a (s.only a k)) (λ a k. s.all a (t.only a k))

module _ {A : Type 0} (before : A → A → Bool) where
  insert-mem : {a : A} (x : A) (l : List A) → Memᴰ a (insert before x l) → (a ≡ x) ⊎ Memᴰ a l
  unfolding insert
  insert-mem x [] m = Memᴰ.cases_cons m
  insert-mem {a} x (y ∷ l) m = go (λ k. insert-mem x l k) (decide (before x y)) m
    where
      later : (a ≡ y) ⊎ ((a ≡ x) ⊎ Memᴰ a l) → (a ≡ x) ⊎ Memᴰ a (y ∷ l)
      later (inl q) = inr (Memᴰ.head q)
      later (inr (inl q)) = inl q
      later (inr (inr h)) = inr (Memᴰ.tail h)

      over : (Memᴰ a (insert before x l) → (a ≡ x) ⊎ Memᴰ a l) → (a ≡ y) ⊎ Memᴰ a (insert before x l)
          → (a ≡ y) ⊎ ((a ≡ x) ⊎ Memᴰ a l)
      over ih (inl q) = inl q
      over ih (inr k) = inr (ih k)

      go : (Memᴰ a (insert before x l) → (a ≡ x) ⊎ Memᴰ a l) → Tested (before x y)
          → Memᴰ a (cond (before x y) (x ∷ y ∷ l) (y ∷ insert before x l)) → (a ≡ x) ⊎ Memᴰ a (y ∷ l)
      go ih (inl t) k = Memᴰ.cases_cons (rw t at k)
      go ih (inr f) k = later (over ih (Memᴰ.cases_cons (rw f at k)))

  mem-insert : {a : A} (x : A) (l : List A) → (a ≡ x) ⊎ Memᴰ a l → Memᴰ a (insert before x l)
  unfolding insert
  mem-insert x [] (inl q) = Memᴰ.head q
  mem-insert x [] (inr m) = absurd (Memᴰ.not-nil m)
  mem-insert {a} x (y ∷ l) m = go (λ k. mem-insert x l k) (decide (before x y)) m
    where
      here : (a ≡ x) ⊎ Memᴰ a (y ∷ l) → Memᴰ a (x ∷ y ∷ l)
      here (inl q) = Memᴰ.head q
      here (inr h) = Memᴰ.tail h

      behind : ((a ≡ x) ⊎ Memᴰ a l → Memᴰ a (insert before x l)) → (a ≡ x) ⊎ ((a ≡ y) ⊎ Memᴰ a l)
          → Memᴰ a (y ∷ insert before x l)
      behind ih (inl q) = Memᴰ.tail (ih (inl q))
      behind ih (inr (inl q)) = Memᴰ.head q
      behind ih (inr (inr h)) = Memᴰ.tail (ih (inr h))

      parted : (a ≡ x) ⊎ Memᴰ a (y ∷ l) → (a ≡ x) ⊎ ((a ≡ y) ⊎ Memᴰ a l)
      parted (inl q) = inl q
      parted (inr h) = inr (Memᴰ.cases_cons h)

      go : ((a ≡ x) ⊎ Memᴰ a l → Memᴰ a (insert before x l)) → Tested (before x y) → (a ≡ x) ⊎ Memᴰ a (y ∷ l)
          → Memᴰ a (cond (before x y) (x ∷ y ∷ l) (y ∷ insert before x l))
      go ih (inl t) k = rw t (here k)
      go ih (inr f) k = rw f (behind ih (parted k))

  insert_distinct : (x : A) (l : List A) → (Memᴰ x l → ⊥) → Distinct l → Distinct (insert before x l)
  unfolding insert
  insert_distinct x [] new d = distinct_cons new d
  insert_distinct x (y ∷ l) new (distinct_cons n d) =
      go (insert_distinct x l (λ m. new (Memᴰ.tail m)) d) (decide (before x y))
    where
      fresh : (y ≡ x) ⊎ Memᴰ y l → ⊥
      fresh (inl q) = new (Memᴰ.head (sym q))
      fresh (inr m) = n m

      go : Distinct (insert before x l) → Tested (before x y) → Distinct (cond (before x y) (x ∷ y ∷ l) (y ∷ insert before x l))
      go ih (inl t) = rw t (distinct_cons new (distinct_cons n d))
      go ih (inr f) = rw f (distinct_cons (λ m. fresh (insert-mem x l m)) ih)

  sorted-mem : {a : A} (l : List A) → Memᴰ a (sorted before l) → Memᴰ a l
  unfolding sorted
  sorted-mem [] m = m
  sorted-mem {a} (x ∷ l) m = go (λ k. sorted-mem l k) (insert-mem x (sorted before l) m)
    where
      go : (Memᴰ a (sorted before l) → Memᴰ a l) → (a ≡ x) ⊎ Memᴰ a (sorted before l) → Memᴰ a (x ∷ l)
      go ih (inl q) = Memᴰ.head q
      go ih (inr k) = Memᴰ.tail (ih k)

  mem-sorted : {a : A} (l : List A) → Memᴰ a l → Memᴰ a (sorted before l)
  unfolding sorted
  mem-sorted [] m = m
  mem-sorted {a} (x ∷ l) m = mem-insert x (sorted before l) (go (λ k. mem-sorted l k) (Memᴰ.cases_cons m))
    where
      go : (Memᴰ a l → Memᴰ a (sorted before l)) → (a ≡ x) ⊎ Memᴰ a l → (a ≡ x) ⊎ Memᴰ a (sorted before l)
      go ih (inl q) = inl q
      go ih (inr k) = inr (ih k)

  sorted_distinct : {l : List A} → Distinct l → Distinct (sorted before l)
  unfolding sorted
  sorted_distinct distinct_nil = distinct_nil
  sorted_distinct (distinct_cons {a} {l} n d) = insert_distinct a (sorted before l) (λ m. n (sorted-mem l m)) (sorted_distinct d)

  -- The test is an order of all that can be compared.
  module _ (total : (a b : A) → before a b ≡ false → MayPrecede before b a)
      (trans : (a b c : A) → MayPrecede before a b → MayPrecede before b c → MayPrecede before a c) where
    insert_ordered : (x : A) {l : List A} → Ordered (MayPrecede before) l → Ordered (MayPrecede before) (insert before x l)
    unfolding insert
    insert_ordered x ordered_nil = ordered_cons (λ b m. absurd (Memᴰ.not-nil m)) ordered_nil
    insert_ordered x (ordered_cons {a = y} {l} f o) = go (insert_ordered x o) (decide (before x y))
      where
        first : MayPrecede before x y → (b : A) → (b ≡ y) ⊎ Memᴰ b l → MayPrecede before x b
        first t b (inl q) = rw q t
        first t b (inr m) = trans x y b t (f b m)

        behind : MayPrecede before y x → (b : A) → (b ≡ x) ⊎ Memᴰ b l → MayPrecede before y b
        behind t b (inl q) = rw q t
        behind t b (inr m) = f b m

        go : Ordered (MayPrecede before) (insert before x l) → Tested (before x y)
            → Ordered (MayPrecede before) (cond (before x y) (x ∷ y ∷ l) (y ∷ insert before x l))
        go ih (inl t) = rw t (ordered_cons (λ b m. first t b (Memᴰ.cases_cons m)) (ordered_cons f o))
        go ih (inr t) = rw t (ordered_cons (λ b m. behind (total x y t) b (insert-mem x l m)) ih)

    sorted_ordered : (l : List A) → Ordered (MayPrecede before) (sorted before l)
    unfolding sorted
    sorted_ordered [] = ordered_nil
    sorted_ordered (x ∷ l) = insert_ordered x (sorted_ordered l)

    -- Sorting a list of all that have Q, each once.
    pub sorted_all : {Q : A → Type 0} {l : List A} → Distinct l → ((a : A) → Memᴰ a l → Q a) → ((a : A) → Q a → Memᴰ a l)
        → SortedOf (MayPrecede before) Q (sorted before l)
    sorted_all {Q} {l} d only all = record {
      in_order = sorted_ordered l;
      once = sorted_distinct d;
      only = λ a m. only a (sorted-mem l m);
      all = λ a q. mem-sorted l (all a q);
    }

-- ---- a list in the reverse order

module _ {A : Type 0} where
  ordered_reverse_aux : {R : A → A → Type 0} (l r : List A) → Ordered (λ a b. R b a) l → Ordered R r
      → ((a b : A) → Memᴰ a l → Memᴰ b r → R a b) → Ordered R (reverse_aux l r)
  ordered_reverse_aux [] r h k f = k
  ordered_reverse_aux {R} (x ∷ l) r (ordered_cons g h) k f =
      ordered_reverse_aux l (x ∷ r) h (ordered_cons (λ b m. f x b (Memᴰ.head refl) m) k)
      (λ a b m n. cross a b m (Memᴰ.cases_cons n))
    where
      cross : (a b : A) → Memᴰ a l → (b ≡ x) ⊎ Memᴰ b r → R a b
      cross a b m (inl q) = rw q (g a m)
      cross a b m (inr p) = f a b (Memᴰ.tail m) p

  reverse_aux_mem : {a : A} (l r : List A) → Memᴰ a l ⊎ Memᴰ a r → Memᴰ a (reverse_aux l r)
  reverse_aux_mem [] r (inl m) = absurd (Memᴰ.not-nil m)
  reverse_aux_mem [] r (inr m) = m
  reverse_aux_mem {a} (x ∷ l) r h = reverse_aux_mem l (x ∷ r) (go h)
    where
      move : (a ≡ x) ⊎ Memᴰ a l → Memᴰ a l ⊎ Memᴰ a (x ∷ r)
      move (inl q) = inr (Memᴰ.head q)
      move (inr m) = inl m

      go : Memᴰ a (x ∷ l) ⊎ Memᴰ a r → Memᴰ a l ⊎ Memᴰ a (x ∷ r)
      go (inl m) = move (Memᴰ.cases_cons m)
      go (inr m) = inr (Memᴰ.tail m)

  distinct_reverse_aux : (l r : List A) → Distinct l → Distinct r → ((a : A) → Memᴰ a l → Memᴰ a r → ⊥)
      → Distinct (reverse_aux l r)
  distinct_reverse_aux [] r d e f = e
  distinct_reverse_aux (x ∷ l) r (distinct_cons n d) e f =
      distinct_reverse_aux l (x ∷ r) d (distinct_cons (f x (Memᴰ.head refl)) e) (λ a m k. apart a m (Memᴰ.cases_cons k))
    where
      apart : (a : A) → Memᴰ a l → (a ≡ x) ⊎ Memᴰ a r → ⊥
      apart a m (inl q) = n (Memᴰ.cast (sym q) m)
      apart a m (inr h) = f a (Memᴰ.tail m) h

  -- A list of all that have Q, each once, every member in R to those before it.
  pub sorted-reverse : {R : A → A → Type 0} {Q : A → Type 0} {l : List A} → Ordered (λ a b. R b a) l → Distinct l
      → ((a : A) → Memᴰ a l → Q a) → ((a : A) → Q a → Memᴰ a l) → SortedOf R Q (reverse l)
  sorted-reverse {R} {l = l} o d only all = record {
    in_order = ordered_reverse_aux l [] o ordered_nil (λ a b m n. absurd (Memᴰ.not-nil n));
    once = distinct_reverse_aux l [] d distinct_nil (λ a m k. Memᴰ.not-nil k);
    only = λ a m. only a (mem-reverse l m);
    all = λ a q. reverse_aux_mem l [] (inl (all a q));
  }
