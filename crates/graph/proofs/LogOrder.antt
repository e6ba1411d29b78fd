-- Proves that no other list has just these vertices, each once, in this order (`in_order-all`, `in_order-one`), and how long it is
-- (`in_order-length`). Assumes nothing.
use Rattle.std.proofs.Common.{◌∙◌, sym, inl, inr, arith}
use Rattle.std.specs.Prelude.{◌≡◌, Bool, ◌<◌, ℕ, leb, length}
use Rattle.std.proofs.Math.Path.{refl}
use Rattle.std.proofs.Math.Bool.{cond, false, true}
use mathlib.Core.List.{List, Memᴰ}
use borrow.Author.Tests.{le-leb, leb-false, leb-true}
use Rattle.graph.specs.Total.{Tested, Total, ◌≼◌, no_more}
use Rattle.graph.proofs.Total.{decide, no_more_false, no_more_true, true_false, true_no_more}
use Rattle.graph.proofs.Total.{≼-antisym, ≼_refl, ≼_trans}
use Rattle.graph.specs.Lists.{Ordered, count_below}
use Rattle.graph.proofs.Lists.{counted, distinct_filter, distinct_range, filter-mem, mem-filter}
use Rattle.graph.specs.Lists.{ordered_cons, ordered_nil, range}
use Rattle.graph.proofs.Lists.{range_lt, range-mem}
use Rattle.graph.specs.Sorted.{SortedOf}
use Rattle.graph.proofs.Sorted.{sorted_all, sorted-one}
use Rattle.graph.specs.LogOrder.{smaller_or, key_of, sooner, in_order, Passing, Sooner}

module _ (x y : Total) (b : Bool) where
  true_smaller_or : x ≼ y → (x ≡ y → b ≡ true) → smaller_or x y b ≡ true
  unfolding smaller_or
  true_smaller_or le h = go (decide (no_more y x))
    where
      go : Tested (no_more y x) → cond (no_more x y) (cond (no_more y x) b true) false ≡ true
      go (inl t) = rw (true_no_more x y le, t) (h (≼-antisym x y le (no_more_true y x t)))
      go (inr f) = rw (true_no_more x y le, f)

  smaller_or_true : smaller_or x y b ≡ true → (x ≼ y) × (y ≼ x → b ≡ true)
  unfolding smaller_or
  smaller_or_true h = go (decide (no_more x y))
    where
      go : Tested (no_more x y) → (x ≼ y) × (y ≼ x → b ≡ true)
      go (inl t) = (no_more_true x y t, λ le. rw (t, true_no_more y x le) at h)
      go (inr f) = absurd (true_false refl (sym (rw f at h)))

  smaller_or_false : smaller_or x y b ≡ false → (y ≼ x) × (x ≼ y → b ≡ false)
  unfolding smaller_or
  smaller_or_false h = go (decide (no_more x y)) (decide (no_more y x))
    where
      go : Tested (no_more x y) → Tested (no_more y x) → (y ≼ x) × (x ≼ y → b ≡ false)
      go (inl t) (inl s) = (no_more_true y x s, λ le. rw (t, s) at h)
      go (inl t) (inr s) = absurd (true_false refl (rw (t, s) at h))
      go (inr t) s = (no_more_false x y t, λ le. absurd (true_false (true_no_more x y le) t))

-- equal totals are at most each other
same-at_most : {x y : Total} → x ≡ y → y ≼ x
same-at_most {x} {y} e = rw e (≼_refl y)

module _ (time est : ℕ → Total) where
  pub true_sooner : (u v : ℕ) → Sooner time est u v → sooner time est u v ≡ true
  unfolding sooner
  true_sooner u v s =
      true_smaller_or (key_of time est u) (key_of time est v) (smaller_or (time u) (time v) (leb u v)) s.keys (λ e.
      true_smaller_or (time u) (time v) (leb u v) (s.times e) (λ f. le-leb u v (s.numbers e f)))

  sooner_true : (u v : ℕ) → sooner time est u v ≡ true → Sooner time est u v
  unfolding sooner
  sooner_true u v h =
      let (keys, tied) = smaller_or_true (key_of time est u) (key_of time est v) (smaller_or (time u) (time v) (leb u v)) h in
      record {
        keys = keys;
        times = λ e. (smaller_or_true (time u) (time v) (leb u v) (tied (same-at_most e))).0;
        numbers = λ e f. leb-true u v ((smaller_or_true (time u) (time v) (leb u v) (tied (same-at_most e))).1 (same-at_most f));
      }

  sooner_false : (u v : ℕ) → sooner time est u v ≡ false → Sooner time est v u
  unfolding sooner
  sooner_false u v h =
      let (keys, tied) = smaller_or_false (key_of time est u) (key_of time est v) (smaller_or (time u) (time v) (leb u v)) h in
      record {
        keys = keys;
        times = λ e. (smaller_or_false (time u) (time v) (leb u v) (tied (same-at_most e))).0;
        numbers = λ e f. (
            let (_, number) = smaller_or_false (time u) (time v) (leb u v) (tied (same-at_most e)) in
            omega (arith, leb-false u v (number (same-at_most f))));
      }

  sooner_trans : {u v w : ℕ} → Sooner time est u v → Sooner time est v w → Sooner time est u w
  sooner_trans {u} {v} {w} p q = record {
    keys = ≼_trans (key_of time est u) (key_of time est v) (key_of time est w) p.keys q.keys;
    times = λ e. (
        let k : key_of time est u ≡ key_of time est v = keys-meet e in
        ≼_trans (time u) (time v) (time w) (p.times k) (q.times (sym k ∙ e)));
    numbers = λ e f. (
        let k : key_of time est u ≡ key_of time est v = keys-meet e in
        let t : time u ≡ time v =
        ≼-antisym (time u) (time v) (p.times k) (rw f (q.times (sym k ∙ e))) in
        omega (arith, p.numbers k t, q.numbers (sym k ∙ e) (sym t ∙ f)));
  }
    where
      keys-meet : key_of time est u ≡ key_of time est w → key_of time est u ≡ key_of time est v
      keys-meet e = ≼-antisym (key_of time est u) (key_of time est v) p.keys (rw e q.keys)

  sooner_antisym : {u v : ℕ} → Sooner time est u v → Sooner time est v u → u ≡ v
  sooner_antisym {u} {v} p q =
      let k : key_of time est u ≡ key_of time est v = ≼-antisym (key_of time est u) (key_of time est v) p.keys q.keys in
      let t : time u ≡ time v = ≼-antisym (time u) (time v) (p.times k) (q.times (sym k)) in
      omega (arith, p.numbers k t, q.numbers (sym k) (sym t))

  module _ (p : ℕ → Bool) (n : ℕ) where
    -- the list of all vertices below n that pass the test, each once, in this order
    pub in_order-all : SortedOf (λ u v. sooner time est u v ≡ true) (Passing p n) (in_order time est p n)
    unfolding in_order
    in_order-all =
        sorted_all (sooner time est) (λ u v f. true_sooner v u (sooner_false u v f))
        (λ u v w a b. true_sooner u w (sooner_trans (sooner_true u v a) (sooner_true v w b)))
        (distinct_filter p (distinct_range n))
        (λ v m. (let k = filter-mem p v (range n) m in record { below = range_lt n v k.0; passes = k.1 }))
        (λ v k. mem-filter p v (range n) (range-mem n v k.below) k.passes)

    -- there is no other
    pub in_order-one : {l : List ℕ} → SortedOf (λ u v. sooner time est u v ≡ true) (Passing p n) l → l ≡ in_order time est p n
    in_order-one s =
        sorted-one (λ u v. sooner time est u v ≡ true) (λ u v a b. sooner_antisym (sooner_true u v a) (sooner_true v u b)) s in_order-all

    -- as many as pass the test
    pub in_order-length : length (in_order time est p n) ≡ count_below p n
    in_order-length =
        let s = in_order-all in
        counted p n s.once (λ v m. (let k = s.only v m in (k.below, k.passes)))
        (λ v lv t. s.all v (record { below = lv; passes = t }))

-- Vertices below n have the same places under an estimate and a test that are the same for them.
module _ (time : ℕ → Total) {est est' : ℕ → Total} {p p' : ℕ → Bool} (n : ℕ) (ests : (v : ℕ) → v < n → est v ≡ est' v)
    (tests : (v : ℕ) → v < n → p v ≡ p' v) where
  sooner-same : (u v : ℕ) → u < n → v < n → sooner time est u v ≡ true → sooner time est' u v ≡ true
  unfolding sooner
  sooner-same u v lu lv h = rw (← (ests u lu), ← (ests v lv)) h

  ordered_same : {l : List ℕ} → ((v : ℕ) → Memᴰ v l → v < n) → Ordered (λ u v. sooner time est u v ≡ true) l
      → Ordered (λ u v. sooner time est' u v ≡ true) l
  ordered_same below ordered_nil = ordered_nil
  ordered_same below (ordered_cons {a} {l} h o) =
      ordered_cons (λ v m. sooner-same a v (below a (Memᴰ.head refl)) (below v (Memᴰ.tail m)) (h v m))
      (ordered_same (λ v m. below v (Memᴰ.tail m)) o)

  pub in_order-same : in_order time est p n ≡ in_order time est' p' n
  in_order-same =
      let s = in_order-all time est p n in
      in_order-one time est' p' n (record {
        in_order = ordered_same (λ v m. (s.only v m).below) s.in_order;
        once = s.once;
        only = λ v m. (let k = s.only v m in record { below = k.below; passes = sym (tests v k.below) ∙ k.passes });
        all = λ v k. s.all v (record { below = k.below; passes = tests v k.below ∙ k.passes });
      })
