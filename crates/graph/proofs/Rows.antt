-- The kept pairs in their order: the pairs of one lower rank stand together, and
-- each pair with a time stands among them. Bounds of a map's times. Assumes nothing.
use Rattle.std.proofs.Common.{◌∙◌, ap, ap₂, subst, sym, inl, inr, eq-eqb, ne_eqb, not-suc-le-zero, arith}
use Rattle.std.specs.Prelude.{◌≡◌, refl, ◌⊎◌, Bool, cond, false, true, [], ◌++◌, ◌∷◌, ◌*◌, ◌-◌, ◌<◌, ◌≤◌, suc, zero, ℕ, eqb}
use Rattle.std.proofs.Math.Option.{none, some}
use mathlib.Core.List.Memᴰ
use mathlib.Core.List.{List, Memᴰ}
use Rattle.std.proofs.Math.Decide.{ℕ_discrete}
use Rattle.graph.specs.Total.{Total, ◌⊕◌}
use Rattle.graph.proofs.Total.{cond_no, cond_same, cond_yes, true_false}
use Rattle.graph.specs.Least.{min_below}
use Rattle.graph.proofs.Least.{min_below_cong, min_below-none, min_below-only}
use Rattle.graph.specs.Lists.{Ordered, ordered_cons, ordered_nil}
use Rattle.graph.specs.Path.{EndsBelow, Weights}
use Rattle.graph.specs.Network.{Arc, arc_of}
use Rattle.graph.proofs.Network.{direct-least, ends-below}
use Rattle.graph.specs.Pairs.{down, up}
use Rattle.graph.specs.Records.{Pair, exists, keep, min_over, pair_of, row, rows}
use Rattle.graph.proofs.Records.{min_over-rows, rows_member}
use Rattle.graph.specs.Estimate.{down_total, estimate}
use Rattle.graph.specs.Bound.{CostsAtMost}
use Rattle.graph.proofs.Bound.{down-bound, down_total-bound, estimate-bound, up-bound}
use Rattle.graph.specs.Ranks.{renamed}
use Rattle.graph.proofs.Ranks.{rank_below, rank_of-vertex, ranks_rename, renamed-inside}
use Rattle.graph.specs.Map.{Map, Valid, down_of, pairs_of, rank, up_of, weights}
use Rattle.graph.specs.Rows.{Before, Ascend, Timed, KeptPair, KeptPairs}

-- the up times of a among all pairs, with a total for each higher rank
pub ups-rows : (w : Weights) (f : ℕ → Total) (n k a : ℕ) → a < k
    → min_over (λ p. cond (eqb p.low a) (p.up_time ⊕ f p.high) none) (rows w n k) ≡ min_below n (λ h. up w a h ⊕ f h)
ups-rows w f n k a ak =
    min_over-rows (λ p. cond (eqb p.low a) (p.up_time ⊕ f p.high) none) (λ l h. cond_same (eqb l a) none) w n k
    ∙ min_below-only k a (λ l. min_below n (at l)) ak
    (λ l lk ne. min_below-none n (at l) (λ h hn. cond_no (eqb l a) (up w l h ⊕ f h) none (ne_eqb l a ne)))
    ∙ min_below_cong n (at a) (λ h. up w a h ⊕ f h) (λ h hn. cond_yes (eqb a a) (up w a h ⊕ f h) none (eq-eqb a a refl))
  where
    at : ℕ → ℕ → Total
    at l h = cond (eqb l a) (up w l h ⊕ f h) none

-- ---- the records ascend

ordered_append : {A : Type 0} (R : A → A → Type 0) {l m : List A} → Ordered R l → Ordered R m
    → ((a b : A) → Memᴰ a l → Memᴰ b m → R a b) → Ordered R (l ++ m)
ordered_append R ordered_nil k f = k
ordered_append {A} R {m = m} (ordered_cons {a} {l} g h) k f =
    ordered_cons (λ b x. go b (Memᴰ.append_cases l x)) (ordered_append R h k (λ c b x y. f c b (Memᴰ.tail x) y))
  where
    go : (b : A) → Memᴰ b l ⊎ Memᴰ b m → R a b
    go b (inl x) = g b x
    go b (inr y) = f a b (Memᴰ.head refl) y

before_ascend : {l : List Pair} → Ordered Before l → Ordered Ascend l
before_ascend ordered_nil = ordered_nil
before_ascend (ordered_cons {a} {l} g h) = ordered_cons {a = a} {l = l} (λ b x. low b (g b x)) (before_ascend h)
  where
    low : (b : Pair) → Before a b → a.low ≤ b.low
    low b (inl k) = omega arith
    low b (inr k) = omega (arith, k.0)

keep-is : {p : Pair} (q : Pair) → Memᴰ p (keep q) → p ≡ q
keep-is {p} q m = go (exists q.up_time q.down_time) m
  where
    go : (b : Bool) → Memᴰ p (cond b (q ∷ []) []) → p ≡ q
    go true m = Memᴰ.eq_of_singleton m
    go false m = absurd (Memᴰ.not-nil m)

keep_ordered : (q : Pair) → Ordered Before (keep q)
keep_ordered q = go (exists q.up_time q.down_time)
  where
    go : (b : Bool) → Ordered Before (cond b (q ∷ []) [])
    go true = ordered_cons {a = q} {l = []} (λ b x. absurd (Memᴰ.not-nil x)) ordered_nil
    go false = ordered_nil

module _ (w : Weights) where
  row_ends : {p : Pair} (l k : ℕ) → Memᴰ p (row w l k) → (p.low ≡ l) × (p.high < k)
  row_ends l zero m = absurd (Memᴰ.not-nil m)
  row_ends {p} l (suc k) m = go (λ q. row_ends l k q) (Memᴰ.append_cases (row w l k) m)
    where
      go : (Memᴰ p (row w l k) → (p.low ≡ l) × (p.high < k)) → Memᴰ p (row w l k) ⊎ Memᴰ p (keep (pair_of w l k))
          → (p.low ≡ l) × (p.high < suc k)
      go rec (inl q) = let r = rec q in (r.0, omega (arith, r.1))
      go rec (inr q) =
          let e = keep-is (pair_of w l k) q in
          let h = ap (λ (x : Pair). x.high) e in
          (ap (λ (x : Pair). x.low) e, omega (arith, h))

  row_ordered : (l k : ℕ) → Ordered Before (row w l k)
  row_ordered l zero = ordered_nil
  row_ordered l (suc k) = ordered_append Before (row_ordered l k) (keep_ordered (pair_of w l k)) after
    where
      after : (p q : Pair) → Memᴰ p (row w l k) → Memᴰ q (keep (pair_of w l k)) → Before p q
      after p q x y =
          let r = row_ends l k x in
          let e = keep-is (pair_of w l k) y in
          let a = ap (λ (z : Pair). z.low) e in
          let h = ap (λ (z : Pair). z.high) e in
          inr (r.0 ∙ sym a, omega (arith, r.1, h))

  rows-low : {p : Pair} (n k : ℕ) → Memᴰ p (rows w n k) → p.low < k
  rows-low n k m = let r = rows_member w n k m in let e = ap (λ (x : Pair). x.low) r.is in omega (arith, e, r.lows)

  pub rows_ordered : (n k : ℕ) → Ordered Before (rows w n k)
  rows_ordered n zero = ordered_nil
  rows_ordered n (suc k) =
      ordered_append Before (rows_ordered n k) (row_ordered k n) (λ p q x y. inl (omega (arith, rows-low n k x, (row_ends k n y).0)))

  pub rows_ascend : (n k : ℕ) → Ordered Ascend (rows w n k)
  rows_ascend n k = before_ascend (rows_ordered n k)

  -- ---- a pair with a time is kept

  keep_has : (p : Pair) → exists p.up_time p.down_time ≡ true → Memᴰ p (keep p)
  keep_has p e = rw e (Memᴰ.head refl)

  row-pair : (l h k : ℕ) → h < k → exists (up w l h) (down w l h) ≡ true → Memᴰ (pair_of w l h) (row w l k)
  row-pair l h zero hk e = absurd (not-suc-le-zero hk)
  row-pair l h (suc k) hk e = go (λ lt. row-pair l h k lt e) (ℕ_discrete h k)
    where
      go : (h < k → Memᴰ (pair_of w l h) (row w l k)) → Dec (h ≡ k) → Memᴰ (pair_of w l h) (row w l k ++ keep (pair_of w l k))
      go rec (yes q) =
          Memᴰ.append_right (row w l k) (subst (λ (x : ℕ). Memᴰ (pair_of w l h) (keep (pair_of w l x))) q (keep_has (pair_of w l h) e))
      go rec (no q) = Memᴰ.append_left (keep (pair_of w l k)) (rec (omega arith))

  pub rows-pair : (l h n k : ℕ) → l < k → h < n → exists (up w l h) (down w l h) ≡ true → Memᴰ (pair_of w l h) (rows w n k)
  rows-pair l h n zero lk hn e = absurd (not-suc-le-zero lk)
  rows-pair l h n (suc k) lk hn e = go (λ lt. rows-pair l h n k lt hn e) (ℕ_discrete l k)
    where
      go : (l < k → Memᴰ (pair_of w l h) (rows w n k)) → Dec (l ≡ k) → Memᴰ (pair_of w l h) (rows w n k ++ row w k n)
      go rec (yes q) = Memᴰ.append_right (rows w n k) (subst (λ (x : ℕ). Memᴰ (pair_of w l h) (row w x n)) q (row-pair l h n hn e))
      go rec (no q) = Memᴰ.append_left (row w k n) (rec (omega arith))

  pub rows_has : (l h c n k : ℕ) → l < k → h < n → up w l h ≡ some c → Memᴰ (pair_of w l h) (rows w n k)
  rows_has l h c n k lk hn e = rows-pair l h n k lk hn (rw e)

exists-timed : (x y : Total) → exists x y ≡ true → Timed x y
exists-timed none none e = absurd (true_false e refl)
exists-timed none (some d) e = inr (d, refl)
exists-timed (some u) y e = inl (u, refl)

timed-exists : (x y : Total) → Timed x y → exists x y ≡ true
timed-exists x y (inl h) = rw h.1
timed-exists none y (inr h) = rw h.1
timed-exists (some u) y (inr h) = refl

pub pairs_of-kept : {M : Map} → Valid M → KeptPairs M (pairs_of M)
pairs_of-kept {M} ok = record { all = all; only = only; ascending = rows_ordered (weights M) M.vertices M.vertices }
  where
    all : (p : Pair) → KeptPair M p → Memᴰ p (pairs_of M)
    all p k =
        Memᴰ.cast k.is
        (rows-pair (weights M) (rank M k.low) (rank M k.high) M.vertices M.vertices
        (rank_below ok.orders k.low k.low_below) (rank_below ok.orders k.high k.high-below)
        (timed-exists (up_of M k.low k.high) (down_of M k.low k.high) k.timed))

    only : (p : Pair) → Memᴰ p (pairs_of M) → KeptPair M p
    only p m =
        let r = rows_member (weights M) M.vertices M.vertices m in
        let a = rank_of-vertex ok.orders r.l r.lows in
        let b = rank_of-vertex ok.orders r.h r.highs in
        record {
          low = M.order r.l;
          high = M.order r.h;
          low_below = ok.orders.below r.l r.lows;
          high-below = ok.orders.below r.h r.highs;
          ranked = rw (a, b) r.less;
          timed = rw (a, b) (exists-timed (up (weights M) r.l r.h) (down (weights M) r.l r.h) r.timed);
          is = rw (a, b) r.is;
        }

-- and no other list is
before_asym : (p q : Pair) → Before p q → Before q p → ⊥
before_asym p q (inl h) (inl k) = omega arith
before_asym p q (inl h) (inr k) = omega (arith, k.0)
before_asym p q (inr h) (inl k) = omega (arith, h.0)
before_asym p q (inr h) (inr k) = omega (arith, h.1, k.1)

before_irrefl : {p q : Pair} → p ≡ q → Before p q → ⊥
before_irrefl {p} {q} e h = before_asym q q (rw e at h) (rw e at h)

ascending-same : {l m : List Pair} → Ordered Before l → Ordered Before m → ((p : Pair) → Memᴰ p l → Memᴰ p m)
    → ((p : Pair) → Memᴰ p m → Memᴰ p l) → l ≡ m
ascending-same ordered_nil ordered_nil f g = refl
ascending-same ordered_nil (ordered_cons {a = b} {l = m} y k) f g = absurd (Memᴰ.not-nil (g b (Memᴰ.head refl)))
ascending-same (ordered_cons {a} {l} x h) ordered_nil f g = absurd (Memᴰ.not-nil (f a (Memᴰ.head refl)))
ascending-same (ordered_cons {a} {l} x h) (ordered_cons {a = b} {l = m} y k) f g =
    let e = heads (Memᴰ.cases_cons (f a (Memᴰ.head refl))) (Memᴰ.cases_cons (g b (Memᴰ.head refl))) in
    ap₂ ◌∷◌ e (ascending-same h k
    (λ p w. past (y p) (λ q. before_irrefl (e ∙ sym q) (x p w)) (Memᴰ.cases_cons (f p (Memᴰ.tail w))))
    (λ p w. past (x p) (λ q. before_irrefl (sym e ∙ sym q) (y p w)) (Memᴰ.cases_cons (g p (Memᴰ.tail w)))))
  where
    heads : (a ≡ b) ⊎ Memᴰ a m → (b ≡ a) ⊎ Memᴰ b l → a ≡ b
    heads (inl e) w = e
    heads (inr v) (inl e) = sym e
    heads (inr v) (inr w) = absurd (before_asym a b (x b w) (y a v))

    past : {c p : Pair} {n : List Pair} → (Memᴰ p n → Before c p) → (p ≡ c → ⊥) → (p ≡ c) ⊎ Memᴰ p n → Memᴰ p n
    past z ne (inl e) = absurd (ne e)
    past z ne (inr w) = w

pub kept_pairs_one : {M : Map} {l m : List Pair} → KeptPairs M l → KeptPairs M m → l ≡ m
kept_pairs_one k j = ascending-same k.ascending j.ascending (λ p x. j.all p (k.only p x)) (λ p x. k.all p (j.only p x))

-- ---- the times of a map's ranks are at most what a path without a repeated vertex costs at most

module _ {M : Map} (ok : Valid M) {C : ℕ} (most : CostsAtMost (Arc M.base) C) where
  ranked-most : CostsAtMost (Arc (renamed (rank M) M.base)) C
  ranked-most x y k o = most _ _ k (arc_of o.index o.below refl refl o.at.costs)

  ranked-ends : EndsBelow (Arc (renamed (rank M) M.base)) M.vertices
  ranked-ends = ends-below (renamed-inside (ranks_rename ok.orders) ok.inside)

  pub ranked-up : (low high : ℕ) {t : ℕ} → low < M.vertices → up (weights M) low high ≡ some t → t ≤ (M.vertices - 1) * C
  ranked-up low high h e = up-bound (direct-least (renamed (rank M) M.base)) ranked-ends ranked-most low high h e

  pub ranked-down : (low high : ℕ) {t : ℕ} → high < M.vertices → down (weights M) low high ≡ some t → t ≤ (M.vertices - 1) * C
  ranked-down low high h e = down-bound (direct-least (renamed (rank M) M.base)) ranked-ends ranked-most low high h e

  pub ranked-down_total : (z r : ℕ) {t : ℕ} → r < M.vertices → down_total (weights M) z r ≡ some t → t ≤ (M.vertices - 1) * C
  ranked-down_total z r h e = down_total-bound (direct-least (renamed (rank M) M.base)) ranked-ends ranked-most z r h e

  pub ranked-estimate : (z r : ℕ) {t : ℕ} → z < M.vertices → r < M.vertices → estimate (weights M) M.vertices z r ≡ some t
      → t ≤ (M.vertices - 1) * C
  ranked-estimate z r k h e = estimate-bound (direct-least (renamed (rank M) M.base)) ranked-ends ranked-most z r k h e
