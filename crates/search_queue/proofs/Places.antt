-- What is above what in the tree. Assumes nothing.
use Rattle.std.proofs.Common.{◌*◌, ◌+◌, ◌-◌, ◌/◌, ◌<◌, ◌≡◌, ◌≤◌, ◌⊎◌, arith, inl, inr, refl, ℕ}
use Rattle.std.proofs.Math.Decide.{dec_lt, ℕ_discrete}
use Rattle.search_queue.specs.Tree.{Above, here, higher}

pub above_cases : {p q : ℕ} → Above p q → (p ≡ q) ⊎ ((1 < q) × Above p (q / 2))
above_cases here = inl refl
above_cases (higher l a) = inr (l, a)

pub above-le : {p q : ℕ} → Above p q → p ≤ q
above-le here = omega arith
above-le (higher {q} l a) = let z = above-le a in omega arith

-- properly above: above the half
pub above_half : {p q : ℕ} → Above p q → p < q → Above p (q / 2)
above_half {p} {q} a l = go (above_cases a)
  where
    go : (p ≡ q) ⊎ ((1 < q) × Above p (q / 2)) → Above p (q / 2)
    go (inl e) = absurd (omega arith)
    go (inr f) = f.1

pub above_trans : {p q r : ℕ} → Above p q → Above q r → Above p r
above_trans a here = a
above_trans a (higher l b) = higher l (above_trans a b)

-- what is under one of a place's two is under the place
module _ {p q : ℕ} (low : 0 < p) where
  pub above-left : Above (2 * p) q → Above p q
  above-left a = above_trans (higher (omega arith) (let e : (2 * p) / 2 ≡ p = omega arith in rw e here)) a

  pub above-right : Above (2 * p + 1) q → Above p q
  above-right a = above_trans (higher (omega arith) (let e : (2 * p + 1) / 2 ≡ p = omega arith in rw e here)) a

-- what is under a place, and is not the place, is under one of its two
pub above-split : {p q : ℕ} → Above p q → p < q → Above (2 * p) q ⊎ Above (2 * p + 1) q
above-split here l = absurd (omega arith)
above-split {p} (higher {q} m a) l = go (ℕ_discrete p (q / 2)) (λ k. above-split a k)
  where
    at : (2 * p ≡ q) ⊎ (2 * p + 1 ≡ q) → Above (2 * p) q ⊎ Above (2 * p + 1) q
    at (inl e) = inl (rw e here)
    at (inr e) = inr (rw e here)

    which : p ≡ q / 2 → Dec (2 * p ≡ q) → (2 * p ≡ q) ⊎ (2 * p + 1 ≡ q)
    which e (yes k) = inl k
    which e (no k) = inr (omega arith)

    up : Above (2 * p) (q / 2) ⊎ Above (2 * p + 1) (q / 2) → Above (2 * p) q ⊎ Above (2 * p + 1) q
    up (inl b) = inl (higher m b)
    up (inr b) = inr (higher m b)

    go : Dec (p ≡ q / 2) → (p < q / 2 → Above (2 * p) (q / 2) ⊎ Above (2 * p + 1) (q / 2)) → Above (2 * p) q ⊎ Above (2 * p + 1) q
    go (yes e) f = at (which e (ℕ_discrete (2 * p) q))
    go (no e) f = let z = above-le a in up (f (omega arith))

-- the place of a node is above no other node's
pub above-leaf : {n v u : ℕ} → v < n → u < n → Above (n + v) (n + u) → u ≡ v
above-leaf {n} {v} {u} lv lu a = go (dec_lt v u)
  where
    go : Dec (v < u) → u ≡ v
    go (yes l) = let z = above-le (above_half a (omega arith)) in absurd (omega arith)
    go (no l) = let z = above-le a in omega arith

-- a and b are the two under p
pub record Two (n p a b : ℕ) : Type 0 where
  pub under_first : (q : ℕ) → Above a q → Above p q
  pub under-second : (q : ℕ) → Above b q → Above p q
  pub either : (u : ℕ) → Above p (n + u) → Above a (n + u) ⊎ Above b (n + u)

-- a place and the place beside it are the two under its half
pub two-beside : (n at up beside : ℕ) → 1 < at → at < 2 * n → up ≡ at / 2 → beside ≡ 4 * up + 1 - at → Two n up at beside
two-beside n at up beside more inside up_is beside-is = go (ℕ_discrete at (2 * up))
  where
    turned : (u : ℕ) → Above (2 * up) (n + u) ⊎ Above (2 * up + 1) (n + u) → Above (2 * up + 1) (n + u) ⊎ Above (2 * up) (n + u)
    turned u (inl a) = inr a
    turned u (inr a) = inl a

    go : Dec (at ≡ 2 * up) → Two n up at beside
    go (yes e) =
        let b : beside ≡ 2 * up + 1 = omega arith in
        rw (e, b) (record {
          under_first = λ q a. above-left (omega arith) a;
          under-second = λ q a. above-right (omega arith) a;
          either = λ u a. above-split a (omega arith);
        })
    go (no e) =
        let a-is : at ≡ 2 * up + 1 = omega arith in
        let b : beside ≡ 2 * up = omega arith in
        rw (a-is, b) (record {
          under_first = λ q a. above-right (omega arith) a;
          under-second = λ q a. above-left (omega arith) a;
          either = λ u a. turned u (above-split a (omega arith));
        })
