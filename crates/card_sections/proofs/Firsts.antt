-- A loop that looks for the first number at which a test fails. Assumes nothing.
use mathlib.Core.Path.{◌≡◌, refl}
use mathlib.Core.Bool.{Bool, not, false, true}
use mathlib.Core.Option.{none, some}
use Prim.Native.Nat.{◌+◌, ◌<◌, ◌≤◌, ℕ}
use native.Mathlib.Decide.{dec_lt}
use native.Mathlib.Numerals.{add-one}
use native.Mathlib.Omega.{arith}
use Rattle.graph.specs.Total.{Total}
use Rattle.graph.specs.Least.{first_below}
use Rattle.graph.proofs.Least.{first_below-least, least-number, least_unique}

-- the first number below n that does not pass
abbrev pub failing : (ℕ → Bool) → ℕ → Total
failing ok n = first_below n (λ i. not (ok i))

module _ (ok : ℕ → Bool) where
  pub first-start : failing ok 0 ≡ none
  unfolding first_below
  first-start = refl

  pub first-turn : (i : ℕ) → failing ok i ≡ none → ok i ≡ true → failing ok (i + 1) ≡ none
  unfolding first_below
  first-turn i e t = rw (add-one i, e, t)

  pub first_found : (i n : ℕ) → i < n → failing ok i ≡ none → ok i ≡ false → failing ok n ≡ some i
  first_found i n l e f = least_unique (first_below-least n (λ k. not (ok k))) (least-number (l, rw f) (λ u q. at u q (dec_lt u i)))
    where
      at : (u : ℕ) → (u < n) × (not (ok u) ≡ true) → Dec (u < i) → i ≤ u
      at u q (yes h) = absurd (rw e at ((first_below-least i (λ k. not (ok k))).bound u (h, q.1)))
      at u q (no h) = omega arith
