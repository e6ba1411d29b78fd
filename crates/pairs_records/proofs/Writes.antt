-- The two words of a record written. Assumes nothing.
use mathlib.Core.Path.{◌≡◌}
use mathlib.Core.List.{List, [], ◌++◌, ◌∷◌}
use Prim.Native.Nat.{◌+◌, ◌≤◌, suc, ℕ}
use lib.ListN.{drop, length, set, take}
use lib.Seq.{sets-eq}
use native.Mathlib.Omega.{arith}

pub put : {A : Type 0} (s : List A) (i : ℕ) (a b : A) → i + 2 ≤ length s
    → set (set s i a) (i + 1) b ≡ take i s ++ (a ∷ b ∷ []) ++ drop (i + 2) s
put s i a b h = let e : i + 1 ≡ suc i = omega arith in rw e (sets-eq (a ∷ b ∷ []) s i h)
