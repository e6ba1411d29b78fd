-- A preview's change: the difference of two numbers below 2^63 fits 64 bits with a sign. Assumes nothing.
use mathlib.Core.Path.{◌≡◌, ◌∙◌}
use mathlib.Core.Bool.{Bool, cond, false, true}
use Prim.Native.Nat.{◌<◌, ◌^◌, zero, suc, ℕ}
use lib.Dec.{ltb}
use lib.IntN.{◌-ℤ◌, negsuc, pos}
use mir.Syntax.{w64}
use mir.Val.{SFits, of_z, to_z}
use mir.ValLaws.{to_z-of_z, to_z_pos}
use native.Mathlib.Omega.{arith}
use Rattle.unit_answers.specs.Signed.{most}

either : (t : Bool) (x y : ℕ) → x < 2 ^ 63 → y < 2 ^ 63 → SFits w64 (cond t (negsuc x) (pos y))
either true x y h l = record { sfits = h }
either false x y h l = record { sfits = l }

fits : (a b : ℕ) → a < 2 ^ 63 → b < 2 ^ 63 → SFits w64 (pos a -ℤ pos b)
fits a zero h l = record { sfits = omega arith }
fits a (suc b) h l = either (ltb a (suc b)) _ _ (omega arith) (omega arith)

module _ (a b : ℕ) (h : a < most) (l : b < most) where
  pub difference_fits : SFits w64 (to_z w64 a -ℤ to_z w64 b)
  difference_fits = rw (to_z_pos w64 a h, to_z_pos w64 b l) (fits a b h l)

  pub difference_is : to_z w64 (of_z w64 (to_z w64 a -ℤ to_z w64 b)) ≡ pos a -ℤ pos b
  difference_is = to_z-of_z w64 _ difference_fits ∙ rw (to_z_pos w64 a h, to_z_pos w64 b l)
