-- The bits of a byte, and the byte of a road. Assumes nothing.
use mathlib.Core.Path.{◌∙◌, ◌≡◌, ap, sym}
use Prim.Native.Nat.{◌%◌, ◌/◌, ◌<◌, ◌^◌, ◌≤◌, suc, zero, ℕ}
use lib.Dec.{eqb}
use lib.Pow.{pow_mono}
use native.Mathlib.Nat.{div-div-eq-div-mul, div-eq_of_lt, div-one, lt_of_lt_of_le, pow-succ'}
use Rattle.model.specs.Limits.{classes}
use Rattle.model.specs.Classes.{admits, halved}

-- c times halved is once divided by 2 ^ c
pub halved_is : (c b : ℕ) → b / 2 ^ c ≡ halved c b
halved_is zero b = div-one b
halved_is (suc c) b = ap (b /◌) (pow-succ' 2 c) ∙ sym (div-div-eq-div-mul b 2 (2 ^ c)) ∙ halved_is c (b / 2)

-- a byte has eight bits
pub halved-past : (c b : ℕ) → classes ≤ c → b < 256 → 0 ≡ halved c b
halved-past c b h l = sym (div-eq_of_lt (lt_of_lt_of_le l (pow_mono h))) ∙ halved_is c b

-- the lowest bit that is left
pub bit_is : (c : ℕ) {byte b h : ℕ} → b ≡ byte → h ≡ halved c b → eqb (h % 2) 1 ≡ admits byte c
unfolding admits
bit_is c b-is h-is = ap (λ (x : ℕ). eqb (x % 2) 1) (h-is ∙ ap (halved c) b-is)
