-- Totals that a signed 64-bit number holds, and what counts for any other. Assumes nothing.
use Rattle.std.specs.Prelude.{◌≡◌, refl, cond, ◌<◌, ℕ, ltb}
use Rattle.std.proofs.Math.Option.{none, some}
use Rattle.std.proofs.Common.{lt-ltb}
use Rattle.graph.specs.Total.{Total}

-- 2^63: every total of document 01 and 02 is far below it
abbrev pub most : ℕ
most = 9223372036854775808

pub record Fits (x : Total) : Type 0 where
  pub below : (t : ℕ) → x ≡ some t → t < most

-- a total of 2^63 or more counts as none: no list of calls leaves areas that give one
abbrev pub held : Total → Total
held none = none
held (some t) = cond (ltb t most) (some t) none

pub held-is : (x : Total) → Fits x → held x ≡ x
held-is none f = refl
held-is (some t) f = rw (lt-ltb t most (f.below t refl))
