-- The ranks of a block, passed over the row of r, and the bound of the block. Assumes nothing.
use mathlib.Core.Path.{◌∙◌, ◌≡◌, ap, sym}
use mathlib.Core.List.{List}
use Prim.Native.Nat.{◌*◌, ◌+◌, ◌-◌, ◌/◌, ◌<◌, ◌≤◌, min, suc, zero, ℕ}
use lib.ListN.{get_or, length, length-set, set}
use lib.Seq.{get_or-set_other, get_or-set_same}
use Rattle.std.specs.Int.{div_ceil}
use native.Mathlib.Decide.{dec_lt, ℕ_discrete}
use native.Mathlib.Omega.{arith}
use Rattle.graph.specs.Path.{Weights}
use Rattle.pairs_rows.specs.Rows.{block}
use Rattle.pairs_fronts.specs.Fronts.{Lower, Scanned, Stage}
use Rattle.pairs_fronts.proofs.Passes.{stage-skip}

-- ---- ranks that have no pair with r

-- no rank from v to before v + d has r ahead
stage-over : {w : Weights} {n r : ℕ} {pairs times cursor ahead ends ups downs touched : List ℕ} (d v : ℕ) → v + d ≤ r
    → ((u : ℕ) → v ≤ u → u < v + d → get_or ahead u 0 ≡ r → ⊥) → Stage w n r v pairs times cursor ahead ends ups downs touched
    → Stage w n r (v + d) pairs times cursor ahead ends ups downs touched
stage-over zero v l ne s = let e : v ≡ v + 0 = omega arith in rw e at s
stage-over (suc d) v l ne s =
    let e : v + 1 + d ≡ v + suc d = omega arith in
    rw e at (stage-over d (v + 1) (omega arith) (λ u a b. ne u (omega arith) (omega arith))
    (stage-skip s (omega arith) (ne v (omega arith) (omega arith))))

-- ---- the bound of a block

module _ {w : Weights} {n r from v x : ℕ} {pairs times cursor ahead ends ups downs touched : List ℕ}
    (s : Scanned w n r from v x pairs times cursor ahead ends ups downs touched) (vr : v < r) where
  pub scanned_skip : {y high : ℕ} → high ≡ get_or ahead v 0 → (high ≡ r → ⊥) → y ≡ min x high
      → Scanned w n r from (v + 1) y pairs times cursor ahead ends ups downs touched
  scanned_skip {y} {high} eh ne ey = record {
    stage = stage-skip s.stage vr (λ q. ne (eh ∙ q));
    bound = λ u a b. at u a b (ℕ_discrete u v);
  }
    where
      at : (u : ℕ) → from ≤ u → u < v + 1 → Dec (u ≡ v) → y ≤ get_or ahead u 0
      at u a b (yes e) = let q : get_or ahead u 0 ≡ high = ap (λ (j : ℕ). get_or ahead j 0) e ∙ sym eh in omega (arith, q, ey)
      at u a b (no q) = omega (arith, s.bound u a (omega arith), ey)

  pub scanned_pass : {y high : ℕ} {cursor' ahead' ends' ups' downs' touched' : List ℕ} → high ≡ get_or ahead' v 0 → y ≡ min x high
      → Stage w n r (v + 1) pairs times cursor' ahead' ends' ups' downs' touched'
      → Scanned w n r from (v + 1) y pairs times cursor' ahead' ends' ups' downs' touched'
  scanned_pass {y} {high} {ahead'} eh ey z = record { stage = z; bound = λ u a b. at u a b (ℕ_discrete u v) }
    where
      at : (u : ℕ) → from ≤ u → u < v + 1 → Dec (u ≡ v) → y ≤ get_or ahead' u 0
      at u a b (yes e) = let q : get_or ahead' u 0 ≡ high = ap (λ (j : ℕ). get_or ahead' j 0) e ∙ sym eh in omega (arith, q, ey)
      at u a b (no ne) =
          let q : get_or ahead' u 0 ≡ get_or ahead u 0 = (z.passed u b).ahead-is ∙ sym (s.stage.passed u (omega arith)).ahead-is in
          omega (arith, s.bound u a (omega arith), ey, q)

pub scanned_end : {w : Weights} {n r from v to x : ℕ} {pairs times cursor ahead ends ups downs touched : List ℕ} → v ≤ to → to ≤ v
    → Scanned w n r from v x pairs times cursor ahead ends ups downs touched
    → Scanned w n r from to x pairs times cursor ahead ends ups downs touched
scanned_end {v} {to} h k s = let e : v ≡ to = omega arith in rw e at s

-- ---- block by block

-- block b begins below r, and at its own first rank
pub block-below : (r b : ℕ) {e : ℕ} → e ≡ div_ceil r block → b < e → block * b < r
block-below r b e h = omega arith

pub block-begins : (r b : ℕ) → block * b < r → min r (block * b) ≡ block * b
block-begins r b h = omega arith

pub block-next : (r b : ℕ) {to : ℕ} → to ≡ min r (block * b + block) → to ≡ min r (block * (b + 1))
block-next r b e = omega arith

pub blocks-end : (r b : ℕ) {e : ℕ} → e ≡ div_ceil r block → e ≤ b → min r (block * b) ≡ r
blocks-end r b e h = omega arith

module _ {w : Weights} {n r : ℕ} (b : ℕ) {to : ℕ} {pairs times cursor ahead ends soon ups downs touched : List ℕ}
    (s : Lower w n r (block * b) pairs times cursor ahead ends soon ups downs touched) (br : block * b < r)
    (et : to ≡ min r (block * b + block)) where
  -- the block's bound is above r
  pub lower_skip : r < get_or soon b 0 → Lower w n r to pairs times cursor ahead ends soon ups downs touched
  lower_skip far =
      let e : block * b + (to - block * b) ≡ to = omega arith in
      record { stage = rw e at (stage-over (to - block * b) (block * b) (omega arith) other s.stage); sooner = s.sooner }
    where
      other : (u : ℕ) → block * b ≤ u → u < block * b + (to - block * b) → get_or ahead u 0 ≡ r → ⊥
      other u h k q =
          let e : u / block ≡ b = omega arith in
          let l : get_or soon b 0 ≤ get_or ahead u 0 = rw e at (s.sooner.before u (omega arith)) in
          omega (arith, far, l, q)

  -- its ranks are passed, and its bound is made anew
  pub lower_pass : {x : ℕ} {cursor' ahead' ends' ups' downs' touched' : List ℕ}
      → Scanned w n r (block * b) to x pairs times cursor' ahead' ends' ups' downs' touched'
      → Lower w n r to pairs times cursor' ahead' ends' (set soon b x) ups' downs' touched'
  lower_pass {x} {ahead'} z = record {
    stage = z.stage;
    sooner = record {
      wide = omega (arith, length-set soon b x, s.sooner.wide);
      before = λ u l. at u l (ℕ_discrete (u / block) b);
    };
  }
    where
      same : (u : ℕ) → u < r → Dec (u < block * b) → (u / block ≡ b → ⊥) → get_or ahead' u 0 ≡ get_or ahead u 0
      same u l (yes q) ne = (z.stage.passed u (omega arith)).ahead-is ∙ sym (s.stage.passed u q).ahead-is
      same u l (no q) ne = (z.stage.waiting u (omega arith) l).ahead-is ∙ sym (s.stage.waiting u (omega arith) l).ahead-is

      at : (u : ℕ) → u < r → Dec (u / block ≡ b) → get_or (set soon b x) (u / block) 0 ≤ get_or ahead' u 0
      at u l (yes e) =
          let k : b < length soon = omega (arith, s.sooner.wide, s.stage.inside) in
          let q : get_or (set soon b x) (u / block) 0 ≡ x = ap (λ (j : ℕ). get_or (set soon b x) j 0) e ∙ get_or-set_same soon b x 0 k in
          omega (arith, q, z.bound u (omega arith) (omega arith))
      at u l (no ne) = omega (arith, get_or-set_other soon b (u / block) x 0 ne, s.sooner.before u l, same u l (dec_lt u (block * b)) ne)
