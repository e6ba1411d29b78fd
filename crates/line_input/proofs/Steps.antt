-- One step of the reader: a byte is taken, or the next chunk is read; and whether there is one more. Assumes nothing.
use mathlib.Core.Path.{◌∙◌, ◌≡◌, ap, ap₂, refl, sym}
use mathlib.Core.Logic.{◌⊎◌, inl, inr}
use mathlib.Core.Bool.{Bool, cond, false, false≢true, true}
use mathlib.Core.List.{List, ◌∷◌}
use Prim.Native.Nat.{◌+◌, ◌-◌, ◌<◌, ◌≤◌, suc, ℕ}
use borrow.Author.Tests.{ltb-true}
use lib.Dec.{ltb}
use lib.ListN.{drop, drop_of_length-le, get_or, length, length-take, take}
use lib.Seq.{drop-cons, get_or-take}
use native.Mathlib.Numerals.{add-one}
use native.Mathlib.Omega.{arith}
use Rattle.line_input.specs.Input.{Refilled, Stepped, Took, refilled, took, unread, waiting}
use Rattle.line_input.specs.declared.Reader.{Reader}

-- ---- either

-- the next byte of the chunk
next-is : (at end : ℕ) (chunk : List ℕ) → at < end → at < length chunk
    → drop at (take end chunk) ≡ get_or chunk at 0 ∷ drop (at + 1) (take end chunk)
next-is at end chunk h k =
    let z : at < length (take end chunk) = omega (arith, h, k, length-take end chunk) in
    drop-cons (take end chunk) at 0 z ∙ ap (λ (b : ℕ). b ∷ drop (suc at) (take end chunk)) (get_or-take end chunk at 0 h)
    ∙ ap (λ (i : ℕ). get_or chunk at 0 ∷ drop i (take end chunk)) (sym (add-one at))

module _ {r : Reader} {chunk area : List ℕ} {s : Reader} where
  pub step_takes : {area' : List ℕ} → r.at < r.end → r.at < length chunk → Took (get_or chunk r.at 0) (r.turns - 1) r area s area'
      → Stepped r chunk area s chunk area'
  step_takes h k w =
      let b = get_or chunk r.at 0 in
      let left : drop (r.at + 1) (take r.end chunk) ≡ unread s chunk =
      ap₂ (λ (i k : ℕ). drop i (take k chunk)) (sym w.at) (sym w.end) in
      took b (next-is r.at r.end chunk h k ∙ ap (λ (x : List ℕ). b ∷ x) left) refl w

  pub step-reads : {chunk' : List ℕ} → (r.end ≤ r.at) ⊎ (length chunk ≤ r.at)
      → (s.end ≤ length chunk') × Refilled s.end (r.turns - 1) r s → Stepped r chunk area s chunk' area
  step-reads h w = refilled s.end (drop_of_length-le (take r.end chunk) (none_left h)) w.0 w.1 refl
    where
      none_left : (r.end ≤ r.at) ⊎ (length chunk ≤ r.at) → length (take r.end chunk) ≤ r.at
      none_left (inl k) = omega (arith, k, length-take r.end chunk)
      none_left (inr k) = omega (arith, k, length-take r.end chunk)

-- ---- whether a step more is to be made

module _ (r : Reader) where
  pub at_ready : r.ready ≡ true → waiting r ≡ false
  at_ready e = ap (λ (b : Bool). cond b false (cond r.ended false (ltb 0 r.turns))) e

  pub at_ended : r.ended ≡ true → waiting r ≡ false
  at_ended e = go r.ready
    where
      go : (b : Bool) → cond b false (cond r.ended false (ltb 0 r.turns)) ≡ false
      go true = refl
      go false = ap (λ (b : Bool). cond b false (ltb 0 r.turns)) e

  pub by-turns : r.ready ≡ false → r.ended ≡ false → waiting r ≡ ltb 0 r.turns
  by-turns p q = ap (λ (b : Bool). cond b false (cond r.ended false (ltb 0 r.turns))) p
      ∙ ap (λ (b : Bool). cond b false (ltb 0 r.turns)) q

  pub some-turns : waiting r ≡ true → 0 < r.turns
  some-turns w = go r.ready r.ended w
    where
      go : (b c : Bool) → cond b false (cond c false (ltb 0 r.turns)) ≡ true → 0 < r.turns
      go true c e = absurd (false≢true e)
      go false true e = absurd (false≢true e)
      go false false e = ltb-true 0 r.turns e
