-- Text after text in an area. Assumes nothing.
use Rattle.std.specs.Prelude.{◌≡◌, refl, List, [], ◌++◌, ◌∷◌, ℕ}
use Rattle.std.proofs.Common.{subst, sym, append_assoc, append-nil, arith}
use Rattle.std.proofs.Math.Seq.{take-nil}
use Rattle.line_texts.specs.Areas.{Puts, Written, shown, spaced}

pub shown-none : (o : List ℕ) → shown [] o ≡ o
unfolding shown
shown-none o = rw take-nil

pub puts_none : (a : List ℕ) (at : ℕ) → Puts [] a at a at
puts_none a at = record { then = λ o t w. rw (append-nil t) w }

pub puts_then : {s : List ℕ} {a : List ℕ} {at : ℕ} {m : List ℕ} {k : ℕ} {u z : List ℕ} {r : ℕ} → Puts s a at m k → Puts u m k z r
    → Puts (s ++ u) a at z r
puts_then {s} {u = u} {z = z} {r = r} p q = record {
  then = λ o t w. subst (λ (x : List ℕ). Written o x z r) (append_assoc t s u) (q.then o (t ++ s) (p.then o t w));
}

pub puts_as : {s u a : List ℕ} {at : ℕ} {z : List ℕ} {r : ℕ} → s ≡ u → Puts s a at z r → Puts u a at z r
puts_as e p = rw (← e) p

-- at the start nothing is written
pub puts-start : {s a z : List ℕ} {r : ℕ} → Puts s a 0 z r → Written a s z r
puts-start {a = a} p = p.then a [] (record { area = sym (shown-none a); count = omega arith })

pub spaced-append : (l r : List ℕ) → spaced (l ++ r) ≡ spaced l ++ spaced r
unfolding spaced
spaced-append [] r = refl
spaced-append (n ∷ l) r = rw (spaced-append l r, append_assoc)
