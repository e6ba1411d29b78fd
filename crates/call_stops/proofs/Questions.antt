-- 12: every stop of a list is below n (`below-is`). Assumes nothing.
use Rattle.std.proofs.Common.{arith, lt-ltb, ltb-true}
use Rattle.std.specs.Prelude.{◌≡◌, ◌↔◌, refl, Bool, false, true, List, [], ◌∷◌, ◌<◌, suc, zero, ℕ, ltb, All}
use Rattle.std.proofs.Math.Path.{sym}
use Rattle.graph.proofs.Total.{and_true}
use Rattle.model.specs.Stops.{all_below}

each-below : (n : ℕ) (stops : List ℕ) → all_below n stops ≡ true → All (λ (s : ℕ). s < n) stops
each-below n [] e k d h = elim h [ ]
each-below n (v ∷ stops) e zero d h = ltb-true v n (and_true (ltb v n) (all_below n stops) e).0
each-below n (v ∷ stops) e (suc k) d h = each-below n stops (and_true (ltb v n) (all_below n stops) e).1 k d (omega (arith, h))

together : (n : ℕ) (stops : List ℕ) → All (λ (s : ℕ). s < n) stops → all_below n stops ≡ true
together n [] f = refl
together n (v ∷ stops) f =
    rw (lt-ltb v n (f 0 0 (omega arith)), together n stops (λ k d h. f (suc k) d (omega (arith, h))))

pub below-is : (n : ℕ) (stops : List ℕ) (b : Bool) → (b ≡ true) ↔ All (λ (s : ℕ). s < n) stops → b ≡ all_below n stops
below-is n stops b e = same b (all_below n stops) (each-below n stops) (together n stops) e
  where
    same : (b c : Bool) {P : Type 0} → (c ≡ true → P) → (P → c ≡ true) → (b ≡ true) ↔ P → b ≡ c
    same true c f g e = sym (g (e.0 refl))
    same false false f g e = refl
    same false true f g e = e.1 (f refl)
