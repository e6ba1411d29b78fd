-- Lists of pairs by their places.
use mathlib.Core.Path.{◌∙◌, ◌≡◌, ap, refl, sym}
use mathlib.Core.List.{List, Memᴰ, [], ◌∷◌}
use Prim.Native.Nat.{◌<◌, ◌≤◌, suc, zero, ℕ}
use lib.ListN.{length}
use native.Mathlib.Nat.{not-suc-le-zero}
use native.Mathlib.Omega.{arith}
use Rattle.graph.specs.Total.{Total, ◌⊓◌}
use Rattle.graph.proofs.Total.{⊓-assoc, ⊓-none}
use Rattle.graph.specs.Least.{min_below}
use Rattle.graph.specs.Lists.{Ordered, ordered_cons, ordered_nil}
use Rattle.graph.specs.Records.{Pair, min_over}
use Rattle.graph.specs.Rows.{Ascend}
use Rattle.model.specs.Use.{pair_in}
use Rattle.model.proofs.Use.{pair_in-mem}

-- a minimum from its other end
min_below-first : (n : ℕ) (f : ℕ → Total) → min_below (suc n) f ≡ f 0 ⊓ min_below n (λ i. f (suc i))
min_below-first zero f = sym (⊓-none (f 0))
min_below-first (suc n) f =
    ap (λ (x : Total). x ⊓ f (suc n)) (min_below-first n f) ∙ ⊓-assoc (f 0) (min_below n (λ i. f (suc i))) (f (suc n))

pub min_over-places : (g : Pair → Total) (l : List Pair) → min_over g l ≡ min_below (length l) (λ i. g (pair_in l i))
min_over-places g [] = refl
min_over-places g (p ∷ l) = ap (◌⊓◌ (g p)) (min_over-places g l) ∙ sym (min_below-first (length l) (λ i. g (pair_in (p ∷ l) i)))

pub ascend_places : {l : List Pair} → Ordered Ascend l → (i k : ℕ) → i ≤ k → k < length l → (pair_in l i).low ≤ (pair_in l k).low
ascend_places ordered_nil i k h q = absurd (not-suc-le-zero q)
ascend_places (ordered_cons f s) zero zero h q = omega arith
ascend_places (ordered_cons {l = l} f s) zero (suc k) h q = f (pair_in l k) (pair_in-mem l k (omega arith))
ascend_places (ordered_cons f s) (suc i) zero h q = absurd (omega arith)
ascend_places (ordered_cons f s) (suc i) (suc k) h q = ascend_places s i k (omega arith) (omega arith)

pub place_of : {p : Pair} {l : List Pair} → Memᴰ p l → (i : ℕ) × (i < length l) × (pair_in l i ≡ p)
place_of (Memᴰ.head e) = (zero, omega arith, sym e)
place_of (Memᴰ.tail m) = let r = place_of m in (suc r.0, omega (arith, r.1), r.2)
