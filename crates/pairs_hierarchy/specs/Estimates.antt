-- What an estimate answers and leaves. With the lemma that hands its facts on to the next one. Assumes nothing.
use Rattle.std.specs.Prelude.{◌≡◌, Bool, List, ℕ}
use Rattle.std.proofs.Common.{subst, sym}
use Rattle.graph.specs.Map.{Map, estimate_of, fills}
use Rattle.model.specs.Word.{unasked, word}
use Rattle.model.specs.Estimate.{Kept, filled}
use Rattle.model.specs.Good.{AimFacts, UpClosed}
use Rattle.model.proofs.Good.{filled-entries, fills-on}
use Rattle.network.specs.Bodies.{Prepared, map_in}

-- The estimate v of junction j; e are the estimates before it, z those after it.
pub record Estimated (order ranks pairs times : List ℕ) (count : ℕ) (down e z : List ℕ) (j v : ℕ) : Type 0 where
  -- on any contents: what is filled stays, and the answer is no mark that would have it asked again
  pub kept : Kept e z
  pub answered : v ≡ unasked → ⊥
  -- where preparing and aim left the areas: the least base total to the target or none, and exactly the junction and all reached from it
  -- are filled
  pub exact : (roads : List ℕ) → Prepared roads order ranks pairs times count → (t : ℕ) → AimFacts (map_in roads order) t down e
      → (v ≡ word (estimate_of (map_in roads order) t j)) × (z ≡ filled (map_in roads order) t (fills (map_in roads order) j) e)

-- filling entries, with all above them, leaves what aim's facts say
pub aim-filled : (M : Map) (t : ℕ) (p : ℕ → Bool) (down e : List ℕ) → UpClosed M p → AimFacts M t down e
    → AimFacts M t down (filled M t p e)
aim-filled M t p down e closed a = record { below = a.below; downs = a.downs; entries = filled-entries M t p e closed a.entries }

-- so does an estimate
pub aim-estimated : {order ranks pairs times : List ℕ} {count : ℕ} {down e z : List ℕ} {j v : ℕ}
    → Estimated order ranks pairs times count down e z j v
    → (roads : List ℕ) → Prepared roads order ranks pairs times count → (t : ℕ) → AimFacts (map_in roads order) t down e
    → AimFacts (map_in roads order) t down z
aim-estimated {order} {down = down} {e} {j = j} s roads p t a =
    let M = map_in roads order in
    subst (AimFacts M t down) (sym (s.exact roads p t a).1) (aim-filled M t (fills M j) down e (λ v u x y. fills-on M j v u x y) a)
