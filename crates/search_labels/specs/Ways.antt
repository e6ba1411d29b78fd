-- The way back over the arcs of the labels. Definitions only.
-- `begins v`: the way to v begins at v. `via v` is the last arc of the way to v, `before v` the vertex that it leads from.
use Rattle.std.specs.Prelude.{Bool, cond, List, [], ◌++◌, ◌∷◌, suc, zero, ℕ}

-- how many arcs lead back from v to where the way begins, of f at most
unfoldable pub arcs_back : (begins : ℕ → Bool) (before : ℕ → ℕ) (f v : ℕ) → ℕ
arcs_back begins before zero v = 0
arcs_back begins before (suc f) v = cond (begins v) 0 (suc (arcs_back begins before f (before v)))

-- the k arcs that lead back from v, the last one first found
unfoldable pub way_of : (via before : ℕ → ℕ) (k v : ℕ) → List ℕ
way_of via before zero v = []
way_of via before (suc k) v = way_of via before k (before v) ++ (via v ∷ [])
