-- How far one arc can move a least total (document 02, A8). Defines when a problem is another one with the arcs into one vertex slower
-- by at most d (`Delayed`). Definitions; what is proved of them stands in proofs/Delay.antt.
use Rattle.std.specs.Prelude.{◌≡◌, ◌⊎◌, true, ◌+◌, ◌≤◌, ℕ}
use Rattle.std.proofs.Math.Option.{none, some}
use Rattle.graph.specs.Total.{Total}
use Rattle.graph.specs.Network.{Arc}
use Rattle.graph.specs.Search.{Problem}

-- ---- definitions

-- y is x, later by at most d: both exist or neither does
abbrev pub Delays : (d : ℕ) → (x y : Total) → Type 0
Delays d none none = Unit {0}
Delays d none (some b) = ⊥
Delays d (some a) none = ⊥
Delays d (some a) (some b) = (a ≤ b) × (b ≤ a + d)

-- y is no more than c; or the place v is x, and y is no more than c + d
abbrev pub Late : (x d v c y : ℕ) → Type 0
Late x d v c y = (y ≤ c) ⊎ ((v ≡ x) × (y ≤ c + d))

-- G' has what G has, no slower but for the start time of x and the arcs into x, which are slower by at most d
pub record Delayed (G G' : Problem) (x d : ℕ) : Type 0 where
  pub starts : (v t : ℕ) → G.start v ≡ some t → (y : ℕ) × (G'.start v ≡ some y) × Late x d v t y
  pub arcs : (a b c : ℕ) → Arc G.net a b c → (y : ℕ) × Arc G'.net a b y × Late x d b c y
  pub goals : (v : ℕ) → G.goal v ≡ true → G'.goal v ≡ true

-- live costs of which none is larger, but for that of arc i, which is larger by at most d
abbrev pub Grown : (live live' : ℕ → Total) → (i d : ℕ) → Type 0
Grown live live' i d = (j t : ℕ) → live j ≡ some t → (y : ℕ) × (live' j ≡ some y) × Late i d j t y

-- "one open road's live time goes up by d and stays open": arc i, open at cost c; read backwards, "it goes down by d"
pub record Raised (live live' : ℕ → Total) (i c d : ℕ) : Type 0 where
  pub old : live i ≡ some c
  pub new : live' i ≡ some (c + d)
  pub others : (j : ℕ) → (j ≡ i → ⊥) → live' j ≡ live j
