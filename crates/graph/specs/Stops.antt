-- A list of stops (document 02, A3). Defines when a path meets the stops in their order, and the whole total of its legs. Definitions;
-- what is proved of them stands in proofs/Stops.antt.
use Rattle.std.specs.Prelude.{◌≡◌, ◌<◌, ℕ}
use Rattle.std.proofs.Math.Option.{some}
use mathlib.Core.List.{List, Memᴰ, [], ◌∷◌}
use Rattle.graph.specs.Total.{Total, ◌⊕◌}
use Rattle.graph.specs.Network.{Network}
use Rattle.graph.specs.Route.{Listed}

-- ---- definitions

-- The arcs lead on from u and meet the stops in that order: u is the first stop, and from there the others are met; or the first arc is
-- taken first. Equal neighbours may be met at one place.
pub data Meets (N : Network) : ℕ → (arcs stops : List ℕ) → Type 0 where
  all-met : {u : ℕ} {arcs : List ℕ} → Meets N u arcs []
  met-here : {u s : ℕ} {arcs stops : List ℕ} → u ≡ s → Meets N u arcs stops → Meets N u arcs (s ∷ stops)
  met-later : {u i : ℕ} {arcs stops : List ℕ} → Meets N (N.head i) arcs stops → Meets N u (i ∷ arcs) stops

-- a path of total t that meets the stops, wherever it begins and ends
pub record Meeting (N : Network) (stops : List ℕ) (t : ℕ) : Type 0 where
  pub from : ℕ
  pub to : ℕ
  pub path : Listed N from to t
  pub meets : Meets N from path.arcs stops

-- the legs' totals added up, from a stop through the further ones; `leg a b` is the total of the leg from a to b
abbrev pub whole_from : (leg : ℕ → ℕ → Total) → (stop : ℕ) → (stops : List ℕ) → Total
whole_from leg s [] = some 0
whole_from leg s (r ∷ stops) = leg s r ⊕ whole_from leg r stops

-- the stops are vertices
abbrev pub Below : ℕ → List ℕ → Type 0
Below n stops = (v : ℕ) → Memᴰ v stops → v < n
