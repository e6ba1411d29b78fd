-- Which estimates a search asks: that of the start, and those of the heads of open roads from logged junctions. Definitions only.
use Rattle.std.specs.Prelude.{◌≡◌, true, ◌⊎◌, List, ◌*◌, ◌<◌, ◌≤◌, ℕ, get_or, length}
use Rattle.std.proofs.Math.Option.{some}
use Rattle.graph.specs.Network.{Network}
use Rattle.graph.specs.Search.{Entry, Problem, time_in}
use Rattle.graph.specs.Map.{Map, fills}
use Rattle.model.specs.Layout.{place_size, road_size}
use Rattle.model.specs.Limits.{most_junctions, most_pairs, most_roads}
use Rattle.model.specs.Areas.{record_size}
use Rattle.model.specs.Estimate.{Kept}
use Rattle.model.specs.Good.{AimFacts, Filled}
use Rattle.network.specs.declared.Sizes.{Sizes}
use Rattle.pairs_hierarchy.specs.Estimates.{Estimated}
use Rattle.search_junctions.specs.Groups.{IsGroup}
use Rattle.search_junctions.specs.State.{Given, Ready, go_given, map_given}

-- an open road, numbered below k, leads from u to a
pub record Leads (N : Network) (u k a : ℕ) : Type 0 where
  pub road : ℕ
  pub cost : ℕ
  pub below : road < k
  pub inside : road < N.arcs
  pub from : N.tail road ≡ u
  pub opens : N.cost road ≡ some cost
  pub to : N.head road ≡ a

-- The junctions whose estimates a search has asked after the history H: the start, and the heads of open roads from logged junctions other
-- than the target.
pub data Asked (G : Problem) (s z : ℕ) (H : List Entry) : ℕ → Type 0 where
  asked-start : {a : ℕ} → a ≡ s → Asked G s z H a
  asked-head : {a : ℕ} (u t : ℕ) → (u ≡ z → ⊥) → time_in H u ≡ some t → Leads G.net u G.net.arcs a → Asked G s z H a

-- these, and the heads of u's open roads numbered below k
abbrev pub AskedTo : (G : Problem) (s z : ℕ) (H : List Entry) (u k : ℕ) → ℕ → Type 0
AskedTo G s z H u k a = Asked G s z H a ⊎ Leads G.net u k a

-- The estimates of the asked junctions, A, and of those above them are filled; the others are as they were in e₀.
pub record Filling (M : Map) (z : ℕ) (A : ℕ → Type 0) (down e₀ e : List ℕ) : Type 0 where
  pub aims : AimFacts M z down e
  pub size : length e ≡ M.vertices
  pub right : (a : ℕ) → a < M.vertices → A a → Filled M z e a
  pub kept : (v : ℕ) → v < M.vertices → ((a : ℕ) → a < M.vertices → A a → fills M a v ≡ true → ⊥) → get_or e v 0 ≡ get_or e₀ v 0

-- lengths of what an estimate goes over
pub record PairsIn (z : Sizes) (order ranks pairs times down estimates : List ℕ) : Type 0 where
  pub n-high : z.n ≤ most_junctions
  pub count-high : z.pairs ≤ most_pairs
  pub order_is : length order ≡ place_size * z.n
  pub ranks_are : length ranks ≡ z.n
  pub pairs_are : record_size * z.pairs ≤ length pairs
  pub times_are : record_size * z.pairs ≤ length times
  pub down_is : length down ≡ z.n
  pub estimates_are : length estimates ≡ z.n

-- of what is given to the search: these lengths, and what an estimate of j answers and fills
abbrev pub PairsOver : Given → (estimates : List ℕ) → Type 0
PairsOver g = PairsIn g.sizes g.order g.ranks g.pairs g.times g.down

abbrev pub EstimatedOver : Given → (e e' : List ℕ) (j v : ℕ) → Type 0
EstimatedOver g = Estimated g.order g.ranks g.pairs g.times g.sizes.pairs g.down

-- these lengths, and those of the roads and their times in force
pub record EstimatesIn (g : Given) (e : List ℕ) : Type 0 where
  pub over : PairsOver g e
  pub m-high : g.sizes.m ≤ most_roads
  pub roads_are : length g.roads ≡ road_size * g.sizes.m
  pub live-is : length g.live ≡ g.sizes.m

-- the heads of u's open roads from number k up to l are asked
pub record Asks (g : Given) (u k l : ℕ) (e e' : List ℕ) : Type 0 where
  -- on any contents: what is filled stays
  pub kept : Kept e e'
  -- in a state that is ready
  pub exact : (s z : ℕ) (H : List Entry) (e₀ : List ℕ) → Ready g s z
      → Filling (map_given g) z (AskedTo (go_given g s z) s z H u k) g.down e₀ e
      → Filling (map_given g) z (AskedTo (go_given g s z) s z H u l) g.down e₀ e'

-- the heads of a group's open roads are asked
pub record AsksGroup (g : Given) (group e e' : List ℕ) : Type 0 where
  -- on any contents: what is filled stays
  pub kept : Kept e e'
  -- where the group is u's
  pub exact : (u : ℕ) → IsGroup g.roads g.sizes.m u group → Asks g u 0 g.sizes.m e e'
