-- What is given to the search, and what it relies on. Definitions only.
use Rattle.std.specs.Prelude.{◌≡◌, true, List, ◌*◌, ◌<◌, ◌≤◌, ℕ, length}
use Rattle.model.specs.Layout.{place_size, road_size}
use Rattle.graph.specs.Search.{Problem}
use Rattle.graph.specs.Map.{Map}
use Rattle.model.specs.Limits.{most_junctions, most_pairs, most_roads}
use Rattle.model.specs.Areas.{record_size}
use Rattle.model.specs.Set.{settable}
use Rattle.model.specs.Go.{live_of, search_of}
use Rattle.network.specs.declared.Sizes.{Sizes}
use Rattle.network.specs.Bodies.{Prepared, map_in}
use Rattle.search_junctions.specs.declared.Atlas.{Atlas}
use Rattle.search_junctions.specs.declared.Trip.{Trip}
use Rattle.search_junctions.specs.Views.{met}

-- ---- what is given to the search: it reads this, and alters nothing of it
pub record Given : Type 0 where
  pub sizes : Sizes
  pub roads : List ℕ
  pub order : List ℕ
  pub ranks : List ℕ
  -- of the pairs, their ranks and their times
  pub pairs : List ℕ
  pub times : List ℕ
  -- the times that it goes by
  pub live : List ℕ
  pub down : List ℕ

abbrev pub given_of : Sizes → (roads order ranks pairs times live down : List ℕ) → Given
given_of n a b c d t e f = record { sizes = n; roads = a; order = b; ranks = c; pairs = d; times = t; live = e; down = f }

-- the same of what is lent to a trip, at the times that it goes by
abbrev pub given : Trip → Atlas → Given
given t a =
    given_of t.sizes a.ways.roads.now a.order.now a.ranks.now a.records.pairs.now a.records.times.now
    (met t a.ways.access.now a.ways.live.now) a.down.now

-- the map that the bodies hold, and document 01's search on it
abbrev pub map_given : Given → Map
map_given g = map_in g.roads g.order

abbrev pub go_in : (roads order live : List ℕ) (s z : ℕ) → Problem
go_in roads order live s z = search_of (map_in roads order) live s z

abbrev pub go_given : Given → (s z : ℕ) → Problem
go_given g s z = go_in g.roads g.order g.live s z

-- ---- lengths

-- lengths of what is lent: n junctions, m roads, count pairs
pub record Sized (n m count : ℕ) (roads order ranks pairs times live down estimates elapsed : ℕ) : Type 0 where
  pub n-high : n ≤ most_junctions
  pub m-high : m ≤ most_roads
  pub count-high : count ≤ most_pairs
  pub roads_are : roads ≡ road_size * m
  pub order_is : order ≡ place_size * n
  pub ranks_are : ranks ≡ n
  pub pairs_are : record_size * count ≤ pairs
  pub times_are : record_size * count ≤ times
  pub live-is : live ≡ m
  pub down_is : down ≡ n
  pub estimates_are : estimates ≡ n
  pub elapsed-is : elapsed ≡ n

abbrev pub SizedIn : Given → (estimates elapsed : ℕ) → Type 0
SizedIn g = Sized g.sizes.n g.sizes.m g.sizes.pairs (length g.roads) (length g.order) (length g.ranks)
    (length g.pairs) (length g.times) (length g.live) (length g.down)

-- ---- what the search relies on

-- Preparing left ranks and pairs, each live time is one that set allows, start and target are junctions.
pub record Ready (g : Given) (s z : ℕ) : Type 0 where
  pub prepared : Prepared g.roads g.order g.ranks g.pairs g.times g.sizes.pairs
  pub times : (i : ℕ) → i < (map_given g).base.arcs → settable ((map_given g).base.cost i) (live_of g.live i) ≡ true
  pub n-is : (map_given g).vertices ≡ g.sizes.n
  pub m-is : (map_given g).base.arcs ≡ g.sizes.m
  pub start : s < g.sizes.n
  pub target : z < g.sizes.n
