-- The roads of a logged junction, relaxed one after the other: each offers its head a time (document 01: the search log). Definitions only.
use Rattle.std.specs.Prelude.{◌≡◌, List, ◌*◌, ◌+◌, ◌<◌, ◌≤◌, ℕ, get_or, length}
use Rattle.std.proofs.Math.Option.{some}
use Rattle.graph.specs.Search.{Entry, Problem, time_in}
use Rattle.graph.specs.History.{Reached}
use Rattle.model.specs.Limits.{most_roads}
use Rattle.model.specs.Word.{word}
use Rattle.model.specs.Layout.{road_size}
use Rattle.model.specs.Bytes.{word_at}
use Rattle.model.specs.Go.{live_of}
use Rattle.network.specs.declared.Sizes.{Sizes}
use Rattle.search_labels.specs.Labelling.{Ordered, labels_in}
use Rattle.search_labels.specs.Labelled.{Labels, Searchable}
use Rattle.search_junctions.specs.declared.Trip.{Trip}
use Rattle.search_junctions.specs.declared.Ways.{Ways}
use Rattle.search_junctions.specs.Views.{met}
use Rattle.search_junctions.specs.Groups.{IsGroup}

-- what is read: the roads, their times in force, and the estimates
pub record Read : Type 0 where
  pub sizes : Sizes
  pub roads : List ℕ
  pub live : List ℕ
  pub estimates : List ℕ

abbrev pub read_of : Trip → Ways → (estimates : List ℕ) → Read
read_of t w e = record { sizes = t.sizes; roads = w.roads.now; live = met t w.access.now w.live.now; estimates = e }

-- lengths of what is read
pub record ReadIn (r : Read) : Type 0 where
  pub m-high : r.sizes.m ≤ most_roads
  pub roads_are : length r.roads ≡ road_size * r.sizes.m
  pub live-is : length r.live ≡ r.sizes.m
  pub estimates_are : length r.estimates ≡ r.sizes.n

-- the arcs of the problem G are the roads, at their times in force
pub record Reads (G : Problem) (n : Sizes) (roads live : List ℕ) : Type 0 where
  pub size_is : G.size ≡ n.n
  pub arcs_are : G.net.arcs ≡ n.m
  pub tails : (i : ℕ) → i < n.m → G.net.tail i ≡ word_at roads (road_size * i)
  pub heads : (i : ℕ) → i < n.m → G.net.head i ≡ word_at roads (road_size * i + 4)
  pub costs : (i : ℕ) → G.net.cost i ≡ live_of live i

-- the estimates of the heads of u's open roads are known
abbrev pub Known : (G : Problem) (estimates : List ℕ) (u : ℕ) → Type 0
Known G e u = (i d : ℕ) → i < G.net.arcs → G.net.tail i ≡ u → G.net.cost i ≡ some d
    → get_or e (G.net.head i) 0 ≡ word (G.pot (G.net.head i))

-- The roads of u, whose time is t, are relaxed from number k up to j.
pub record Relaxes (r : Read) (u t k j : ℕ) (l l' : List ℕ) : Type 0 where
  -- on any contents: there is room
  pub room : Ordered r.sizes.n l'
  -- for any problem whose arcs are these roads: from the labels before these roads to those after them
  pub exact : (G : Problem) (H : List Entry) → Searchable G → Reads G r.sizes r.roads r.live → Reached G H → time_in H u ≡ some t
      → Known G r.estimates u → Labels G H u k (labels_in r.sizes.n l) → Labels G H u j (labels_in r.sizes.n l')

-- A group of roads, relaxed for a junction whose time is t.
pub record RelaxesGroup (r : Read) (group : List ℕ) (t : ℕ) (l l' : List ℕ) : Type 0 where
  -- on any contents: there is room
  pub room : Ordered r.sizes.n l'
  -- where the group is u's: all its roads are relaxed
  pub exact : (u : ℕ) → IsGroup r.roads r.sizes.m u group → Relaxes r u t 0 r.sizes.m l l'
