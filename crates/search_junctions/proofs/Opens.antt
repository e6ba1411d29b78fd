-- A road as the code reads it, and what it is in the problem then: closed, leading to no junction, or open. Assumes nothing.
use mathlib.Core.Path.{◌∙◌, ◌≡◌, ap, sym}
use mathlib.Core.Bool.{false, true}
use mathlib.Core.Option.{none, some}
use mathlib.Core.List.{List}
use Prim.Native.Nat.{◌*◌, ◌+◌, ◌<◌, ◌≤◌, ℕ}
use borrow.Author.Tests.{eqb-true}
use lib.Dec.{eqb}
use lib.ListN.{get_or}
use native.Mathlib.Omega.{arith}
use Rattle.graph.specs.Search.{Problem}
use Rattle.model.specs.Word.{none_word, of_word}
use Rattle.model.proofs.Word.{of_word-none}
use Rattle.model.specs.Layout.{road_size}
use Rattle.model.specs.Bytes.{word_at}
use Rattle.network.specs.declared.Sizes.{Sizes}
use Rattle.search_labels.specs.Labelled.{Searchable}
use Rattle.search_junctions.specs.Relaxing.{Reads}

-- road i is open, w its time in force, and leads to junction h
pub record OpenRoad (z : Sizes) (roads live : List ℕ) (i w h : ℕ) : Type 0 where
  pub road_in : i < z.m
  pub time-is : w ≡ get_or live i 0
  pub open_is : eqb w none_word ≡ false
  pub head-is : h ≡ word_at roads (road_size * i + 4)
  pub head_in : h < z.n

module _ {G : Problem} {z : Sizes} {roads live : List ℕ} (reads : Reads G z roads live) where
  pub closed-cost : (i : ℕ) {w : ℕ} → w ≡ get_or live i 0 → eqb w none_word ≡ true → G.net.cost i ≡ none
  closed-cost i {w} w-is closed = reads.costs i ∙ ap of_word (sym w-is ∙ eqb-true w none_word closed) ∙ of_word-none

  -- the head of a road of a map is one of its junctions
  pub none_far : {i h : ℕ} → Searchable G → i < z.m → h ≡ word_at roads (road_size * i + 4) → z.n ≤ h → ⊥
  none_far {i} ok li h-is far =
      let b = ok.well_formed.inside.heads i (rw reads.arcs_are li) in
      omega (arith, b, reads.heads i li, reads.size_is)

  module _ {i w h : ℕ} (road : OpenRoad z roads live i w h) where
    pub open_arc : i < G.net.arcs
    open_arc = rw reads.arcs_are road.road_in

    pub open_tail : G.net.tail i ≡ word_at roads (road_size * i)
    open_tail = reads.tails i road.road_in

    pub open_head : G.net.head i ≡ h
    open_head = reads.heads i road.road_in ∙ sym road.head-is

    pub open_cost : G.net.cost i ≡ some w
    unfolding of_word
    open_cost = reads.costs i ∙ ap of_word (sym road.time-is) ∙ rw road.open_is
