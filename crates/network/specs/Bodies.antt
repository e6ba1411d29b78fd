-- The map of two bodies of bytes, as the code holds it. Assumes nothing.
use Rattle.std.proofs.Common.{◌∙◌, ap, arith}
use Rattle.std.specs.Prelude.{◌≡◌, List, ◌*◌, ◌+◌, ◌/◌, ◌<◌, ◌≤◌, ℕ, get_or, length}
use Rattle.std.proofs.Math.Option.{none, some}
use Rattle.graph.specs.Network.{Arc}
use Rattle.graph.specs.Bound.{CostsAtMost}
use Rattle.graph.specs.Map.{Map, Valid, pairs_of, rank}
use Rattle.model.specs.Bytes.{listed, word_at}
use Rattle.model.specs.Limits.{most_junctions, most_roads, most_time}
use Rattle.model.specs.Layout.{place_size, road_size, words_in}
use Rattle.model.specs.Card.{bodies_refusal, map_of}
pub use Rattle.model.specs.Card.{rows_in}
use Rattle.model.specs.Areas.{record_size, records_in, times_in}
use Rattle.model.proofs.Laws.{listed_at, listed-length}
use Rattle.model.specs.Accept.{RoadFacts}
use Rattle.model.proofs.Accept.{rows-facts, rows-most, rows-valid, sizes-facts}

abbrev pub map_in : (roads order : List ℕ) → Map
map_in roads order = map_of (rows_in roads order)

-- Questions 4 to 6 pass. What the code below the calls asks of the bodies that it is lent.
pub record Sound (roads order : List ℕ) : Type 0 where
  pub passes : bodies_refusal roads order ≡ none

-- what follows of the map, of its sizes, and where its words stand
pub record MapFacts (roads order : List ℕ) : Type 0 where
  pub valid : Valid (map_in roads order)
  pub most : CostsAtMost (Arc (map_in roads order).base) most_time
  pub road : (i : ℕ) → i < (map_in roads order).base.arcs → RoadFacts (rows_in roads order) i
  pub roads_are : length roads ≡ road_size * (map_in roads order).base.arcs
  pub order_is : length order ≡ place_size * (map_in roads order).vertices
  pub vertices-low : 1 ≤ (map_in roads order).vertices
  pub vertices-high : (map_in roads order).vertices ≤ most_junctions
  pub arcs-high : (map_in roads order).base.arcs ≤ most_roads

pub map-facts : {roads order : List ℕ} → Sound roads order → MapFacts roads order
map-facts {roads} {order} s =
    let f = rows-facts (length roads) (length order) (rows_in roads order) s.passes in
    let z = sizes-facts (length roads) (length order) f.sizes in
    let n = listed-length (length order / 4) (λ i. word_at order (0 + 4 * i)) in
    let m = listed-length (length roads / 4) (λ i. word_at roads (0 + 4 * i)) in
    record {
      valid = rows-valid f;
      most = rows-most f;
      road = f.roads;
      roads_are = omega (arith, m, z.roads-whole);
      order_is = omega (arith, n, z.order-whole);
      vertices-low = omega (arith, n, z.order-whole, z.order-low);
      vertices-high = omega (arith, n, z.order-high);
      arcs-high = omega (arith, m, z.roads-high);
    }

-- ---- the map by its words

-- word k of a body
pub word_in : (s : List ℕ) (k : ℕ) → 4 * k + 4 ≤ length s → get_or (words_in s) k 0 ≡ word_at s (4 * k)
word_in s k h =
    let e : 0 + 4 * k ≡ 4 * k = omega arith in
    listed_at (length s / 4) (λ i. word_at s (0 + 4 * i)) k (omega arith) ∙ ap (word_at s) e

module _ (roads order : List ℕ) where
  pub tail_in_lem : (i : ℕ) → road_size * i + road_size ≤ length roads → (map_in roads order).base.tail i ≡ word_at roads (road_size * i)
  tail_in_lem i h = let e : 4 * (3 * i) ≡ road_size * i = omega arith in word_in roads (3 * i) (omega arith) ∙ ap (word_at roads) e

  pub head_in : (i : ℕ) → road_size * i + road_size ≤ length roads → (map_in roads order).base.head i ≡ word_at roads (road_size * i + 4)
  head_in i h = let e : 4 * (3 * i + 1) ≡ road_size * i + 4 = omega arith in word_in roads (3 * i + 1) (omega arith) ∙ ap (word_at roads) e

  pub base_in_lem : (i : ℕ) → road_size * i + road_size ≤ length roads
      → (map_in roads order).base.cost i ≡ some (word_at roads (road_size * i + 8))
  base_in_lem i h =
      let e : 4 * (3 * i + 2) ≡ road_size * i + 8 = omega arith in
      ap some (word_in roads (3 * i + 2) (omega arith) ∙ ap (word_at roads) e)

  pub junction_in : (k : ℕ) → place_size * k + place_size ≤ length order → (map_in roads order).order k ≡ word_at order (place_size * k)
  junction_in k h = word_in order k h

-- ---- what preparing leaves, as the code below the calls relies on it

-- ranks by junction number; the records of all kept pairs, ranks and times, then zeros; their number
pub record Prepared (roads order ranks pairs times : List ℕ) (count : ℕ) : Type 0 where
  pub sound : Sound roads order
  pub ranks_are : ranks ≡ listed (map_in roads order).vertices (rank (map_in roads order))
  pub count-is : count ≡ length (pairs_of (map_in roads order))
  pub pairs_are : pairs ≡ records_in (map_in roads order) (length pairs)
  pub times_are : times ≡ times_in (map_in roads order) (length times)
  pub room : record_size * count ≤ length pairs
  pub same-room : length times ≡ length pairs
