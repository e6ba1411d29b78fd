-- What the tests of roads and of sizes answer. Assumes nothing.
use mathlib.Core.Path.{◌∙◌, ◌≡◌, ap, sym}
use mathlib.Core.Bool.{Bool, false, true}
use mathlib.Core.Option.{none, some}
use mathlib.Core.List.{List}
use Prim.Native.Nat.{◌*◌, ◌+◌, ◌/◌, ◌<◌, ◌≤◌, zero-le, ℕ}
use lib.ListN.{get_or, length}
use native.Mathlib.Nat.{div-div-eq-div-mul}
use native.Mathlib.Omega.{arith}
use Rattle.model.specs.Bytes.{word_at}
use Rattle.model.specs.Layout.{place_size, road_size}
use Rattle.model.specs.Card.{Rows, map_of, road_fits, road_ok}
use Rattle.model.proofs.Laws.{listed-length}
use Rattle.card_sections.proofs.Firsts.{failing, first_found, first-start, first-turn}
use Rattle.network.specs.Bodies.{map_in}

-- the test of road i, from its words
pub road-known : (r : Rows) (i : ℕ) {n t h b : ℕ} {x : Bool} → n ≡ length r.order → t ≡ get_or r.roads (3 * i) 0
    → h ≡ get_or r.roads (3 * i + 1) 0 → b ≡ get_or r.roads (3 * i + 2) 0 → x ≡ road_fits n t h b → road_ok r i ≡ x
road-known r i en et eh eb e = rw (← en, ← et, ← eh, ← eb) (sym e)

-- how many junctions and roads the bodies hold
pub junctions : (roads order : List ℕ) → (map_in roads order).vertices ≡ length order / place_size
junctions roads order = listed-length (length order / 4) (λ i. word_at order (0 + 4 * i))

pub arcs : (roads order : List ℕ) → (map_in roads order).base.arcs ≡ length roads / road_size
arcs roads order =
    ap (λ (x : ℕ). x / 3) (listed-length (length roads / 4) (λ i. word_at roads (0 + 4 * i))) ∙ div-div-eq-div-mul (length roads) 4 3

-- road i of a body ends within it
pub road-within : (roads order : List ℕ) (i : ℕ) → i < (map_in roads order).base.arcs → road_size * i + road_size ≤ length roads
road-within roads order i below = omega (arith, arcs roads order, below)

-- ---- the loop over the roads: the first i of m roads pass

pub record RoadsPass (r : Rows) (n m i : ℕ) : Type 0 where
  pub n-is : n ≡ (map_of r).vertices
  pub m-is : m ≡ (map_of r).base.arcs
  pub in_roads : i ≤ m
  pub passed : failing (road_ok r) i ≡ none

module _ {r : Rows} {n m : ℕ} where
  pub roads-start : n ≡ (map_of r).vertices → m ≡ (map_of r).base.arcs → RoadsPass r n m 0
  roads-start en em = record { n-is = en; m-is = em; in_roads = zero-le; passed = first-start (road_ok r) }

  pub roads_fail : {i : ℕ} → RoadsPass r n m i → i < m → road_ok r i ≡ false → some i ≡ failing (road_ok r) (map_of r).base.arcs
  roads_fail {i} p l e = sym (first_found (road_ok r) i (map_of r).base.arcs (omega (arith, p.m-is)) p.passed e)

  pub roads-turn : {i : ℕ} → RoadsPass r n m i → i < m → road_ok r i ≡ true → RoadsPass r n m (i + 1)
  roads-turn {i} p l e =
      record { n-is = p.n-is; m-is = p.m-is; in_roads = omega arith; passed = first-turn (road_ok r) i p.passed e }

  pub roads-end : {i : ℕ} → RoadsPass r n m i → m ≤ i → none ≡ failing (road_ok r) (map_of r).base.arcs
  roads-end {i} p k =
      let all : i ≡ (map_of r).base.arcs = omega (arith, p.m-is, p.in_roads) in
      sym (rw all at p.passed)
