-- The roads of a junction as a part of the roads by tail (document 02, A1). Definitions only.
use Rattle.std.specs.Prelude.{◌≡◌, List, ◌-◌, min, ℕ, drop, length, take}
use Rattle.graph.specs.ByTail.{group_of}
use Rattle.road_groups.specs.Lending.{tail_in}

-- from a up to b, what lies of it within the area
abbrev pub part_of : (leaving : List ℕ) (a b : ℕ) → List ℕ
part_of l a b =
    let end = min b (length l) in
    let start = min a end in
    take (end - start) (drop start l)

-- the group is that of u
pub record IsGroup (roads : List ℕ) (m u : ℕ) (group : List ℕ) : Type 0 where
  pub group_is : group ≡ group_of (tail_in roads) m u
