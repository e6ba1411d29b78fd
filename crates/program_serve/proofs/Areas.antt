-- The lengths of the parts of areas that a card is lent. Assumes nothing.
use mathlib.Core.Path.{◌∙◌, ◌≡◌, ap, ap₂, sym}
use mathlib.Core.List.{List}
use Prim.Native.Nat.{◌+◌, ◌≤◌, min, suc, ℕ}
use lib.ListN.{length, length-replicate, replicate, take}
use lib.Seq.{length-take-le}
use native.Mathlib.Numerals.{add-one}
use native.Mathlib.Omega.{arith}
use Rattle.model.specs.Areas.{Areas, areas_of, lengths}
use Rattle.program_shell.specs.Limits.{junction_limit, pair_words, road_limit}
use Rattle.program_shell.specs.Opening.{Lends, junction_room, lengths_for, road_room}

-- the first of so many zeros: as many as are asked for, at most all
first : (most : ℕ) {k : ℕ} → k ≤ most → k ≡ length {A = ℕ} (take k (replicate most 0))
first most {k} h = sym (length-take-le k (replicate most 0) (omega (arith, length-replicate {A = ℕ} most 0)))

module _ (most : ℕ) {k : ℕ} (x : ℕ) (e : k ≡ min x most) where
  pub part : k ≡ length {A = ℕ} (take k (replicate most 0))
  part = first most (omega (arith, e))

  -- of one more, one more
  pub part-more : k + 1 ≡ length {A = ℕ} (take (k + 1) (replicate (suc most) 0))
  part-more = first (suc most) (omega (arith, e))

-- the first n, m and n + 1 elements of areas of zeros
abbrev pub lent_areas : (n m : ℕ) → Areas
lent_areas n m =
    let junctions : List ℕ = take n (replicate junction_limit 0) in
    let roads : List ℕ = take m (replicate road_limit 0) in
    let records : List ℕ = replicate pair_words 0 in
    areas_of junctions records records roads junctions junctions junctions roads (take (n + 1) (replicate (suc junction_limit) 0))

-- they are what a card is lent
pub lends : (file : List ℕ) {n m : ℕ} → n ≡ junction_room file → m ≡ road_room file → Lends file (lent_areas n m)
lends file {n} {m} p q =
    let a = lengths (lent_areas n m) in
    let i = a.built.ranks in
    let j = a.live in
    let starts : a.built.groups ≡ suc i = sym (part-more junction_limit _ p) ∙ add-one n ∙ ap suc (part junction_limit _ p) in
    ap₂ (λ (k : ℕ) (g : ℕ). areas_of i k k j i i i j g) (length-replicate {A = ℕ} pair_words 0) starts
    ∙ ap₂ (λ (i : ℕ) (j : ℕ). lengths_for i pair_words j) (sym (part junction_limit _ p) ∙ p) (sym (part road_limit _ q) ∙ q)
