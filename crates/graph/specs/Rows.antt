-- The kept pairs in their order: the pairs of one lower rank stand together. Definitions; what is proved of them stands in
-- proofs/Rows.antt.
use Rattle.std.specs.Prelude.{◌≡◌, ◌⊎◌, ◌<◌, ◌≤◌, ℕ}
use Rattle.std.proofs.Math.Option.{some}
use mathlib.Core.List.{List, Memᴰ}
use Rattle.graph.specs.Total.{Total}
use Rattle.graph.specs.Lists.{Ordered}
use Rattle.graph.specs.Records.{Pair}
use Rattle.graph.specs.Map.{Map, down_of, rank, up_of}

-- document 01: records "ascend by low, then high"
abbrev pub Before : Pair → Pair → Type 0
Before p q = (p.low < q.low) ⊎ ((p.low ≡ q.low) × (p.high < q.high))

abbrev pub Ascend : Pair → Pair → Type 0
Ascend p q = p.low ≤ q.low

-- ---- the list of the kept pairs is the one of document 01

-- the record of two junctions: "rank of low, rank of high, up, down"
abbrev pub record_of : Map → (low high : ℕ) → Pair
record_of M low high = record { low = rank M low; high = rank M high; up_time = up_of M low high; down_time = down_of M low high }

-- "either time exists"
abbrev pub Timed : (up_time down_time : Total) → Type 0
Timed x y = ((t : ℕ) × (x ≡ some t)) ⊎ ((t : ℕ) × (y ≡ some t))

-- p is the record of two junctions whose pair is kept, low the one of smaller rank
pub record KeptPair (M : Map) (p : Pair) : Type 0 where
  pub low : ℕ
  pub high : ℕ
  pub low_below : low < M.vertices
  pub high-below : high < M.vertices
  pub ranked : rank M low < rank M high
  pub timed : Timed (up_of M low high) (down_of M low high)
  pub is : p ≡ record_of M low high

-- every kept pair stands in l, nothing else does, and l ascends, so that none stands twice
pub record KeptPairs (M : Map) (l : List Pair) : Type 0 where
  pub all : (p : Pair) → KeptPair M p → Memᴰ p l
  pub only : (p : Pair) → Memᴰ p l → KeptPair M p
  pub ascending : Ordered Before l
