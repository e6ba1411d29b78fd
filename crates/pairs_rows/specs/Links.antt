-- The roads between ranks, and the roads of each row as a linked list. Definitions only.
use Rattle.std.specs.Prelude.{◌≡◌, cond, List, ◌*◌, ◌+◌, ◌/◌, ◌<◌, ◌≤◌, min, suc, zero, ℕ, eqb, get_or, length}
use Rattle.std.proofs.Math.Option.{some}
use Rattle.graph.specs.Network.{Network}
use Rattle.model.specs.Limits.{most_roads, most_time}
use Rattle.model.specs.Bytes.{word_at}

-- the roads at their base times, between the ranks of their ends
abbrev pub net_in : (roads ranks : List ℕ) → Network
net_in roads ranks = record {
  arcs = length roads / 12;
  tail = λ i. get_or ranks (word_at roads (12 * i)) 0;
  head = λ i. get_or ranks (word_at roads (12 * i + 4)) 0;
  cost = λ i. some (word_at roads (12 * i + 8));
}

-- What the code asks of roads and ranks: the ends have ranks, which are below the number of ranks; base times are those of document 01.
pub record Ranked (roads ranks : List ℕ) : Type 0 where
  pub tails : (i : ℕ) → i < length roads / 12 → word_at roads (12 * i) < length ranks
  pub heads : (i : ℕ) → i < length roads / 12 → word_at roads (12 * i + 4) < length ranks
  pub named : (j : ℕ) → j < length ranks → get_or ranks j 0 < length ranks
  pub bases : (i : ℕ) → i < length roads / 12 → word_at roads (12 * i + 8) ≤ most_time
  pub most : length roads / 12 ≤ most_roads

-- the row of a road is the lower of its two ranks
abbrev pub row_of : Network → ℕ → ℕ
row_of N i = min (N.tail i) (N.head i)

-- one more than the last place below k where f gives r; 0 where there is none
abbrev pub last_of : (ℕ → ℕ) → ℕ → ℕ → ℕ
last_of f r zero = 0
last_of f r (suc i) = cond (eqb (f i) r) (suc i) (last_of f r i)

-- Of the roads below k: the last one of each of n rows, and before each road the last one of its row, counted from 1.
pub record Linked (N : Network) (n k : ℕ) (first next : List ℕ) : Type 0 where
  pub firsts : (r : ℕ) → r < n → get_or first r 0 ≡ last_of (row_of N) r k
  pub nexts : (i : ℕ) → i < k → get_or next i 0 ≡ last_of (row_of N) (row_of N i) i

-- the roads of every row are linked
pub record Grouped (roads ranks first next : List ℕ) : Type 0 where
  pub ranked : Ranked roads ranks
  pub linked : Linked (net_in roads ranks) (length ranks) (length roads / 12) first next
  pub firsts_in : length ranks ≤ length first
  pub nexts_in : length roads / 12 ≤ length next
