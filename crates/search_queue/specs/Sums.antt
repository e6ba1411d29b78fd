-- The sums that are kept of a search (document 02, A4: "each kept sum is proved to be its candidate's key at every choice"). Definitions
-- only.
use Rattle.std.specs.Prelude.{◌≡◌, IfSome, List, None, Option, Some, ◌<◌, ◌≤◌, ℕ}
use Rattle.std.proofs.Math.Option.{none, some}
use Rattle.graph.specs.Search.{Entry, Problem}
use Rattle.graph.specs.Choice.{Candidate, NextIs}
use Rattle.search_queue.specs.Order.{Chosen, Order, Waiting, most_nodes}
use Rattle.search_queue.specs.Tree.{Tournament}

-- v with its kept time and its kept sum
abbrev pub entry_in : (times : ℕ → ℕ) → Order → (v : ℕ) → Entry
entry_in times o v = record { vertex = v; time = times v; key = o.key v }

-- Every candidate's kept sum is its key, its time plus its estimate (`Candidate` `key-is`), and nothing else is a candidate. What decides
-- between equal keys is the search's rule, of the kept time (`ties`).
pub record SumsKept (G : Problem) (H : List Entry) (times : ℕ → ℕ) (o : Order) : Type 0 where
  pub kept : (v : ℕ) → v < G.size → Waiting o v → Candidate G H (entry_in times o v)
  pub waits : (d : Entry) → Candidate G H d → Waiting o d.vertex
  pub ties : (v : ℕ) → v < G.size → o.tie v ≡ G.tie (times v)

-- what the definition logs next: nothing, and then v is n, or v
pub data NextAt (G : Problem) (H : List Entry) (times : ℕ → ℕ) (o : Order) (n v : ℕ) : Type 0 where
  no-next : v ≡ n → NextIs G H none → NextAt G H times o n v
  next-at : v < n → Waiting o v → NextIs G H (some (entry_in times o v)) → NextAt G H times o n v

-- What is chosen of n nodes, whatever the order of which the room has the tournament.
pub record Choice (n : ℕ) (room : List ℕ) (v : ℕ) : Type 0 where
  pub by_order : (o : Order) → 0 < n → n ≤ most_nodes → Tournament o n room → Chosen o n v
  -- given that every candidate's sum is kept, it is what the definition logs next
  pub by-sums : (G : Problem) (H : List Entry) (times : ℕ → ℕ) (o : Order) → G.size ≡ n → 0 < n → n ≤ most_nodes → Tournament o n room
      → SumsKept G H times o → NextAt G H times o n v

-- the node that is picked, or n
abbrev pub picked : (n : ℕ) → Option ℕ → ℕ
picked n None = n
picked n (Some v) = v

-- What is picked of n nodes, if one is left: the choice, and in a tournament that is right it is one of the n.
pub record Picks (n : ℕ) (room : List ℕ) (r : Option ℕ) : Type 0 where
  pub choice : Choice n room (picked n r)
  pub inside : (o : Order) → 0 < n → n ≤ most_nodes → Tournament o n room → IfSome r (λ v. v < n)
