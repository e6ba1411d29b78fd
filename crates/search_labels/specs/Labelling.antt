-- A room for the labels of n nodes, and a label after one offer more. A room has 3 n words: the tournament of the keys, and for each node a
-- word of its time and the arc that gave it. Definitions only.
use Rattle.std.specs.Prelude.{◌≡◌, List, ◌%◌, ◌*◌, ◌+◌, ◌<◌, ◌≤◌, ℕ, get_or, length}
use Rattle.search_queue.specs.Order.{Order, by_key, key_in, most_nodes, most_upper, no_key, settled_key, tie_in}
use Rattle.search_queue.specs.Tree.{Tournament}

-- the time of a node that has none: a blank word's
abbrev pub no_time : ℕ
no_time = most_upper

-- each node's time, its key, and the arc that gave the time
pub record Labelling : Type 0 where
  pub times : ℕ → ℕ
  pub keys : ℕ → ℕ
  pub vias : ℕ → ℕ

-- what a room of n nodes holds
abbrev pub labels_in : (n : ℕ) (room : List ℕ) → Labelling
labels_in n room = record {
  times = tie_in n room;
  keys = key_in n room;
  vias = λ v. get_or room (2 * n + v) 0 % most_nodes;
}

-- the order of choice: by keys, then by times, then by numbers
abbrev pub order_of : (n : ℕ) (room : List ℕ) → Order
order_of = by_key

-- there is room for n nodes, and the tournament is that of their order
pub record Ordered (n : ℕ) (room : List ℕ) : Type 0 where
  pub n-high : n ≤ most_nodes
  pub words : 3 * n ≤ length room
  pub right : Tournament (order_of n room) n room

-- Arc i offers the time w to a node of estimate e, whose label is (t, q, j). Once logged, it stays. A smaller time takes the label over,
-- unless its sum with the estimate is no candidate's key, as where the estimate is none; of the arcs that give one time the smallest number
-- stays.
pub data Improved (w e i t q j : ℕ) : (time key via : ℕ) → Type 0 where
  settled : q ≡ settled_key → Improved w e i t q j t q j
  earlier : (q ≡ settled_key → ⊥) → w < t → w + e < settled_key → Improved w e i t q j w (w + e) i
  lost : (q ≡ settled_key → ⊥) → w < t → settled_key ≤ w + e → Improved w e i t q j t q j
  later : (q ≡ settled_key → ⊥) → t < w → Improved w e i t q j t q j
  tied : (q ≡ settled_key → ⊥) → w ≡ t → i < j → Improved w e i t q j t q i
  behind : (q ≡ settled_key → ⊥) → w ≡ t → j ≤ i → Improved w e i t q j t q j

-- a label's two words: its time and its arc, its key and a number
pub record Fits (time key via : ℕ) : Type 0 where
  pub time-low : time ≤ no_time
  pub key-low : key ≤ no_key
  pub via-low : via < most_nodes

-- the label of u is as it was
pub record SameLabel (n u : ℕ) (l l' : List ℕ) : Type 0 where
  pub key-word : get_or l' (n + u) 0 ≡ get_or l (n + u) 0
  pub label_word : get_or l' (2 * n + u) 0 ≡ get_or l (2 * n + u) 0

-- the label of v takes an offer, the others stay
pub record Taken (w e i n v : ℕ) (l l' : List ℕ) : Type 0 where
  pub improves : Improved w e i ((labels_in n l).times v) ((labels_in n l).keys v) ((labels_in n l).vias v)
      ((labels_in n l').times v) ((labels_in n l').keys v) ((labels_in n l').vias v)
  pub others : (u : ℕ) → u < n → (u ≡ v → ⊥) → SameLabel n u l l'
  pub room : Ordered n l'
