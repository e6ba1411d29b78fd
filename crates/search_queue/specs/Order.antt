-- The order in which candidates are chosen. Definitions only.
use Rattle.std.specs.Prelude.{◌≡◌, List, ◌*◌, ◌+◌, ◌/◌, ◌<◌, ◌≤◌, ℕ, get_or}

-- the key of a node that never was a candidate: that of a blank word
abbrev pub no_key : ℕ
no_key = 274877906943

-- the key of a logged node
abbrev pub settled_key : ℕ
settled_key = 274877906942

-- so many nodes the queue has room for
abbrev pub most_nodes : ℕ
most_nodes = 16384

-- the largest number that a word holds above that of a node
abbrev pub most_upper : ℕ
most_upper = 1125899906842623

-- a word of the tree has its key above so many numbers: 4,096 parts for each of `most_nodes`
abbrev pub key_unit : ℕ
key_unit = 67108864

-- a blank word, of which a fresh room is full
abbrev pub blank_word : ℕ
blank_word = 18446744073709551615

-- the key that is kept for node v of n, in the word at its own place
abbrev pub key_in : (n : ℕ) (room : List ℕ) (v : ℕ) → ℕ
key_in n room v = get_or room (n + v) 0 / key_unit

-- what decides between equal keys: the upper part of v's word behind the tournament, the search's time of v
abbrev pub tie_in : (n : ℕ) (room : List ℕ) (v : ℕ) → ℕ
tie_in n room v = get_or room (2 * n + v) 0 / most_nodes

-- What the choice goes by: the key of each node, and what decides between equal keys before the number does.
pub record Order : Type 0 where
  pub key : ℕ → ℕ
  pub tie : ℕ → ℕ

-- document 02, A5: the smallest key; "among equal keys the smaller time .. first, then the smaller .. number"
abbrev pub by_key : (n : ℕ) (room : List ℕ) → Order
by_key n room = record { key = key_in n room; tie = tie_in n room }

-- a comes before b, or is b
pub record Before (o : Order) (a b : ℕ) : Type 0 where
  pub keys-le : o.key a ≤ o.key b
  pub ties-le : o.key a ≡ o.key b → o.tie a ≤ o.tie b
  pub numbers : o.key a ≡ o.key b → o.tie a ≡ o.tie b → a ≤ b

-- v is a candidate
abbrev pub Waiting : Order → ℕ → Type 0
Waiting o v = o.key v < settled_key

-- the candidate i comes first of all
pub record FirstOf (o : Order) (n i : ℕ) : Type 0 where
  pub inside : i < n
  pub waits : Waiting o i
  pub best : (v : ℕ) → v < n → Waiting o v → Before o i v

-- what is chosen of n nodes: the first candidate, or n where none is left
pub data Chosen (o : Order) (n : ℕ) : ℕ → Type 0 where
  none_left : ((v : ℕ) → v < n → Waiting o v → ⊥) → Chosen o n n
  first-is : {i : ℕ} → FirstOf o n i → Chosen o n i

-- two orders of n nodes are the same
pub record Alike (n : ℕ) (o o' : Order) : Type 0 where
  pub keys_alike : (u : ℕ) → u < n → o'.key u ≡ o.key u
  pub ties_alike : (u : ℕ) → u < n → o'.tie u ≡ o.tie u

-- or are the same but at v
pub record SameBut (n v : ℕ) (o o' : Order) : Type 0 where
  pub keys-same : (u : ℕ) → u < n → (u ≡ v → ⊥) → o'.key u ≡ o.key u
  pub ties-same : (u : ℕ) → u < n → (u ≡ v → ⊥) → o'.tie u ≡ o.tie u
