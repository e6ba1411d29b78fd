-- The tournament of the candidates, a tree over n nodes in the first 2 n places of a room: place 1 is the root, under place p are 2 p and
-- 2 p + 1, and node v has place n + v. A place holds a word: that of the first candidate under it, or a word that is no candidate's.
-- Behind these places stands a word for each node, which decides between equal keys. Definitions only.
use Rattle.std.specs.Prelude.{◌≡◌, Bool, cond, List, ◌%◌, ◌*◌, ◌+◌, ◌/◌, ◌<◌, ◌≤◌, min, ℕ, leb, get_or}
use Rattle.graph.specs.Search.{below_or}
use Rattle.search_queue.specs.Order.{Before, Order, SameBut, Waiting, by_key, key_in, key_unit, most_nodes, settled_key, tie_in}

-- two numbers in a word, such as the time and the arc of a label
abbrev pub word_of : (upper lower : ℕ) → ℕ
word_of upper lower = upper * most_nodes + lower

-- so many times share a part: in tenths of a second, the parts reach to 54 minutes, and tell times apart that differ by 0.8 s
abbrev pub part_times : ℕ
part_times = 8

-- the part of a time that a word of the tree has
abbrev pub part_of : ℕ → ℕ
part_of t = min (t / part_times) 4095

-- the word of a candidate v: its key, a part of its tie, and its number
abbrev pub placed_of : (key tie v : ℕ) → ℕ
placed_of key tie v = word_of (key * 4096 + part_of tie) v

-- the word x comes before y, or is y: by the smaller key, then by the ties of the nodes, then by the smaller number; of two words that are
-- no candidates' the smaller
unfoldable pub before : (tie : ℕ → ℕ) (x y : ℕ) → Bool
before tie x y =
    below_or (x / key_unit) (y / key_unit)
    (cond (leb settled_key (x / key_unit)) (leb (x / most_nodes) (y / most_nodes))
    (below_or (tie (x % most_nodes)) (tie (y % most_nodes)) (leb (x % most_nodes) (y % most_nodes))))

-- of two words, the one that comes first
unfoldable pub better : (tie : ℕ → ℕ) (x y : ℕ) → ℕ
better tie x y = cond (before tie x y) x y

-- place p is q, or is above q
pub data Above (p : ℕ) : ℕ → Type 0 where
  here : Above p p
  higher : {q : ℕ} → 1 < q → Above p (q / 2) → Above p q

-- what place p holds: of the candidates under it the first
pub data Holds (o : Order) (n p : ℕ) : ℕ → Type 0 where
  nobody : {w : ℕ} → settled_key ≤ w / key_unit → ((v : ℕ) → v < n → Above p (n + v) → Waiting o v → ⊥) → Holds o n p w
  somebody : {w : ℕ} (u : ℕ) → w ≡ placed_of (o.key u) (o.tie u) u → u < n → Above p (n + u) → Waiting o u
      → ((v : ℕ) → v < n → Above p (n + v) → Waiting o v → Before o u v) → Holds o n p w

-- every place holds what it should
abbrev pub Tournament : (o : Order) (n : ℕ) (room : List ℕ) → Type 0
Tournament o n room = (p : ℕ) → 0 < p → p < 2 * n → Holds o n p (get_or room p 0)

-- if the word w is a candidate's, it tells one of n nodes, and a part of its tie
abbrev pub Tells : (n : ℕ) (tie : ℕ → ℕ) (w : ℕ) → Type 0
Tells n tie w = w / key_unit < settled_key → (w % most_nodes < n) × (w / most_nodes % 4096 ≡ part_of (tie (w % most_nodes)))

-- the word w has that key for v, and if it makes v a candidate it is a candidate's word
pub record Own (n v key : ℕ) (room : List ℕ) (w : ℕ) : Type 0 where
  pub key-is : w / key_unit ≡ key
  pub placed : key < settled_key → w ≡ placed_of key (tie_in n room v) v

-- every place did so before something of v changed
pub record Changed (o : Order) (n v : ℕ) (room : List ℕ) : Type 0 where
  pub old : Order
  pub same : SameBut n v old o
  pub right : Tournament old n room

-- the key of v is put: its own place has it; no other node's place and no word behind the tree is altered
pub record Put (n v key : ℕ) (l l' : List ℕ) : Type 0 where
  pub own : key_in n l' v ≡ key
  pub others : (q : ℕ) → n ≤ q → (q ≡ n + v → ⊥) → get_or l' q 0 ≡ get_or l q 0
  pub right : Tournament (by_key n l') n l'
