-- A word's numbers, the room in which nobody is a candidate (`fresh-room`), and a tournament that stays (`tournament_kept`). Assumes
-- nothing.
use Rattle.std.specs.Prelude.{◌≡◌, refl, List, ◌%◌, ◌*◌, ◌/◌, ◌<◌, ◌≤◌, ℕ, get_or}
use Rattle.std.proofs.Common.{arith}
use Rattle.search_queue.specs.Order.{Alike, Before, Chosen, Order, Waiting, blank_word, first-is, key_unit, most_nodes, none_left}
use Rattle.search_queue.specs.Order.{settled_key}
use Rattle.search_queue.specs.Tree.{Changed, Holds, Tournament, nobody, part_of, placed_of, somebody, word_of}

-- ---- words
module _ (k : ℕ) {w u : ℕ} (l : u < most_nodes) (e : w ≡ word_of k u) where
  pub word-key : w / most_nodes ≡ k
  word-key = omega arith

  pub word_number : w % most_nodes ≡ u
  word_number = omega arith

-- a candidate's word
module _ (k t : ℕ) {w u : ℕ} (l : u < most_nodes) (e : w ≡ placed_of k t u) where
  pub placed-key : w / key_unit ≡ k
  placed-key = omega arith

  pub placed-number : w % most_nodes ≡ u
  placed-number = omega arith

  pub placed-part : w / most_nodes % 4096 ≡ part_of t
  placed-part = omega arith

-- ---- the tree

-- no node is a candidate
pub fresh-room : (o : Order) (n : ℕ) (room : List ℕ) → ((p : ℕ) → 0 < p → p < 2 * n → get_or room p 0 ≡ blank_word)
    → ((v : ℕ) → v < n → settled_key ≤ o.key v)
    → Tournament o n room
fresh-room o n room empty none p low high =
    let blank : settled_key ≤ get_or room p 0 / key_unit = omega (arith, empty p low high) in
    nobody blank (λ v lv a w. let z = none v lv in omega arith)

-- where order and places are the same, so is what they hold
module _ {n : ℕ} {o o' : Order} (s : Alike n o o') where
  waiting-was : {u : ℕ} → u < n → Waiting o' u → Waiting o u
  waiting-was {u} l w = rw (s.keys_alike u l) at w

  before_same : {a b : ℕ} → a < n → b < n → Before o a b → Before o' a b
  before_same {a} {b} la lb p =
      let x = s.keys_alike a la in
      let y = s.keys_alike b lb in
      let x' = s.ties_alike a la in
      let y' = s.ties_alike b lb in
      record {
        keys-le = omega (arith, p.keys-le);
        ties-le = λ e. omega (arith, p.ties-le (omega arith));
        numbers = λ e t. p.numbers (omega arith) (omega arith);
      }

  holds_alike : {q x : ℕ} → Holds o n q x → Holds o' n q x
  holds_alike (nobody e f) = nobody e (λ u lu a w. f u lu a (waiting-was lu w))
  holds_alike {x = x} (somebody i e li ai wi best) =
      let k : x ≡ placed_of (o'.key i) (o'.tie i) i = rw (s.keys_alike i li, s.ties_alike i li) e in
      somebody i k li ai (rw (s.keys_alike i li) wi) (λ u lu a w. before_same li lu (best u lu a (waiting-was lu w)))

  pub tournament_kept : (room room' : List ℕ) → ((p : ℕ) → p < 2 * n → get_or room' p 0 ≡ get_or room p 0) → Tournament o n room
      → Tournament o' n room'
  tournament_kept room room' same right p low high = rw (same p high) (holds_alike (right p low high))

-- a tournament that is right may have a key of v put
pub unchanged : {o : Order} {n : ℕ} (v : ℕ) {room : List ℕ} → Tournament o n room → Changed o n v room
unchanged {o} v right = record { old = o; same = record { keys-same = λ u l ne. refl; ties-same = λ u l ne. refl }; right = right }

-- what is chosen is a node, or n
pub chosen-inside : {o : Order} {n i : ℕ} → Chosen o n i → i ≤ n
chosen-inside (none_left f) = omega arith
chosen-inside (first-is f) = omega (arith, f.inside)
