-- What one record and the pass over all records leave of the down totals. Definitions only.
use Rattle.std.specs.Prelude.{None, Option, Some, ◌≡◌, List, ◌*◌, ◌<◌, ◌≤◌, min, ℕ, get_or, set, take}
use Rattle.graph.specs.Total.{◌⊕◌}
use Rattle.graph.specs.Folds.{hand, pass, seed}
use Rattle.graph.specs.Map.{Map, down_total_of, pairs_of, rank}
use Rattle.model.specs.Word.{none_word, of_word, word}
use Rattle.model.specs.Bytes.{listed, word_at}
use Rattle.network.specs.declared.Junction.{Junction}
use Rattle.network.specs.Width.{fit}
use Rattle.network.specs.Bodies.{Prepared, map_in}
use Rattle.pairs_records.specs.Holds.{Holds}
use Rattle.pairs_records.specs.Words.{down_in, high_in, low_in}

-- The down totals z for the target t.
pub record Descended (order pairs times : List ℕ) (count : ℕ) (z : List ℕ) (t : ℕ) : Type 0 where
  -- where preparing left the areas: the least totals over paths of down times, descending in rank to the target
  pub exact : (roads ranks : List ℕ) → Prepared roads order ranks pairs times count
      → z ≡ listed (map_in roads order).vertices (λ v. word (down_total_of (map_in roads order) t v))

-- what is found for rank r: the junction that the order has there, where r is one of the n ranks and that one of the n junctions
abbrev pub Found : (n : ℕ) (order : List ℕ) (r : ℕ) → Option Junction → Type 0
Found n order r (Some j) = (r < n) × (j.0 < n) × (j.0 ≡ word_at order (4 * r))
Found n order r None = (r < n) × (word_at order (4 * r) < n) → ⊥

-- the junctions of record i
abbrev pub lower_in : (order pairs : List ℕ) → ℕ → ℕ
lower_in order pairs i = word_at order (4 * low_in pairs i)

abbrev pub higher_in : (order pairs : List ℕ) → ℕ → ℕ
higher_in order pairs i = word_at order (4 * high_in pairs i)

-- Record i hands the total of its lower junction down to its higher one; d before, z after.
pub record Handed (n : ℕ) (order pairs times : List ℕ) (i : ℕ) (d z : List ℕ) : Type 0 where
  -- where its ranks are ranks, the order has junctions there, and the higher one's total is a word
  pub exact : low_in pairs i < n → high_in pairs i < n → lower_in order pairs i < n → higher_in order pairs i < n
      → get_or d (higher_in order pairs i) 0 ≤ none_word
      → z ≡ set d (higher_in order pairs i) (min (get_or d (higher_in order pairs i) 0)
      (word (fit (of_word (down_in times i) ⊕ of_word (get_or d (lower_in order pairs i) 0)))))

-- the totals d once the records below k have handed theirs down
pub record Descending (n : ℕ) (order pairs times : List ℕ) (count t k : ℕ) (d : List ℕ) : Type 0 where
  pub exact : (M : Map) → Holds M n order pairs times count → (v : ℕ) → v < M.vertices
      → get_or d v 0 ≡ word (fit (pass hand (take k (pairs_of M)) (seed (rank M t)) (rank M v)))
