-- The row of a rank r: its times with the ranks above it, upwards and downwards, and which blocks of 32 ranks they touch. Definitions only.
use Rattle.std.specs.Prelude.{◌≡◌, List, ◌*◌, ◌/◌, ◌<◌, ◌≤◌, ℕ, get_or, length}
use Rattle.graph.specs.Total.{Total, ◌⊓◌}
use Rattle.graph.specs.Network.{Network, cost_between, direct}
use Rattle.model.specs.Limits.{most_junctions}
use Rattle.model.specs.Word.{none_word, word}
use Rattle.network.specs.Width.{fit}
use Rattle.pairs_rows.specs.Links.{row_of}

-- the ranks of a block, and the blocks of as many ranks as there are
abbrev pub block : ℕ
block = 32

abbrev pub most_blocks : ℕ
most_blocks = most_junctions / block

-- of a row of n entries, those above r are the words of x, where it fits
pub record Row (r n : ℕ) (row : List ℕ) (x : ℕ → Total) : Type 0 where
  pub wide : n ≤ length row
  pub at : (h : ℕ) → r < h → h < n → get_or row h 0 ≡ word (fit (x h))

-- in a block that is not touched, all times above r are none
pub record Marked (r n : ℕ) (touched ups downs : List ℕ) : Type 0 where
  pub wide : n ≤ block * length touched
  pub ups-none : (h : ℕ) → r < h → h < n → get_or touched (h / block) 0 ≡ 0 → get_or ups h 0 ≡ none_word
  pub downs-none : (h : ℕ) → r < h → h < n → get_or touched (h / block) 0 ≡ 0 → get_or downs h 0 ≡ none_word

-- a road relaxes the times of its row: upwards to its head, or downwards from its tail
pub record RoadRelaxed (N : Network) (n i : ℕ) (ups downs touched ups' downs' touched' : List ℕ) : Type 0 where
  pub ups-by : (x : ℕ → Total) → Row (row_of N i) n ups x → Row (row_of N i) n ups' (λ h. x h ⊓ cost_between N (row_of N i) h i)
  pub downs-by : (y : ℕ → Total) → Row (row_of N i) n downs y → Row (row_of N i) n downs' (λ h. y h ⊓ cost_between N h (row_of N i) i)
  pub marks : (r m : ℕ) → Marked r m touched ups downs → Marked r m touched' ups' downs'

-- the row of r has the times of single roads
pub record RoadTimes (N : Network) (r n : ℕ) (ups downs touched : List ℕ) : Type 0 where
  pub ups_are : Row r n ups (λ h. direct N r h)
  pub downs_are : Row r n downs (λ h. direct N h r)
  pub marked : Marked r n touched ups downs
