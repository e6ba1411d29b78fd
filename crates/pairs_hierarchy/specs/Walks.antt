-- What the walk over the records of a rank answers and leaves. Definitions only.
use Rattle.std.specs.Prelude.{◌≡◌, Bool, cond, false, true, List, ◌*◌, ◌<◌, ℕ, eqb, ltb, get_or}
use Rattle.std.proofs.Math.Option.{none, some}
use Rattle.graph.specs.Total.{Total, ◌⊓◌, ◌⊕◌}
use Rattle.graph.specs.Least.{min_below}
use Rattle.graph.specs.Records.{Pair}
use Rattle.graph.specs.Estimate.{down_total, estimate}
use Rattle.graph.specs.Reach.{reaches}
use Rattle.graph.specs.Map.{Map, estimate_of, pairs_of, rank, weights}
use Rattle.model.specs.Word.{none_word, unasked, word}
use Rattle.model.specs.Bytes.{word_at}
use Rattle.model.specs.Estimate.{Kept, filled}
use Rattle.model.specs.Good.{AimFacts}
use Rattle.model.specs.Use.{pair_in}
use Rattle.network.specs.Width.{fit}
use Rattle.pairs_records.specs.Holds.{Holds}

-- ---- estimates by rank

-- the pair of record i
abbrev pub pair_at : Map → ℕ → Pair
pair_at M i = pair_in (pairs_of M) i

-- the estimate of the junction of rank r
abbrev pub estimate_at : Map → ℕ → ℕ → Total
estimate_at M t r = estimate (weights M) M.vertices (rank M t) r

-- its down total
abbrev pub down_at : Map → ℕ → ℕ → Total
down_at M t r = down_total (weights M) (rank M t) r

-- junction v has rank r, or is reached from there through up times
abbrev pub above : Map → ℕ → ℕ → Bool
above M r v = reaches (weights M) M.vertices r (rank M v)

-- the estimates of these junctions stand in z
abbrev pub AboveFilled : Map → (t r : ℕ) → List ℕ → Type 0
AboveFilled M t r z = (v : ℕ) → v < M.vertices → above M r v ≡ true → get_or z v 0 ≡ word (estimate_of M t v)

-- what record i gives to the estimate of rank r: its up time plus the estimate of the higher rank
abbrev pub over : Map → ℕ → ℕ → ℕ → Total
over M t r i =
    let p = pair_at M i in
    cond (eqb p.low r) (p.up_time ⊕ estimate_at M t p.high) none

-- the least of its down total and what the records below k give
abbrev pub least_below : Map → (t r k : ℕ) → Total
least_below M t r k = down_at M t r ⊓ min_below k (over M t r)

-- what stands in the estimates e for rank r: the entry of the junction that the order has there; none, if that is none of the n
unfoldable pub standing : (n : ℕ) (order e : List ℕ) (r : ℕ) → ℕ
standing n order e r = cond (ltb (word_at order (4 * r)) n) (get_or e (word_at order (4 * r)) 0) none_word

-- the estimate v of rank r
pub record Climbed (n : ℕ) (order pairs times : List ℕ) (count : ℕ) (down e z : List ℕ) (r v : ℕ) : Type 0 where
  pub kept : Kept e z
  -- on any contents: the answer is stored, and it is not the mark unasked; so no entry is walked twice
  pub stored : word_at order (4 * r) < n → get_or z (word_at order (4 * r)) 0 ≡ v
  pub answered : v ≡ unasked → ⊥
  pub exact : (M : Map) → Holds M n order pairs times count → (t : ℕ) → AimFacts M t down e
      → (v ≡ word (estimate_at M t r)) × (z ≡ filled M t (above M r) e)

-- where the walk over the records below k stands: the least over them, and all that they lead to filled
pub record Risen (M : Map) (t r k : ℕ) (down e z : List ℕ) (best : ℕ) : Type 0 where
  pub best-is : best ≡ word (fit (least_below M t r k))
  pub aims : AimFacts M t down z
  pub reached : (i c : ℕ) → i < k → (pair_at M i).low ≡ r → (pair_at M i).up_time ≡ some c → AboveFilled M t (pair_at M i).high z
  pub apart : (v : ℕ) → v < M.vertices → above M r v ≡ false → get_or z v 0 ≡ get_or e v 0

-- the walk over the records below k, from the down total
pub record Walked (n : ℕ) (order pairs times : List ℕ) (count : ℕ) (down e z : List ℕ) (r own k best : ℕ) : Type 0 where
  pub kept : Kept e z
  pub exact : (M : Map) → Holds M n order pairs times count → (t : ℕ) → AimFacts M t down e → own ≡ word (down_at M t r)
      → Risen M t r k down e z best
