-- The records in the two areas, read. Assumes nothing.
use Rattle.std.proofs.Common.{◌∙◌, ap, sym, get_or-take, not-suc-le-zero, arith}
use Rattle.std.specs.Prelude.{◌≡◌, refl, List, [], ◌∷◌, ◌*◌, ◌+◌, ◌<◌, suc, zero, ℕ, get_or, length, take}
use Rattle.graph.specs.Records.{Pair}
use Rattle.model.specs.Word.{word}
use Rattle.model.specs.Areas.{rank_words, record_size, time_words}
use Rattle.model.specs.Use.{RecordAt}
use Rattle.model.proofs.Use.{record_later}
use Rattle.pairs_fronts.specs.Fronts.{Holds}

records-at : (l : List Pair) (i : ℕ) (d : Pair) → i < length l → RecordAt (rank_words l) (time_words l) i (get_or l i d)
records-at [] i d h = absurd (not-suc-le-zero h)
records-at (p ∷ l) zero d h = record { low = refl; high = refl; ups = refl; downs = refl }
records-at (p ∷ l) (suc i) d h =
    record_later p.low p.high (word p.up_time) (word p.down_time) (records-at l i d (omega arith))

-- word j of the area, in the k words that it begins with
word_in : {words : List ℕ} (k : ℕ) (area : List ℕ) → take k area ≡ words → (j : ℕ) → j < k → get_or area j 0 ≡ get_or words j 0
word_in k area e j h = sym (get_or-take k area j 0 h) ∙ ap (λ (x : List ℕ). get_or x j 0) e

pub holds_at : {l : List Pair} {count : ℕ} {pairs times : List ℕ} → Holds l count pairs times → (i : ℕ) (d : Pair) → i < count
    → RecordAt pairs times i (get_or l i d)
holds_at {l} {count} {pairs} {times} s i d h =
    let r = records-at l i d (omega (arith, s.count-is)) in
    let k = record_size * count in
    record {
      low = word_in k pairs s.ranks_are (record_size * i) (omega arith) ∙ r.low;
      high = word_in k pairs s.ranks_are (record_size * i + 1) (omega arith) ∙ r.high;
      ups = word_in k times s.times_are (record_size * i) (omega arith) ∙ r.ups;
      downs = word_in k times s.times_are (record_size * i + 1) (omega arith) ∙ r.downs;
    }
