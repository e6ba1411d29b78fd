-- The way back by the roads of the labels. Definitions only.
use Rattle.std.specs.Prelude.{cond, List, ◌*◌, ℕ, ltb}
use Rattle.model.specs.Layout.{road_size}
use Rattle.model.specs.Bytes.{word_at}

-- the tail of the road that gave v its time; v itself where there is none such
unfoldable pub step_back : (roads : List ℕ) (via : ℕ → ℕ) (n m v : ℕ) → ℕ
step_back roads via n m v =
    cond (ltb (via v) m) (cond (ltb (word_at roads (road_size * via v)) n) (word_at roads (road_size * via v)) v) v
