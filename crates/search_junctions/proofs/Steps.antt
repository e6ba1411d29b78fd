-- One step of the way back. Assumes nothing.
use mathlib.Core.Path.{◌≡◌}
use mathlib.Core.List.{List}
use Prim.Native.Nat.{◌*◌, ◌<◌, ◌≤◌, ℕ}
use borrow.Author.Tests.{le-ltb, lt-ltb}
use Rattle.model.specs.Layout.{road_size}
use Rattle.model.specs.Bytes.{word_at}
use Rattle.search_junctions.specs.Ways.{step_back}

module _ (roads : List ℕ) (via : ℕ → ℕ) (n : ℕ) {m : ℕ} (v : ℕ) {i : ℕ} (i-is : i ≡ via v) where
  pub step-none : m ≤ i → v ≡ step_back roads via n m v
  unfolding step_back
  step-none h = rw (← i-is, le-ltb i m h)

  module _ {u : ℕ} (l : i < m) (e : u ≡ word_at roads (road_size * i)) where
    pub step_far : n ≤ u → v ≡ step_back roads via n m v
    unfolding step_back
    step_far h = rw (← i-is, lt-ltb i m l, ← e, le-ltb u n h)

    pub step-to : u < n → u ≡ step_back roads via n m v
    unfolding step_back
    step-to h = rw (← i-is, lt-ltb i m l, ← e, lt-ltb u n h)
