-- Proves that they are least totals (`up_least`, `down-least`), and how those of a rank come from the lower ranks (`up_law`,
-- `down_law`), which is contraction without a witness test. Assumes nothing.
use Rattle.std.proofs.Common.{◌∙◌, ap, sym, le-ltb, lt-ltb, arith}
use Rattle.std.specs.Prelude.{◌≡◌, refl, ◌<◌, ◌≤◌, suc, zero, ℕ}
use Rattle.std.proofs.Math.Option.{none, some}
use Rattle.std.proofs.Math.Decide.{dec_lt}
use Rattle.graph.specs.Total.{Total, ◌⊓◌, ◌⊕◌}
use Rattle.graph.proofs.Total.{none-some, ⊓-assoc, ⊓-none}
use Rattle.graph.specs.Least.{IsLeast, min_below}
use Rattle.graph.specs.Path.{Arcs, Inner, Weighs, Weights}
use Rattle.graph.specs.Level.{level}
use Rattle.graph.proofs.Level.{level-least}
use Rattle.graph.specs.Pairs.{up, down}

module _ (w : Weights) where
  pub up_at : (low high : ℕ) → low < high → up w low high ≡ level w low low high
  unfolding up
  up_at low high h = rw (lt-ltb low high h)

  pub down-at : (low high : ℕ) → low < high → down w low high ≡ level w low high low
  unfolding down
  down-at low high h = rw (lt-ltb low high h)

  pub up_none : (low high : ℕ) → high ≤ low → up w low high ≡ none
  unfolding up
  up_none low high h = rw (le-ltb low high h)

  pub down-none : (low high : ℕ) → high ≤ low → down w low high ≡ none
  unfolding down
  down-none low high h = rw (le-ltb low high h)

  pub up_lt : (low high c : ℕ) → up w low high ≡ some c → low < high
  up_lt low high c e = go (dec_lt low high)
    where
      go : Dec (low < high) → low < high
      go (yes h) = h
      go (no h) = absurd (none-some refl (sym (up_none low high (omega arith)) ∙ e))

  pub down_lt : (low high c : ℕ) → down w low high ≡ some c → low < high
  down_lt low high c e = go (dec_lt low high)
    where
      go : Dec (low < high) → low < high
      go (yes h) = h
      go (no h) = absurd (none-some refl (sym (down-none low high (omega arith)) ∙ e))

  -- one vertex v more, that ranks below both ends: the paths through v are a down time and an up time
  pub level-step : (v a b : ℕ) → v < a → v < b → level w (suc v) a b ≡ level w v a b ⊓ (down w v a ⊕ up w v b)
  level-step v a b ha hb = rw (down-at v a ha, up_at v b hb) refl

  -- the whole row at once
  pub level-min : (k a b : ℕ) → k ≤ a → k ≤ b → level w k a b ≡ w a b ⊓ min_below k (λ v. down w v a ⊕ up w v b)
  level-min zero a b ha hb = sym (⊓-none (w a b))
  level-min (suc k) a b ha hb =
      level-step k a b ha hb
      ∙ ap (λ (x : Total). x ⊓ (down w k a ⊕ up w k b)) (level-min k a b (omega arith) (omega arith))
      ∙ ⊓-assoc (w a b) (min_below k (λ v. down w v a ⊕ up w v b)) (down w k a ⊕ up w k b)

  pub up_law : (r h : ℕ) → r < h → up w r h ≡ w r h ⊓ min_below r (λ v. down w v r ⊕ up w v h)
  up_law r h lt = up_at r h lt ∙ level-min r r h (omega arith) (omega arith)

  pub down_law : (r h : ℕ) → r < h → down w r h ≡ w h r ⊓ min_below r (λ v. down w v h ⊕ up w v r)
  down_law r h lt = down-at r h lt ∙ level-min r h r (omega arith) (omega arith)

-- document 01's sentence; to rank below both is to rank below low
module _ {E : Arcs} {w : Weights} (least : Weighs E w) {low high : ℕ} (lt : low < high) where
  pub up_least : IsLeast (Inner E low low high) (up w low high)
  up_least = rw (up_at w low high lt) (level-least least low low high)

  pub down-least : IsLeast (Inner E low high low) (down w low high)
  down-least = rw (down-at w low high lt) (level-least least low high low)
