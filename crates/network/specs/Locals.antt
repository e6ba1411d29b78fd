-- An array that a function makes for itself: so many entries, all the same at first. Assumes nothing.
use Rattle.std.proofs.Common.{◌∙◌, sym, arith}
use Rattle.std.specs.Prelude.{◌≡◌, ◌<◌, ◌≤◌, ℕ, get_or, length, replicate}
use Rattle.std.proofs.lemmas.List.{get_or-replicate, length-replicate}

-- so many entries it keeps
pub counted : (k v : ℕ) {a : ℕ} → a ≡ length (replicate k v) → k ≡ a
counted k v e = sym (e ∙ length-replicate k v)

-- an entry of it as it is made
pub all_same : (k a n v : ℕ) → n ≤ k → v < n → get_or (replicate k a) v 0 ≡ a
all_same k a n v le l = get_or-replicate k v a 0 (omega arith)
