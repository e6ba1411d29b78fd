-- The sum of two times, by the ways through the code. Assumes nothing.
use mathlib.Core.Path.{◌≡◌}
use Prim.Native.Nat.{◌+◌, ◌-◌, ◌<◌, ◌≤◌, ℕ}
use native.Mathlib.Omega.{arith}
use Rattle.graph.specs.Total.{◌⊕◌}
use Rattle.graph.proofs.Total.{⊕-none}
use Rattle.model.specs.Word.{Reads, none_word, nothing, number, of_word, unasked, word}
use Rattle.model.proofs.Word.{of_word-none, of_word-some, reads}
use Rattle.network.specs.Width.{fit, fit_in, fit-out}

-- both are below the marks, and so is their sum
pub sum_fits : (x y : ℕ) → x < unasked → y < unasked - x → x + y ≡ word (fit (of_word x ⊕ of_word y))
sum_fits x y hx hy = rw (of_word-some x (omega arith), of_word-some y (omega arith), fit_in (x + y) (omega arith))

-- one is a mark, or the sum reaches past the marks
pub sum-lost : (x y : ℕ) → x ≤ none_word → y ≤ none_word → unasked ≤ x + y → none_word ≡ word (fit (of_word x ⊕ of_word y))
sum-lost x y hx hy h = go (reads x hx) (reads y hy)
  where
    go : Reads x → Reads y → none_word ≡ word (fit (of_word x ⊕ of_word y))
    go (nothing e) s = rw (e, of_word-none)
    go (number k) (nothing e) = rw (e, of_word-none, ⊕-none)
    go (number k) (number l) = rw (of_word-some x k, of_word-some y l, fit-out (x + y) h)
