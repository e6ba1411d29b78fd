-- The word of the four bytes from i on is summed as `word_at` sums them.
use mathlib.Core.Path.{◌∙◌}
use native.Mathlib.Omega.{arith}
use Rattle.model.specs.Bytes.{word_at}
use Rattle.network.proofs.word_at.Goals as goal

pub returns : goal.returns
unfolding word_at
returns c =
    c.from_le_bytes.ensures ∙ omega arith
