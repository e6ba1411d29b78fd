-- A time that is none is put as `est none`, any other as `est` and its word.
use Rattle.std.proofs.Common.{sym, ◌∙◌}
use Rattle.model.specs.Word.{of_word}
use Rattle.line_answers.proofs.put_estimate.Goals as goal

pub returns-then-is_none : goal.returns-then-is_none
unfolding of_word
returns-then-is_none c = rw (sym c.is_none.ensures ∙ c.if-is_none.true) c.text.ensures

pub returns-else-is_none : goal.returns-else-is_none
unfolding of_word
returns-else-is_none c = rw (sym c.is_none.ensures ∙ c.if-is_none.false) c.named.ensures
