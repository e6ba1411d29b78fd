-- The newline follows the text of the answer, which was put where nothing was written yet (`added_then`, `added-written`).
use Rattle.std.proofs.Common.{refl, rules}
use Rattle.line_texts.specs.Outs.{added-written, added_then}
use Rattle.line_console.proofs.write_answer.Goals as goal

pub returns : goal.returns
returns c = added-written refl (search rules) (added_then c.put_answer.ensures c.byte.ensures)
