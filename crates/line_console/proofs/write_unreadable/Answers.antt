-- The text is put where nothing was written yet (`added-written`).
use Rattle.std.proofs.Common.{refl, rules}
use Rattle.line_texts.specs.Outs.{added-written}
use Rattle.line_console.proofs.write_unreadable.Goals as goal

pub returns : goal.returns
returns c = added-written refl (search rules) c.text.ensures
