-- A space, and the decimal digits after it, are the text of one number (`spaced-put`).
use Rattle.line_texts.proofs.Areas.{spaced-put}
use Rattle.line_texts.proofs.Out.spaced.Goals as goal

pub returns : goal.returns
returns c = spaced-put _ c.byte.ensures c.number.ensures
