-- The header that C's words stand for meets the contract of preview; C is told the words of what that hands back (`preview-told`).
use Rattle.unit_c.proofs.Told.{preview-told}
use Rattle.unit_c.proofs.unit_preview.Goals as goal

pub returns : goal.returns
returns c = preview-told c.preview.result c.from-h.ensures c.from.ensures c.preview.ensures
