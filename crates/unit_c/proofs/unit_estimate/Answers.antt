-- The header that C's words stand for meets the contract of estimate; C is told the words of what that hands back (`alone-told`).
use Rattle.unit_c.proofs.Told.{alone-told}
use Rattle.unit_c.proofs.unit_estimate.Goals as goal

pub returns : goal.returns
returns c = alone-told c.estimate.result c.from-h.ensures c.from.ensures c.estimate.ensures
