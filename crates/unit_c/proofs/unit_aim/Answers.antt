-- The header that C's words stand for meets the contract of aim; C is told the words of what that hands back (`alone-told`).
use Rattle.unit_c.proofs.Told.{alone-told}
use Rattle.unit_c.proofs.unit_aim.Goals as goal

pub returns : goal.returns
returns c = alone-told c.aim.result c.from-h.ensures c.from.ensures c.aim.ensures
