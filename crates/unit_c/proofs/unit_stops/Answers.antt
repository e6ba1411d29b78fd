-- The header that C's words stand for meets the contract of a list of stops; C is told the words of what that hands back (`stops-told`).
use Rattle.unit_c.proofs.Told.{stops-told}
use Rattle.unit_c.proofs.unit_stops.Goals as goal

pub returns : goal.returns
returns c = stops-told c.stops.result c.from-h.ensures c.from.ensures c.stops.ensures
