-- The header that C's words stand for meets the contract of go; C is told the words of what that hands back (`call-told`).
use Rattle.unit_c.proofs.Told.{call-told}
use Rattle.unit_c.proofs.unit_go.Goals as goal

pub returns : goal.returns
returns c = call-told c.go.result c.from-h.ensures c.from.ensures c.go.ensures
