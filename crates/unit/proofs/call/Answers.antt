-- Each case is the method's own contract, with whatever is lent beside the areas (`as_asked`).
use Rattle.unit_questions.specs.Lending.{lent_of}
use Rattle.unit.proofs.Handed.{as_asked}
use Rattle.unit.proofs.call.Goals as goal

pub returns-in-Set : goal.returns-in-Set
returns-in-Set c = as_asked c.in-Set.is (c.set.ensures (lent_of c.args.route.now c.args.log.now))

pub returns-in-Aim : goal.returns-in-Aim
returns-in-Aim c = as_asked c.in-Aim.is (c.aim.ensures (lent_of c.args.route.now c.args.log.now))

pub returns-in-Estimate : goal.returns-in-Estimate
returns-in-Estimate c = as_asked c.in-Estimate.is (c.estimate.ensures (lent_of c.args.route.now c.args.log.now))

pub returns-in-Go : goal.returns-in-Go
returns-in-Go c = as_asked c.in-Go.is c.go.ensures
