-- The order is short by question 4, and has as many places as the map junctions (`junctions`).
use mathlib.Core.Path.{sym}
use lib.ListN.{length}
use native.Mathlib.Omega.{arith}
use Rattle.model.proofs.Accept.{sizes-facts}
use Rattle.card_sections.proofs.Roads.{junctions}
use Rattle.card_sections.proofs.BodiesMapRows.junctions.Goals as goal

pub overflow_cast-result : goal.overflow_cast-result
overflow_cast-result c =
    let b = c.args.self.now in
    omega (arith, (sizes-facts (length b.roads.now) (length b.order.now) c.requires).order-high)

pub returns-clause-is : goal.returns-clause-is
returns-clause-is c = sym (junctions c.args.self.now.roads.now c.args.self.now.order.now)

pub returns-clause-few : goal.returns-clause-few
returns-clause-few c =
    let b = c.args.self.now in
    omega (arith, (sizes-facts (length b.roads.now) (length b.order.now) c.requires).order-high)
