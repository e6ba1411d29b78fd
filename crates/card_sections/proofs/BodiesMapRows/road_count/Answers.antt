-- The roads are short by question 4, and as many as the map's (`arcs`).
use mathlib.Core.Path.{sym}
use lib.ListN.{length}
use native.Mathlib.Omega.{arith}
use Rattle.model.proofs.Accept.{sizes-facts}
use Rattle.card_sections.proofs.Roads.{arcs}
use Rattle.card_sections.proofs.BodiesMapRows.road_count.Goals as goal

pub overflow_cast-result : goal.overflow_cast-result
overflow_cast-result c =
    let b = c.args.self.now in
    omega (arith, (sizes-facts (length b.roads.now) (length b.order.now) c.requires).roads-high)

pub returns : goal.returns
returns c = sym (arcs c.args.self.now.roads.now c.args.self.now.order.now)
