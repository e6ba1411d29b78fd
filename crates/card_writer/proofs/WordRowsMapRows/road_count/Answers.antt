-- The roads are short by question 4 (`short`).
use lib.ListN.{length}
use native.Mathlib.Omega.{arith}
use Rattle.card_writer.proofs.Shortness.{short}
use Rattle.card_writer.proofs.WordRowsMapRows.road_count.Goals as goal

pub overflow_cast-result : goal.overflow_cast-result
overflow_cast-result c =
    let r = c.args.self.now in
    omega (arith, short (length r.roads.now) (length r.order.now) c.requires)
