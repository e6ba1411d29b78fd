-- The row of a road is the lower of its two ranks, both of which have entries (`ends`). If that is the tail, the road leads up to its
-- head, else down from its tail (`road-up`, `road-down`).
use mathlib.Core.Path.{◌≡◌, ap, sym, refl}
use mathlib.Core.Option.{some}
use native.Mathlib.Omega.{arith}
use Rattle.pairs_rows.specs.Steps.{by_most, lt_le}
use Rattle.pairs_linking.proofs.Roads.{Road, ends, road-down, road-up}
use Rattle.pairs_linking.proofs.relax_road.Goals as goal
use Rattle.pairs_linking.proofs.relax_road.Goals.{After-base_of-t}

road_read : (c : After-base_of-t)
    → Road c.args.roads.now c.args.ranks.now c.args.i c.rank_of-a.result.0 c.rank_of-b.result.0 c.base_of-t.result.0
road_read c =
    let asked = c.requires in record {
      ends = ends asked.ranked asked.road_in c.tail_of.ensures c.rank_of-a.ensures c.head_of.ensures c.rank_of-b.ensures;
      cost-is = ap some (sym c.base_of-t.ensures);
      small = by_most c.base_of-t.ensures (asked.ranked.bases c.args.i asked.road_in);
    }

pub returns-then-a-b : goal.returns-then-a-b
returns-then-a-b c =
    let road = road_read (goal.at.returns-then-a-b c).After-base_of-t in
    let high : c.max-high.result ≡ c.rank_of-b.result.0 = omega (arith, c.max-high.ensures, c.if-a-b.true) in
    rw (c.relax_entry.ensures, c.mark.ensures, high)
    (road-up road c.if-a-b.true refl (lt_le road.ends.head-below c.requires.touched-long) refl)

pub returns-else-a-b : goal.returns-else-a-b
returns-else-a-b c =
    let road = road_read (goal.at.returns-else-a-b c).After-base_of-t in
    let high : c.max-high.result ≡ c.rank_of-a.result.0 = omega (arith, c.max-high.ensures, c.if-a-b.false) in
    rw (c.relax_entry-else-a-b.ensures, c.mark.ensures, high)
    (road-down road c.if-a-b.false refl (lt_le road.ends.tail-below c.requires.touched-long) refl)
