-- What the loop keeps stands in Invariants.antt.
use mathlib.Core.Path.{◌∙◌}
use Rattle.card_sections.proofs.Roads.{road-known, roads-end, roads_fail, roads-start, roads-turn}
use Rattle.card_sections.proofs.failing_road.Goals as goal

pub loop-i-init : goal.loop-i-init
loop-i-init g c = roads-start c.junctions-n.ensures.is c.road_count-m.ensures

pub returns-then-not-road_ok : goal.returns-then-not-road_ok
returns-then-not-road_ok g c =
    let road = c.road-road.ensures in
    let tested = road-known (g.M.MapRows.rows c.args.map.now) c.loop-i.i c.loop-i.invariant.n-is road.tail road.head road.base
    c.road_ok.ensures in
    roads_fail c.loop-i.invariant c.loop-i-test.true (tested ∙ c.if-not-road_ok.true)

pub loop-i-preserved : goal.loop-i-preserved
loop-i-preserved g c =
    let road = c.road-road.ensures in
    let tested = road-known (g.M.MapRows.rows c.args.map.now) c.loop-i.i c.loop-i.invariant.n-is road.tail road.head road.base
    c.road_ok.ensures in
    roads-turn c.loop-i.invariant c.loop-i-test.true (tested ∙ c.if-not-road_ok.false)

pub returns : goal.returns
returns g c = roads-end c.loop-i.invariant c.loop-i-test.false
