-- A turn goes from the last road of the list to the one before it, which its link names (`road_linked`).
use Prim.Native.Nat.{◌-◌, ◌<◌, ◌/◌}
use mathlib.Core.Path.{◌≡◌}
use native.Mathlib.Omega.{arith}
use lib.ListN.{get_or, length}
use Rattle.pairs_rows.specs.Steps.{back-less, before-arc, by_most, one_less}
use Rattle.pairs_rows.specs.Links.{last_of, net_in, row_of}
use Rattle.pairs_linking.proofs.Roads.{last_of-le, walked_end, walked_start, walked_turn}
use Rattle.pairs_linking.proofs.relax_roads.Goals as goal
use Rattle.pairs_linking.proofs.relax_roads.Goals.{In-loop-c}

pub loop-c-init : goal.loop-c-init
loop-c-init c =
    let asked = c.requires in
    walked_start (asked.grouped.linked.firsts c.args.r.0 asked.rank_in) asked.ups-none asked.downs-none asked.touched-long

-- the road of this turn, and what links it
road_in : (c : In-loop-c) → c.loop-c.c - 1 < length c.args.roads.now / 12
road_in c = before-arc c.loop-c.invariant.below c.loop-c-test.true

road_linked : (c : In-loop-c) → let N = net_in c.args.roads.now c.args.ranks.now in
    get_or c.args.links.now.next (c.loop-c.c - 1) 0 ≡ last_of (row_of N) (row_of N (c.loop-c.c - 1)) (c.loop-c.c - 1)
road_linked c = c.requires.grouped.linked.nexts (c.loop-c.c - 1) (road_in c)

pub relax_road-requires : goal.relax_road-requires
relax_road-requires c =
    let inv = c.loop-c.invariant in record {
      ranked = c.requires.grouped.ranked;
      road_in = road_in (goal.at.relax_road-requires c).In-loop-c;
      ups-long = inv.ups_are.wide;
      downs-long = inv.downs_are.wide;
      touched-long = inv.marked.wide;
    }

pub bounds-links-i : goal.bounds-links-i
bounds-links-i c =
    omega (arith, road_in (goal.at.bounds-links-i c).In-loop-c, c.requires.grouped.ranked.most)

pub loop-c-smaller : goal.loop-c-smaller
loop-c-smaller c =
    let rows = row_of (net_in c.args.roads.now c.args.ranks.now) in
    back-less (by_most (road_linked (goal.at.loop-c-smaller c).In-loop-c) (last_of-le rows _ _)) c.loop-c-test.true

pub loop-c-preserved : goal.loop-c-preserved
loop-c-preserved c =
    walked_turn (one_less c.loop-c-test.true) (road_linked (goal.at.loop-c-preserved c).In-loop-c) c.loop-c.invariant c.relax_road.ensures

pub returns : goal.returns
returns c =
    walked_end (omega (arith, c.loop-c-test.false)) c.loop-c.invariant
