-- relax: what its loop keeps stands in Invariants.antt.
use Rattle.search_junctions.proofs.Roads.{relaxing_end, relaxing_pass, relaxing_start, relaxing_turn}
use Rattle.search_junctions.specs.Rooms.{room-kept, same_start, same_trans}
use Rattle.search_junctions.proofs.Trip.relax.Goals.{else-road-self, then-road-self}
use Rattle.search_junctions.proofs.Trip.relax.Goals as goal

pub loop-road-init : goal.loop-road-init
loop-road-init c =
    (same_start, relaxing_start c.requires.1.ordered)

pub relax_road-requires : goal.relax_road-requires
relax_road-requires c =
    let (read, room) = c.requires in
    let (same, relaxing) = c.loop-road.invariant in
    (c.if-road-self.true, read, room-kept room same relaxing.room)

pub loop-road-preserved : goal.loop-road-preserved
loop-road-preserved c =
    let (same, relaxing) = c.loop-road.invariant in
    elim c.if-road-self.branch [
      | then-road-self w ↦ rw w.room-is (
        same_trans same w.relax_road.ensures.same,
        relaxing_turn c.loop-road-test.true relaxing w.relax_road.ensures.relaxed,
      )
      | else-road-self w ↦ rw w.room-is (same, relaxing_pass c.loop-road-test.true relaxing w.if-road-self.false)
    ]

pub returns : goal.returns
returns c =
    let (same, relaxing) = c.loop-road.invariant in
    record { relaxed = relaxing_end c.loop-road-test.false relaxing; same = same }
