-- At each turn the first candidate is logged, which is the one that the definition logs next, and gone on from unless it is the goal; so
-- as many turns as are counted make a history of so many entries (`running_goal`, `running_on`). The loop is left with the log complete or
-- the budget used up (`advances`).
use Prim.Native.Nat.{◌-◌, ◌<◌}
use Rattle.std.specs.Prelude.{IfSome}
use Rattle.search_queue.specs.Sums.{picked}
use Rattle.search_junctions.specs.Rooms.{SameRoom}
use Rattle.search_junctions.specs.State.{given}
use Rattle.search_run.proofs.Turns.{stand_of}
use Rattle.search_run.proofs.Wholes.{Running}
use Rattle.search_run.proofs.advance.Given as goal

abbrev pub invariant-loop-next : goal.invariant-loop-next
invariant-loop-next l =
    let n = l.trip.sizes.n in
    let a = l.initial in
    SameRoom a.room l.room × IfSome l.next (λ v. v < n)
    × Running (given l.trip l.atlas) l.by_tail.leaving.now l.by_tail.groups.now l.trip.start.0 l.trip.target.0 l.most
    (stand_of a.estimates a.elapsed a.log a.room.words.now a.count (picked n a.next))
    (stand_of l.estimates l.elapsed l.log l.room.words.now l.count (picked n l.next))

abbrev pub decreases-loop-next : goal.decreases-loop-next
decreases-loop-next l =
    l.most - l.count
