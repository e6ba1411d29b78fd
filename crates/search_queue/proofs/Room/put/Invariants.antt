-- The word of v is written at its own place; from there up, all places but those still above are decided (`Climb`): `climb-turn` decides
-- one more, `climb-end` finds none left.
use Rattle.std.proofs.Common.{◌≡◌}
use Rattle.search_queue.specs.Order.{by_key}
use Rattle.search_queue.proofs.Climb.{Climb}
use Rattle.search_queue.proofs.Room.put.Given as goal

abbrev pub invariant-loop-at : goal.invariant-loop-at
invariant-loop-at l =
    let begin = l.initial.self in
    (l.self.n ≡ begin.n) × (l.self.words.ghost_name ≡ begin.words.ghost_name)
    × Climb (by_key begin.n begin.words.now) begin.n begin.words.now l.self.words.now l.at l.w

abbrev pub decreases-loop-at : goal.decreases-loop-at
decreases-loop-at l =
    l.at
