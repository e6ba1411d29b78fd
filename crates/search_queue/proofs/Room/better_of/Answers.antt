-- By the smaller word where key or part differ (`better_apart`); of two that are no candidates' the first (`better_rests`); else by time
-- and number.
use Rattle.std.proofs.Common.{arith}
use Rattle.search_queue.proofs.Words.{better_apart, better_rests}
use Rattle.search_queue.proofs.Room.better_of.Goals as goal

pub returns-then-upper_of : goal.returns-then-upper_of
returns-then-upper_of c =
    let (tells-x, tells-y) = c.requires in
    better_apart _ _ _ tells-x tells-y (λ e. absurd (omega arith)) c.min.ensures

pub returns-then-key_in-ge-SETTLED : goal.returns-then-key_in-ge-SETTLED
returns-then-key_in-ge-SETTLED c = better_rests _ _ _ (omega arith) (omega arith)
