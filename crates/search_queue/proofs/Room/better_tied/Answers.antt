-- Each way through the code is one case: the smaller time (`better-earlier`, `better-later`), or of one time the smaller number
-- (`better-number`).
use Rattle.std.proofs.Common.{arith}
use Rattle.search_queue.proofs.Words.{better-earlier, better-later, better-number}
use Rattle.search_queue.proofs.Room.better_tied.Goals as goal

pub returns-then-a-b : goal.returns-then-a-b
returns-then-a-b c same waits = better-earlier _ _ _ same waits (omega arith)

pub returns-then-b-a : goal.returns-then-b-a
returns-then-b-a c same waits = better-later _ _ _ same waits (omega arith)

pub returns-else-b-a : goal.returns-else-b-a
returns-else-b-a c same waits = better-number _ _ _ same waits (omega arith) c.min.ensures
