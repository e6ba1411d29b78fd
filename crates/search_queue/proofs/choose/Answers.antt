-- The root's word tells the number of the first candidate (`root_number`), or it is no candidate's, and then none is left (`root_nobody`).
use Rattle.std.proofs.Common.{arith}
use Rattle.search_queue.proofs.Root.{root_nobody, root_number}
use Rattle.search_queue.proofs.choose.Goals as goal

pub returns-then-key_in-lt-SETTLED : goal.returns-then-key_in-lt-SETTLED
returns-then-key_in-lt-SETTLED c n = rw c.lower_of.ensures.0 (root_number _ (omega arith))

pub returns-else-key_in-lt-SETTLED : goal.returns-else-key_in-lt-SETTLED
returns-else-key_in-lt-SETTLED c n = root_nobody _ (omega arith)
