-- The tests are the definition's, joined by &; what the table names is the callee's.
use Rattle.unit_questions.proofs.usable.Goals as goal

pub returns : goal.returns
returns c =
    rw c.named.ensures
