-- The card's length is tested here, the areas' lengths are the callee's; joined by &, as the definition has it.
use Rattle.model.specs.State.{question9}
use Rattle.unit_questions.proofs.sized.Goals as goal

pub returns : goal.returns
unfolding question9
returns c =
    rw c.lengths_fit.ensures
