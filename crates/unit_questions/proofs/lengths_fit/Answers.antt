-- The tests are the definition's, joined by &; room for pairs is the callee's.
use native.Mathlib.Numerals.{add-one}
use Rattle.model.specs.Areas.{lengths_fit}
use Rattle.unit_questions.proofs.lengths_fit.Goals as goal

pub returns : goal.returns
unfolding lengths_fit
returns c =
    rw (c.room_fits.ensures, add-one)
