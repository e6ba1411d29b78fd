-- The two ways through the test are the two cases of `answer`.
use Rattle.std.proofs.Common.{arith}
use Rattle.std.proofs.lemmas.Bool.Decides.{nat_tests}
use Rattle.pairs_records.specs.Words.{answer}
use Rattle.pairs_records.proofs.answer_of.Goals as goal

pub returns-then-is_unasked : goal.returns-then-is_unasked
unfolding answer
returns-then-is_unasked c =
    grind (arith, nat_tests)

pub returns-else-is_unasked : goal.returns-else-is_unasked
unfolding answer
returns-else-is_unasked c =
    grind (arith, nat_tests)
