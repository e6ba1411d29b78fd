-- The tests are those of `leads`.
use Rattle.std.proofs.Common.{arith}
use Rattle.std.proofs.lemmas.Bool.Decides.{nat_tests}
use Rattle.pairs_records.specs.Words.{leads}
use Rattle.pairs_records.proofs.leads_up.Goals as goal

pub returns-then-high-n : goal.returns-then-high-n
unfolding leads
returns-then-high-n c =
    grind (arith, nat_tests)

pub returns-else-high-n : goal.returns-else-high-n
unfolding leads
returns-else-high-n c =
    grind (arith, nat_tests)
