-- The test is `below_in`'s, and its byte the number.
use Rattle.std.proofs.Common.{arith}
use Rattle.std.proofs.lemmas.Bool.Decides.{nat_tests}
use Rattle.pairs_records.specs.Words.{below_in}
use Rattle.pairs_records.proofs.Records.is_below.Goals as goal

pub returns : goal.returns
unfolding below_in
returns c =
    grind (arith, nat_tests)
