-- The loop keeps that the bodies before entry i follow one another up to the byte `at`, so that the rest decides (`StartsPass`); no sum
-- of two words wraps in 64 bits.
use Rattle.card_checks.proofs.Tables.{StartsPass}
use Rattle.card_checks.proofs.starts_ok.Given as goal

abbrev pub invariant-loop-i : goal.invariant-loop-i
invariant-loop-i l =
    StartsPass l.card l.count l.at l.i
