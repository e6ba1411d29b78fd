-- The loop keeps that the kinds before entry i are right, so that the rest decides (`KindsPass`).
use Rattle.card_checks.proofs.Tables.{KindsPass}
use Rattle.card_checks.proofs.kinds_ok.Given as goal

abbrev pub invariant-loop-i : goal.invariant-loop-i
invariant-loop-i l =
    KindsPass l.card l.count l.i
