-- From entry to entry of the group: at an entry the heads of the open roads before it are asked (`Asking`, `asking-turn`), and behind the
-- last entry all (`asking-end`). A number that is no road's is in no group (`asking-pass`).
use Rattle.search_junctions.specs.State.{given}
use Rattle.search_junctions.proofs.Heads.{Asking}
use Rattle.search_junctions.proofs.Trip.ask.Given as goal

abbrev pub invariant-loop-i : goal.invariant-loop-i
invariant-loop-i l =
    Asking (given l.self l.atlas) l.group l.i-index l.initial.estimates l.estimates
