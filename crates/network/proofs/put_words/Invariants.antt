-- The loop keeps that the first i words are in place and the rest is as it was (`Put`). A
-- turn puts one word more (`put-turn`); once all are put, nothing else is left (`put-end`).
use Rattle.network.proofs.Bytes.{Put}
use Rattle.network.proofs.put_words.Given as goal

abbrev pub invariant-loop-i : goal.invariant-loop-i
invariant-loop-i l =
    Put l.initial.s l.words l.i l.s
