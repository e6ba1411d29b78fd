-- Each turn writes the base time of its road, so the times before i are base times (`Filling`); at the end i is their number.
use Rattle.unit_preparing.proofs.Filling.{Filling}
use Rattle.unit_preparing.proofs.fill_live.Given as goal

abbrev pub invariant-loop-i : goal.invariant-loop-i
invariant-loop-i l = Filling l.roads l.initial.live l.live l.i
