-- Each turn makes the call that stands at a place of the script, writes its answer behind those before it, and goes on where the call ends.
-- So the calls made and those from the place on are always the calls of the script (`Run`), and at the end none is left (`run_end`).
use Rattle.model.specs.Areas.{areas_of}
use Rattle.unit_questions.specs.Lending.{lent_of}
use Rattle.unit.specs.Shape.{header_in}
use Rattle.unit_script.specs.Script.{holding}
use Rattle.unit_script.proofs.Scripts.{AtTurn}
use Rattle.unit_script.proofs.replay.Given as goal

abbrev pub invariant-loop-k : goal.invariant-loop-k
invariant-loop-k l =
    let a = l.initial in
    let p = l.p in
    AtTurn p.card.now l.script a.work l.work l.room l.at l.k a.out l.out
    (holding (header_in a.h) (areas_of p.ranks.now p.pairs.now p.times.now a.live a.down a.estimates a.elapsed p.leaving.now p.groups.now)
    (lent_of a.route a.log))
    (holding (header_in l.h) (areas_of p.ranks.now p.pairs.now p.times.now l.live l.down l.estimates l.elapsed p.leaving.now p.groups.now)
    (lent_of l.route l.log))
