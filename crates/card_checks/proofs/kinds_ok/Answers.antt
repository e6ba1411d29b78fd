-- What the loop keeps stands in Invariants.antt.
use Rattle.card_checks.proofs.Tables.{kinds-end, kinds_fail, kinds-start, kinds-turn}
use Rattle.card_checks.proofs.kinds_ok.Goals as goal

pub loop-i-init : goal.loop-i-init
loop-i-init c =
    kinds-start c.sections-count.ensures c.requires

pub returns-then-s-i : goal.returns-then-s-i
returns-then-s-i c =
    kinds_fail c.loop-i.invariant c.loop-i-test.true c.section_at-s.ensures c.if-s-i.true

pub loop-i-preserved : goal.loop-i-preserved
loop-i-preserved c =
    kinds-turn c.loop-i.invariant c.loop-i-test.true c.section_at-s.ensures c.if-s-i.false

pub returns : goal.returns
returns c =
    kinds-end c.loop-i.invariant c.loop-i-test.false
