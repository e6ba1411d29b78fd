-- ask: what its loop keeps stands in Invariants.antt.
use Rattle.search_junctions.proofs.Heads.{asking-end, asking-pass, asking-start, asking-turn, estimates-kept}
use Rattle.search_junctions.proofs.Trip.ask.Goals.{else-i-self, then-i-self}
use Rattle.search_junctions.proofs.Trip.ask.Goals as goal

pub loop-i-init : goal.loop-i-init
loop-i-init c =
    asking-start

pub ask_head-requires : goal.ask_head-requires
ask_head-requires c =
    (c.if-i-self.true, estimates-kept c.requires c.loop-i.invariant.long)

pub loop-i-preserved : goal.loop-i-preserved
loop-i-preserved c =
    elim c.if-i-self.branch [
      | then-i-self w ↦ rw w.estimates-is (asking-turn c.loop-i-test.true c.loop-i.invariant w.ask_head.auto.estimates w.ask_head.ensures)
      | else-i-self w ↦ rw w.estimates-is (asking-pass c.loop-i-test.true c.loop-i.invariant w.if-i-self.false)
    ]

pub returns : goal.returns
returns c =
    asking-end c.loop-i-test.false c.loop-i.invariant
