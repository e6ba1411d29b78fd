-- Each road is linked at its own row, which has its place in `first`.
use mathlib.Core.Path.{refl}
use native.Mathlib.Omega.{arith}
use lib.ListN.{length-set}
use Rattle.pairs_linking.proofs.Roads.{linked-end, linked-start, linked-turn}
use Rattle.pairs_linking.proofs.link_roads.Goals as goal

pub loop-i-init : goal.loop-i-init
loop-i-init c = record {
  firsts_in = c.requires.firsts_in;
  nexts_in = c.requires.nexts_in;
  linked = linked-start c.requires.firsts-none;
}

pub loop-i-preserved : goal.loop-i-preserved
loop-i-preserved c =
    let inv = c.loop-i.invariant in
    let (row-is, row-below) = c.row_of-r.ensures in record {
      firsts_in = simp length-set inv.firsts_in;
      nexts_in = simp length-set inv.nexts_in;
      linked = linked-turn inv.firsts_in (omega (arith, c.loop-i-test.true, inv.nexts_in)) row-below row-is refl inv.linked;
    }

pub returns : goal.returns
returns c =
    let inv = c.loop-i.invariant in record {
      ranked = c.requires.ranked;
      linked = linked-end c.loop-i.auto.i-end c.loop-i-test.false inv.linked;
      firsts_in = inv.firsts_in;
      nexts_in = inv.nexts_in;
    }
