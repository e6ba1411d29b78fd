-- write_back: what its loops keep stands in Invariants.antt.
use borrow.Author.Rules.{rules}
use native.Mathlib.Omega.{arith}
use mathlib.Core.Path.{refl}
use Rattle.search_run.proofs.Backs.{write_end, write_turn}
use Rattle.search_run.proofs.write_back.Goals as goal

pub loop-j-init : goal.loop-j-init
loop-j-init c =
    record { low = search rules; inside = search rules; long = refl; writes = refl }

pub loop-j-preserved : goal.loop-j-preserved
loop-j-preserved c =
    let (back, inside) = c.step_back-u.ensures in
    write_turn c.loop-j.invariant (omega arith) (omega arith) c.via_of.ensures back inside

pub returns : goal.returns
returns c =
    write_end c.loop-j.invariant c.loop-j-test.false
