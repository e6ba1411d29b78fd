-- fill_live: what its loop keeps stands in Invariants.antt.
use native.Mathlib.Omega.{arith}
use Rattle.unit_preparing.proofs.Filling.{filling-end}
use Rattle.unit_preparing.proofs.fill_live.Goals as goal

pub returns : goal.returns
returns c = filling-end c.loop-i.invariant (omega (arith, c.loop-i.invariant.kept, c.loop-i-test.false))
