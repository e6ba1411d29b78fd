-- arcs_back: what its loops keep stands in Invariants.antt.
use native.Mathlib.Omega.{arith}
use borrow.Author.Rules.{rules}
use borrow.Author.Tests.{eq-eqb, ne_eqb}
use Rattle.search_run.proofs.Backs.{count-end, count-start, count-there, count_turn}
use Rattle.search_run.proofs.arcs_back.Goals as goal

pub loop-k-init : goal.loop-k-init
loop-k-init c =
    count-start (search rules)

pub returns-then-u-trip : goal.returns-then-u-trip
returns-then-u-trip c =
    (count-there c.loop-k.invariant c.loop-k-test.true (eq-eqb _ _ c.if-u-trip.true), search rules)

pub loop-k-preserved : goal.loop-k-preserved
loop-k-preserved c =
    let (back, inside) = c.step_back-u.ensures in
    count_turn c.loop-k.invariant c.loop-k-test.true (ne_eqb _ _ c.if-u-trip.false) back inside

pub returns : goal.returns
returns c =
    (omega (arith, c.loop-k.invariant.low, c.loop-k-test.false, count-end c.loop-k.invariant c.loop-k-test.false), search rules)
