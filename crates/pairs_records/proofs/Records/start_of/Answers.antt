-- Each test is at most one (`below-most`); the turn that the three choose (`left-turn`) adds what stays within the records.
use mathlib.Core.Path.{refl}
use native.Mathlib.Omega.{arith}
use Rattle.pairs_records.specs.Tests.{below-most, left-turn}
use Rattle.pairs_records.proofs.Records.start_of.Goals as goal

pub overflow_add-base-in-loop-size-3 : goal.overflow_add-base-in-loop-size-3
overflow_add-base-in-loop-size-3 c =
    omega (arith, below-most _ _ _ c.is_below-one.ensures, below-most _ _ _ c.is_below-two.ensures)

pub overflow_add-base-in-loop-size-4 : goal.overflow_add-base-in-loop-size-4
overflow_add-base-in-loop-size-4 c =
    omega (
      arith,
      below-most _ _ _ c.is_below-one.ensures,
      below-most _ _ _ c.is_below-two.ensures,
      below-most _ _ _ c.is_below-three.ensures,
    )

pub loop-size-preserved : goal.loop-size-preserved
loop-size-preserved c =
    left-turn c.loop-size.invariant c.loop-size-test.true refl c.is_below-one.ensures
    c.is_below-two.ensures c.is_below-three.ensures

pub overflow_mul-base : goal.overflow_mul-base
overflow_mul-base c =
    let next = left-turn c.loop-size.invariant c.loop-size-test.true refl c.is_below-one.ensures c.is_below-two.ensures
    c.is_below-three.ensures in
    omega (arith, next.fits, c.requires.1)

pub overflow_add-base-in-loop-size-5 : goal.overflow_add-base-in-loop-size-5
overflow_add-base-in-loop-size-5 c =
    let next = left-turn c.loop-size.invariant c.loop-size-test.true refl c.is_below-one.ensures c.is_below-two.ensures
    c.is_below-three.ensures in
    omega (arith, next.fits, c.requires.1)
