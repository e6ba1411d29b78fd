-- What the loop keeps stands in Invariants.antt. That an end of 2^32 or more is refused is `wraps`, which lib.rt names to the tactic.
use borrow.Author.Rules.{rules}
use native.Mathlib.Omega.{arith}
use Rattle.card_checks.proofs.Tables.{start_fails, starts-end, starts-start, starts-turn}
use Rattle.card_checks.proofs.starts_ok.Goals as goal

pub loop-i-init : goal.loop-i-init
loop-i-init c =
    starts-start c.sections-count.ensures (search rules) c.requires c.table_size-at.ensures

pub returns-then-s-at : goal.returns-then-s-at
returns-then-s-at c =
    start_fails c.loop-i.invariant c.loop-i-test.true c.section_at-s.ensures c.if-s-at.true

pub loop-i-preserved : goal.loop-i-preserved
loop-i-preserved c =
    starts-turn c.loop-i.invariant c.loop-i-test.true c.section_at-s.ensures c.if-s-at.false (omega arith)

pub returns : goal.returns
returns c =
    starts-end c.loop-i.invariant c.loop-i-test.false
