-- The high of record j has its mark, so the turn relaxes both rows by one record more (`going_turn`).
use mathlib.Core.Path.{◌∙◌, refl}
use Rattle.pairs_rows.specs.Steps.{by-below, in_blocks, lt_next}
use Rattle.pairs_fronts.proofs.Passes.{going_end, going_start, going_turn}
use Rattle.pairs_fronts.proofs.relax_over.Goals as goal

pub loop-j-init : goal.loop-j-init
loop-j-init c = record { touched-kept = refl; going = going_start }

pub loop-j-preserved : goal.loop-j-preserved
loop-j-preserved c =
    let in-range = c.loop-j-test.true in
    let inv = c.loop-j.invariant in
    let (_, _, _, reached) = c.requires in
    let marked = in_blocks (by-below c.high-h.ensures (reached.marks_in c.loop-j.j c.loop-j.auto.j in-range)) inv.touched-kept in
    record {
      touched-kept = c.mark.auto.touched ∙ inv.touched-kept;
      going = going_turn c.loop-j.auto.j in-range c.high-h.ensures c.up.ensures (rw c.plus.ensures at c.relax_entry.ensures) c.down.ensures
          (rw c.plus-in-loop-j.ensures at c.relax_entry-in-loop-j.ensures) marked c.mark.ensures inv.going;
    }

pub returns : goal.returns
returns c =
    going_end (c.loop-j.auto.j-end (lt_next c.requires.0)) c.loop-j-test.false c.down-down.ensures c.up-up.ensures c.loop-j.invariant.going
