-- What a turn has read of a rank is `taken`: a kept pair is appended (`append-put`), where it has room, and another left (`append-skip`).
use Prim.Native.Nat.{◌*◌, ◌+◌, ◌≤◌}
use mathlib.Core.Path.{◌∙◌, refl}
use lib.ListN.{length}
use borrow.Author.Rules.{rules}
use Rattle.model.specs.Areas.{record_size}
use Rattle.pairs_rows.specs.Steps.{in_kept, lt_more, lt_next, min-le, over-above, room_in, room_next, room_out}
use Rattle.pairs_storing.proofs.Records.{Taken, append-full, append-over, append-put, append-skip, append-start}
use Rattle.pairs_storing.proofs.append_row.Goals as goal
use Rattle.pairs_storing.proofs.append_row.Goals.{After-is_kept}

taken : (c : After-is_kept) → Taken c.args.n c.args.r.0 c.loop-h.h c.take_time-up.result.0 c.take_time-down.result.0 c.loop-h.ups
    c.loop-h.downs c.take_time-up.new.row c.take_time-down.new.row c.is_kept.result
taken c =
    let (up_is, ups_are) = c.take_time-up.ensures in
    let (down_is, downs_are) = c.take_time-down.ensures in record {
      above = c.loop-h.invariant.above;
      below = c.loop-h-test.true;
      up_in = in_kept c.loop-h-test.true c.requires.ups-long c.loop-h.invariant.ups-kept;
      down_in = in_kept c.loop-h-test.true c.requires.downs-long c.loop-h.invariant.downs-kept;
      up_is = up_is;
      down_is = down_is;
      ups_are = ups_are;
      downs_are = downs_are;
      test-is = c.is_kept.ensures;
    }

pub loop-h-init : goal.loop-h-init
loop-h-init c = record {
  above = search rules;
  within = lt_next c.requires.rank_in;
  records_in = c.requires.records_in;
  ups-kept = refl;
  downs-kept = refl;
  appending = λ w g. append-start g;
}

-- the block is not touched
pub loop-h-preserved-then-touched-b-eq0 : goal.loop-h-preserved-then-touched-b-eq0
loop-h-preserved-then-touched-b-eq0 c =
    let inv = c.loop-h.invariant in record {
      above = over-above c.min-h.ensures inv.above c.loop-h-test.true;
      within = min-le _ c.min-h.ensures;
      records_in = inv.records_in;
      ups-kept = inv.ups-kept;
      downs-kept = inv.downs-kept;
      appending = λ w g. append-over g inv.above c.loop-h-test.true c.min-h.ensures c.if-touched-b-eq0.true (inv.appending w g);
    }

-- the pair is kept, and has no room
pub returns-then-words_of-pairs : goal.returns-then-words_of-pairs
returns-then-words_of-pairs c =
    let read = taken (goal.at.returns-then-words_of-pairs c).After-is_kept in
    λ w g. append-full g read (c.loop-h.invariant.appending w g) c.if-is_kept.true
    (room_out _ c.words_of.ensures c.if-words_of-pairs.true)

-- it is kept, and has room
pub loop-h-preserved-then-is_kept : goal.loop-h-preserved-then-is_kept
loop-h-preserved-then-is_kept c =
    let read = taken (goal.at.loop-h-preserved-then-is_kept c).After-is_kept in
    let room : record_size * c.loop-h.k + record_size ≤ length c.loop-h.pairs = room_in _ c.words_of.ensures c.if-words_of-pairs.false in
    let inv = c.loop-h.invariant in
    let put = c.put.ensures in record {
      above = lt_more inv.above;
      within = lt_next c.loop-h-test.true;
      records_in = room_next _ room c.loop-h.auto.pairs;
      ups-kept = c.take_time-up.auto.row ∙ inv.ups-kept;
      downs-kept = c.take_time-down.auto.row ∙ inv.downs-kept;
      appending = λ w g. append-put g read (inv.appending w g) c.if-is_kept.true put.pairs c.put.auto.pairs put.times c.put.auto.times room;
    }

-- it is not kept
pub loop-h-preserved : goal.loop-h-preserved
loop-h-preserved c =
    let read = taken (goal.at.loop-h-preserved c).After-is_kept in
    let inv = c.loop-h.invariant in record {
      above = lt_more inv.above;
      within = lt_next c.loop-h-test.true;
      records_in = inv.records_in;
      ups-kept = c.take_time-up.auto.row ∙ inv.ups-kept;
      downs-kept = c.take_time-down.auto.row ∙ inv.downs-kept;
      appending = λ w g. append-skip g read (inv.appending w g) c.if-is_kept.false;
    }
