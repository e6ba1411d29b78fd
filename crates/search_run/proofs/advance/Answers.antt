-- advance: what its loop keeps stands in Invariants.antt.
use native.Mathlib.Omega.{arith}
use borrow.Author.Rules.{rules}
use lib.ListN.{length, replicate}
use Rattle.model.specs.Word.{none_word}
use mathlib.Core.Path.{◌≡◌, ◌∙◌, ap, refl, sym}
use Rattle.std.specs.Prelude.{is_some}
use Rattle.search_queue.specs.Laws.{unchanged}
use Rattle.search_labels.specs.Labelling.{order_of}
use Rattle.search_junctions.specs.Firsts.{begins-first}
use Rattle.search_junctions.specs.Rooms.{same_start, same_then, same_trans}
use Rattle.search_run.proofs.Wholes.{advances, asking, blank_of, first-inside, pairs_in, picked-none, reading, room-blank}
use Rattle.search_run.proofs.Wholes.{room_settled, running_goal, running_on, running_start, turn_of}
use Rattle.search_run.proofs.advance.Goals.{in-Some+then-count-most, in_default}
use Rattle.search_run.proofs.advance.Goals as goal

-- ---- before the loop

pub ask_start-first-requires : goal.ask_start-first-requires
ask_start-first-requires c = (c.requires.0.within.start_in, pairs_in c.requires.0.within.sized refl)

pub begin-requires : goal.begin-requires
begin-requires c =
    let (lends, n_is) = c.requires in
    (lends.within.start_in, record { n-is = n_is; ordered = room-blank lends.within.sized.n-high lends.fresh })

pub loop-next-init : goal.loop-next-init
loop-next-init c =
    let (lends, was) = c.requires in
    let right = c.begin.ensures.taken.room in
    let picks = rw (c.begin.ensures.same.n-is ∙ was) at c.choose-next.ensures in
    let low = lends.within.start_in in (
      same_start,
      picks.inside (order_of c.args.trip.sizes.n c.begin.new.room.words.now) (omega (arith, low)) right.n-high right.right,
      running_start (first-inside right (omega (arith, low)) picks.choice) right,
    )

-- ---- in the loop: the room is still for as many nodes as the trip has

pub put-requires : goal.put-requires
put-requires c =
    let (same, inside, running) = c.loop-next.invariant in
    let n_is = same.n-is ∙ c.begin.ensures.same.n-is ∙ c.requires.1 in
    let lv = rw c.in-Some.is at inside in
    rw n_is (lv, running.right.n-high, omega arith, unchanged _ running.right.right)

pub loop-next-preserved-then-is_goal : goal.loop-next-preserved-then-is_goal
loop-next-preserved-then-is_goal c =
    let (same, inside, running) = c.loop-next.invariant in
    let n_is = same.n-is ∙ c.begin.ensures.same.n-is ∙ c.requires.1 in
    let turn = turn_of (rw c.in-Some.is at inside) running.count-le c.if-count-most.false in
    let put = c.put.ensures in (
      same_then same put.n_is put.long put.lent,
      tt,
      running_goal (rw c.in-Some.is at running) turn (rw n_is at c.room_time-from.ensures)
          (rw (put.n_is ∙ n_is) at c.put.new.self.sized) (rw n_is at put.put) (sym c.is_goal.ensures ∙ c.if-is_goal.true),
    )

-- ---- it is no goal: its group starts at an entry of the groups, and ends at the next one

pub ask-requires : goal.ask-requires
ask-requires c =
    let (_, _, running) = c.loop-next.invariant in
    asking c.requires.0.within.sized (running.estimates-long ∙ c.ask_start-first.auto.estimates)

pub relax-requires : goal.relax-requires
relax-requires c =
    let (same, _, running) = c.loop-next.invariant in
    let n_is = same.n-is ∙ c.begin.ensures.same.n-is ∙ c.requires.1 in
    let put = c.put.ensures in
    let settled = put.n_is ∙ n_is in (
      reading c.requires.0.within.sized (c.ask.auto.estimates ∙ running.estimates-long ∙ c.ask_start-first.auto.estimates),
      record {
        n-is = settled;
        ordered = room_settled (rw settled at c.put.new.self.sized) (rw n_is at put.put) running.right;
      },
    )

pub loop-next-preserved : goal.loop-next-preserved
loop-next-preserved c =
    let (same, inside, running) = c.loop-next.invariant in
    let n_is = same.n-is ∙ c.begin.ensures.same.n-is ∙ c.requires.1 in
    let lv = rw c.in-Some.is at inside in
    let turn = turn_of lv running.count-le c.if-count-most.false in
    let put = c.put.ensures in
    let settled = put.n_is ∙ n_is in
    let right = c.relax.ensures.relaxed.room in
    let picks = rw (c.relax.ensures.same.n-is ∙ settled) at c.choose-next-else-is_goal.ensures in
    let from_is = rw n_is at c.room_time-from.ensures in (
      same_trans (same_then same put.n_is put.long put.lent) c.relax.ensures.same,
      picks.inside (order_of c.args.trip.sizes.n c.relax.new.room.words.now) (omega (arith, lv)) right.n-high right.right,
      running_on (rw c.in-Some.is at running) turn from_is (rw settled at c.put.new.self.sized) (rw n_is at put.put)
          (sym c.is_goal.ensures ∙ c.if-is_goal.false) c.group-group.ensures c.ask.auto.estimates c.ask.ensures from_is
          c.relax.ensures.relaxed picks.choice,
    )

-- ---- after the loop

pub returns-clause-same : goal.returns-clause-same
returns-clause-same c =
    same_trans c.begin.ensures.same c.loop-next.invariant.0

pub returns-clause-advanced : goal.returns-clause-advanced
returns-clause-advanced c =
    let cleared : c.fill.new.self ≡ replicate (length c.args.elapsed.now) none_word = search rules in
    let (lends, was) = c.requires in
    let (_, inside, running) = c.loop-next.invariant in
    let first = rw (c.begin.ensures.same.n-is ∙ was) at c.choose-next.ensures in
    let blank = blank_of lends.within.sized.n-high lends.fresh refl (pairs_in lends.within.sized refl) in
    let begins = begins-first lends.within.start_in blank c.ask_start-first.ensures c.begin.ensures.taken in
    elim c.match-next.branch [
      | in-Some+then-count-most w ↦ advances lends begins cleared first.choice c.min-most.ensures running
          (λ t. omega (arith, t.count_in, w.if-count-most.true))
          (picked-none c.args.trip.sizes.n c.loop-next.next inside (ap is_some w.in-Some.is ∙ (rw w.next-is at c.is_none.ensures)))
      | in_default w ↦ advances lends begins cleared first.choice c.min-most.ensures running
          (λ t. omega (arith, rw w.in_default.is at t.node_in))
          (picked-none c.args.trip.sizes.n c.loop-next.next inside (rw w.next-is at c.is_none.ensures))
    ]
