-- The estimate is what stands for the rank (`stands`), or else stores the walk's answer (`computed`). The walk takes in record after record
-- (`walk_take`); the records of a rank stand together, so a larger low ends it (`walk_stop`).
use mathlib.Core.Path.{◌∙◌, refl, sym}
use Prim.Native.Nat.{◌<◌}
use native.Mathlib.Omega.{arith}
use Rattle.std.proofs.lemmas.Bool.Decides.{nat_tests}
use Rattle.pairs_hierarchy.specs.Walks.{Climbed}
use Rattle.pairs_hierarchy.proofs.Climbs.{RecordRead, computed, known-asked, known-at, leads-taken, rank-at, stands, unasked-entry}
use Rattle.pairs_hierarchy.proofs.Climbs.{walk_skip, walk_start, walk_stop, walk_take}
use Rattle.pairs_hierarchy.proofs.Hierarchy.+estimate_rank_walk_pairs.Goals as goal
use Rattle.pairs_hierarchy.proofs.Hierarchy.+estimate_rank_walk_pairs.Goals.{walk_pairs-else-is_unasked, walk_pairs-else-leads_up}
use Rattle.pairs_hierarchy.proofs.Hierarchy.+estimate_rank_walk_pairs.Goals.{walk_pairs-then-is_unasked, walk_pairs-then-leads_up}

pub estimate_rank-returns-then-not-is_unasked : goal.estimate_rank-returns-then-not-is_unasked
estimate_rank-returns-then-not-is_unasked t c =
    stands (known-asked c.requires) c.known-known.ensures c.is_unasked.ensures c.if-not-is_unasked.true

-- nothing stands for the rank: the entry of its junction is unasked
pub estimate_rank-bounds-self-i : goal.estimate_rank-bounds-self-i
estimate_rank-bounds-self-i t c =
    let entry = unasked-entry (known-asked c.requires) c.junction_of-j.ensures c.known-known.ensures c.is_unasked.ensures
    c.if-not-is_unasked.false in
    omega (arith, entry.0, c.requires.down_is)

pub estimate_rank-bounds-estimates-i : goal.estimate_rank-bounds-estimates-i
estimate_rank-bounds-estimates-i t c =
    let entry = unasked-entry (known-asked c.requires) c.junction_of-j.ensures c.known-known.ensures c.is_unasked.ensures
    c.if-not-is_unasked.false in
    omega (arith, entry.0, c.walk_pairs.auto.estimates, c.requires.estimates_are)

pub estimate_rank-returns : goal.estimate_rank-returns
estimate_rank-returns t c =
    let entry = unasked-entry (known-asked c.requires) c.junction_of-j.ensures c.known-known.ensures c.is_unasked.ensures
    c.if-not-is_unasked.false in
    computed c.requires.rank_in c.junction_of-j.ensures entry.1 (c.walk_pairs.auto.estimates ∙ c.requires.estimates_are) refl
    c.walk_pairs.ensures c.answer_of-v.ensures refl

-- ---- the walk over the records of a rank

pub walk_pairs-loop-k-init : goal.walk_pairs-loop-k-init
walk_pairs-loop-k-init t c = record {
  length-kept = c.requires.estimates_are;
  walked = walk_start c.requires.rank_in c.start_of-start.ensures;
}

pub walk_pairs-returns-then-lt : goal.walk_pairs-returns-then-lt
walk_pairs-returns-then-lt t c =
    let higher : c.args.r.0 < c.low-low.result.0 = grind (arith, nat_tests) in
    walk_stop c.requires.rank_in c.loop-k.invariant.walked c.loop-k-test.true c.low-low.ensures higher

-- what stands for the high of a record that leads up may be asked
pub walk_pairs-known-known-requires : goal.walk_pairs-known-known-requires
walk_pairs-known-known-requires t c =
    let leads = leads-taken c.leads_up.ensures c.if-leads_up.true in
    known-at c.requires leads.below c.loop-k.invariant.length-kept

-- and so may its estimate
pub walk_pairs-estimate_rank-above-requires : goal.walk_pairs-estimate_rank-above-requires
walk_pairs-estimate_rank-above-requires t c =
    let leads = leads-taken c.leads_up.ensures c.if-leads_up.true in
    (omega (arith, leads.rises, leads.below, c.decreases), rank-at c.requires leads.below c.loop-k.invariant.length-kept)

-- a record that does not lead up is passed over; one that does adds the estimate of its high, which was asked or known
pub walk_pairs-loop-k-preserved : goal.walk_pairs-loop-k-preserved
walk_pairs-loop-k-preserved t c =
    let h = c.args.self.now in
    let high = c.high-high.result.0 in
    let walked = c.loop-k.invariant.walked in
    let read : RecordRead h.records.pairs.now h.records.times.now c.loop-k.k c.low-low.result.0 high c.up-up.result.0 =
    record { low-is = c.low-low.ensures; high_is = c.high-high.ensures; up_is = c.up-up.ensures } in record {
      length-kept = c.if-leads_up.auto.estimates ∙ c.loop-k.invariant.length-kept;
      walked = elim c.if-leads_up.branch [
        | walk_pairs-then-leads_up w ↦
            let leads = leads-taken c.leads_up.ensures w.if-leads_up.true in
            let above : Climbed h.sizes.n h.order.now h.records.pairs.now h.records.times.now h.sizes.pairs h.down.now c.loop-k.estimates
            w.if-is_unasked.estimates high w.if-is_unasked.above.0 =
            elim w.if-is_unasked.branch [
              | walk_pairs-then-is_unasked w' ↦ rw (w'.estimates-is, w'.above-is) w'.estimate_rank-above.ensures
              | walk_pairs-else-is_unasked w' ↦
                  let asked = known-at c.requires leads.below c.loop-k.invariant.length-kept in
                  rw (w'.estimates-is, w'.above-is)
                  (stands asked w.known-known.ensures w.is_unasked.ensures w'.if-is_unasked.false)
            ] in
            rw (w.estimates-is, w.best-is)
            (walk_take c.requires.rank_in walked c.loop-k-test.true read leads above w.or_sum-best.ensures)
        | walk_pairs-else-leads_up w ↦
            rw (w.estimates-is, w.best-is)
            (walk_skip c.requires.rank_in walked c.loop-k-test.true read (sym c.leads_up.ensures ∙ w.if-leads_up.false))
      ];
    }
