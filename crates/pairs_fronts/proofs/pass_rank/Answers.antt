-- The high ahead of v is r, so v's cursor stands at its pair with r (`meeting`). The records after it relax the row of r over v, and the
-- front moves on by one record (`stage-pass`).
use lib.ListN.{get_or}
use Rattle.pairs_fronts.proofs.Passes.{Meeting, meeting, reached, stage-pass}
use Rattle.pairs_fronts.proofs.pass_rank.Goals as goal
use Rattle.pairs_fronts.proofs.pass_rank.Goals.{Start}

met : (c : Start) → Meeting c.requires.0.0 c.args.n c.args.r.0 c.args.v.0 (get_or c.args.cursor.now c.args.v.0 0)
    (get_or c.args.ends.now c.args.v.0 0) c.args.records.pairs.now c.args.records.times.now
met c = let ((_, stage), below, at-r) = c.requires in meeting stage below at-r

pub relax_over-requires : goal.relax_over-requires
relax_over-requires c =
    let at-start = met (goal.at.relax_over-requires c).Start in
    let ((_, stage), below, at-r) = c.requires in
    (at-start.next_in, at-start.end_in, stage.holds.same-room, reached stage below at-r)

pub ahead_at-high-requires : goal.ahead_at-high-requires
ahead_at-high-requires c = (met (goal.at.ahead_at-high-requires c).Start).end_in

pub returns-clause-passed : goal.returns-clause-passed
returns-clause-passed c =
    let (_, below, at-r) = c.requires in
    λ w stage. stage-pass stage below (meeting stage below at-r) c.relax_over.ensures c.ahead_at-high.ensures
