-- The row of r has the times of its roads, then those over all lower ranks (`lower`), which are the pairs' times (`row-times`). Its records
-- are appended (`row_appended`), and its front stands at the first of them (`row_kept`).
use borrow.Author.Rules.{rules}
use lib.ListN.{length}
use Rattle.graph.specs.Network.{direct}
use Rattle.pairs_rows.specs.Links.{net_in}
use Rattle.pairs_fronts.specs.Fronts.{Lower}
use Rattle.pairs_storing.specs.Storing.{RowAppended}
use Rattle.pairs_contraction.proofs.OneRow.{lower_start, row-overflow, row-times, row_kept}
use Rattle.pairs_contraction.proofs.contract_row.Goals as goal
use Rattle.pairs_contraction.proofs.contract_row.Goals.{After-append_row, After-pass_lower}

-- the row is relaxed over all lower ranks
lower : (c : After-pass_lower) → let p = c.pass_lower.new in
    Lower (direct (net_in c.args.roads.now c.args.ranks.now)) (length c.args.ranks.now) c.args.r.0 c.args.r.0
    c.args.pairs.now c.args.times.now p.cursor p.ahead c.args.fronts.now.ends p.soon p.ups p.downs p.touched
lower c = c.pass_lower.ensures _ (lower_start c.requires.ready c.requires.rank_in c.relax_roads.ensures)

pub append_row-requires : goal.append_row-requires
append_row-requires c =
    let ready = c.requires.ready in record {
      rank_in = c.requires.rank_in;
      n-high = c.requires.ranks-high;
      touched-long = search rules;
      ups-long = search rules;
      downs-long = search rules;
      records_in = ready.holds.room;
      pairs-high = ready.area;
      same-room = ready.holds.same-room;
    }

-- its records stand in the area too, if they fit
row_appended : (c : After-append_row) → let p = c.append_row.new in
    RowAppended (direct (net_in c.args.roads.now c.args.ranks.now)) (length c.args.ranks.now) c.args.r.0 p.ups p.downs p.pairs p.times
    c.append_row.result
row_appended c =
    let passed = c.pass_lower.ensures _ (lower_start c.requires.ready c.requires.rank_in c.relax_roads.ensures) in
    c.append_row.ensures _ (row-times c.requires.ready passed)

-- the records do not fit
pub returns-in_err-k : goal.returns-in_err-k
returns-in_err-k c =
    let place = goal.at.returns-in_err-k c in
    let passed = lower place.After-pass_lower in
    rw c.from_residual.ensures (row-overflow c.requires.ready passed c.in_err-k.was (row_appended place.After-append_row))

-- they do
pub ahead_at-high-requires : goal.ahead_at-high-requires
ahead_at-high-requires c =
    let appended = row_appended (goal.at.ahead_at-high-requires c).After-append_row in
    (appended.appended.all _ c.in_ok-k.was).room

pub returns : goal.returns
returns c =
    let place = goal.at.returns c in
    row_kept c.requires.ready (lower place.After-pass_lower) (row_appended place.After-append_row) c.in_ok-k.was c.ahead_at-high.ensures
    c.append_row.auto.pairs c.begin.ensures
