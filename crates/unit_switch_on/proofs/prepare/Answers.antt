-- What questions 1 to 7 refuse leaves the areas as they were (`prepare-refused`).
use Rattle.unit_preparing.specs.Preparing.{held}
use Rattle.unit_switch_on.proofs.Prepares.{prepare-refused}
use Rattle.unit_switch_on.proofs.prepare.Goals as goal

pub returns-in-Err : goal.returns-in-Err
returns-in-Err c =
    let a = c.args in
    let areas = held a.ranks a.pairs a.times a.live a.down a.estimates a.elapsed a.leaving a.groups in
    prepare-refused a.card.now _ (c.in-Err.ensures areas c.lengths_of-l.ensures) c.handed.ensures
