-- The estimate of a junction is that of its rank (`estimated`); a rank that is none of the n, which only forged areas have, is answered
-- with none (`unranked`).
use Rattle.pairs_hierarchy.proofs.Prepares.{estimated, unranked}
use Rattle.pairs_hierarchy.proofs.Hierarchy.estimate.Goals as goal

pub returns-then-self-r : goal.returns-then-self-r
returns-then-self-r c =
    let asked = c.requires in
    unranked asked.junction_in asked.order_is c.rank_of-r.ensures c.if-self-r.true

pub returns : goal.returns
returns c =
    let asked = c.requires in
    estimated asked.junction_in asked.order_is c.rank_of-r.ensures c.estimate_rank.ensures
