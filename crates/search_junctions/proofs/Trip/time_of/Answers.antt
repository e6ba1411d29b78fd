-- A road that lets the class in has the time in force (`met_let_in`), another counts as closed (`met-barred`).
use Rattle.search_junctions.proofs.Seeing.{met-barred, met_in, met_let_in}
use Rattle.search_junctions.proofs.Trip.time_of.Goals as goal

pub time_of-requires : goal.time_of-requires
time_of-requires c =
    met_in c.args.self c.args.ways.now.access.now c.args.ways.now.live.now c.args.i c.requires

pub returns-then-admits : goal.returns-then-admits
returns-then-admits c =
    met_let_in c.args.self c.args.ways.now.access.now c.args.ways.now.live.now c.args.i c.requires
    c.admits.ensures c.if-admits.true c.time_of.ensures

pub returns-else-admits : goal.returns-else-admits
returns-else-admits c =
    met-barred c.args.self c.args.ways.now.access.now c.args.ways.now.live.now c.args.i c.requires
    c.admits.ensures c.if-admits.false
