-- The roads and ranks are the map's (`given`), and the roads are linked by their rows.
use Prim.Native.Nat.{◌<◌}
use mathlib.Core.Path.{◌∙◌}
use native.Mathlib.Omega.{arith}
use lib.ListN.{get_or-replicate, length}
use Rattle.model.specs.Limits.{most_junctions, most_roads}
use Rattle.pairs_contraction.proofs.OneRow.{long}
use Rattle.pairs_contraction.proofs.AllRows.{Given, contract_end, contract_overflow, next-ready, ranked, ranks-most, ranks-number}
use Rattle.pairs_contraction.proofs.AllRows.{ready-start}
use Rattle.pairs_contraction.proofs.contract.Goals as goal
use Rattle.pairs_contraction.proofs.contract.Goals.{In-loop-r, Start}

given : (c : Start) → Given c.args.roads.now c.args.order.now c.args.ranks.now
given c = record { sound = c.requires.0; ranks_are = c.requires.1 }

pub overflow_cast-n : goal.overflow_cast-n
overflow_cast-n c =
    let map = given (goal.at.overflow_cast-n c).Start in
    omega (arith, ranks-number map, ranks-most map)

pub link_roads-requires : goal.link_roads-requires
link_roads-requires c =
    let map = given (goal.at.link_roads-requires c).Start in record {
      ranked = ranked map;
      firsts_in = long most_junctions 0 (ranks-most map);
      nexts_in = long most_roads 0 (ranked map).most;
      firsts-none = λ r h. get_or-replicate most_junctions r 0 0 (omega (arith, ranks-most map));
    }

pub loop-r-init : goal.loop-r-init
loop-r-init c =
    let map = given (goal.at.loop-r-init c).Start in
    ready-start map c.requires.2 c.requires.3

-- the rank of this turn
rank_in : (c : In-loop-r) → c.loop-r.r < length c.args.ranks.now
rank_in c =
    let map : Given c.args.roads.now c.args.order.now c.args.ranks.now = record { sound = c.requires.0; ranks_are = c.requires.1 } in
    omega (arith, c.loop-r-test.true, ranks-number map)

pub contract_row-requires : goal.contract_row-requires
contract_row-requires c =
    let place = goal.at.contract_row-requires c in record {
      grouped = c.link_roads.ensures;
      ready = c.loop-r.invariant;
      rank_in = rank_in place.In-loop-r;
      ranks-high = ranks-most (given place.Start);
    }

pub returns-in_err-count : goal.returns-in_err-count
returns-in_err-count c =
    let place = goal.at.returns-in_err-count c in
    rw c.from_residual.ensures (contract_overflow (given place.Start) (rank_in place.In-loop-r)
    (c.contract_row.auto.pairs ∙ c.loop-r.auto.pairs) (c.contract_row.ensures.overflow c.in_err-count.was))

pub loop-r-preserved : goal.loop-r-preserved
loop-r-preserved c =
    next-ready (c.contract_row.ensures.kept _ c.in_ok-count.was)

pub returns : goal.returns
returns c =
    let map = given (goal.at.returns c).Start in
    let (pairs-cleared, times-cleared) = c.clear_from.ensures in
    contract_end map (omega (arith, c.loop-r-test.false, c.loop-r.auto.r-end, ranks-number map)) c.loop-r.auto.pairs c.loop-r.invariant
    pairs-cleared times-cleared
