-- Each turn adds the records of one rank, and leaves what the next one asks (`Ready`). After the last rank all kept pairs stand in the
-- two areas, and the rest is cleared (`contract_end`); a row without room means that they do not fit (`contract_overflow`).
use lib.ListN.{length}
use Rattle.graph.specs.Network.{direct}
use Rattle.pairs_rows.specs.Links.{net_in}
use Rattle.pairs_contraction.specs.Lending.{ReadyIn}
use Rattle.pairs_contraction.proofs.contract.Given as goal

-- the rows of the ranks below r are made
abbrev pub invariant-loop-r : goal.invariant-loop-r
invariant-loop-r l =
    ReadyIn (direct (net_in l.roads l.ranks)) (length l.ranks) l.r l.count l.pairs l.times l.fronts l.rows
