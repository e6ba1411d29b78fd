-- The machine after the calls of a list before a place. Definitions; what is proved of them stands in proofs/Demand3Use.antt.
use mathlib.Core.List.{List, [], ◌∷◌}
use Rattle.model.specs.Card.{CardMap}
use Rattle.model.specs.Machine.{Machine}
use Rattle.model.specs.Calls.{Call, machine_step, plain}

-- ---- the call at any place of a list

-- the machine after a list of calls: before the next one it has the times and the target in force
abbrev pub machine_after : CardMap → Machine → List Call → Machine
machine_after C m [] = m
machine_after C m (c ∷ l) = machine_after C (machine_step C m (plain c)).next l
