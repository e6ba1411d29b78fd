-- The entry of the order's junction at rank r is read (`standing-entry`); where that is none of the n, none stands there (`standing-none`).
use mathlib.Core.Path.{refl}
use native.Mathlib.Omega.{arith}
use Rattle.pairs_hierarchy.proofs.Climbs.{standing-entry, standing-none}
use Rattle.pairs_hierarchy.proofs.Hierarchy.known.Goals as goal

pub returns-then-j-self : goal.returns-then-j-self
returns-then-j-self c =
    standing-entry c.requires c.junction_of-j.ensures c.if-j-self.true refl

pub returns-else-j-self : goal.returns-else-j-self
returns-else-j-self c =
    standing-none c.requires c.junction_of-j.ensures (omega arith)
