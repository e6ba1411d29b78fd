-- Shifted by c bits is divided by 2 ^ c (`halved_is`), and nothing is left of a byte past its eight bits (`halved-past`).
use Rattle.network.proofs.Bits.{halved_is, halved-past}
use Rattle.network.proofs.halved.Goals as goal

pub returns-then-class-ge-CLASSES : goal.returns-then-class-ge-CLASSES
returns-then-class-ge-CLASSES c =
    halved-past _ _ c.if-class-ge-CLASSES.true c.requires

pub returns : goal.returns
returns c =
    halved_is _ _
