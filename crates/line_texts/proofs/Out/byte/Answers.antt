-- The byte fits behind the text, or the area is full and shows as much of the longer text as of the shorter (`byte_fits`, `byte_lost`).
use Rattle.std.proofs.Common.{refl, rules}
use Rattle.line_texts.proofs.Areas.{byte_fits, byte_lost}
use Rattle.line_texts.proofs.Out.byte.Goals as goal

pub returns-then-self : goal.returns-then-self
returns-then-self c = record { puts = byte_fits c.if-self.true; same_reference = refl; same_room = search rules }

pub returns-else-self : goal.returns-else-self
returns-else-self c = record { puts = byte_lost c.if-self.false; same_reference = refl; same_room = refl }
