-- A part that ends within the card is cut out of it; the sum of two words does not wrap in 64 bits.
use native.Mathlib.Omega.{arith}
use Rattle.card_layout.specs.Sections.{section_in}
use Rattle.card_layout.proofs.Entries.{no_part, part}
use Rattle.card_layout.proofs.body.Goals as goal

pub returns-then-card-end : goal.returns-then-card-end
returns-then-card-end c =
    no_part c.args.card.now (section_in c.args.s) (omega (arith, c.if-card-end.true))

pub returns : goal.returns
returns c =
    part c.args.card.now (section_in c.args.s) c.if-card-end.false
