-- The first word, where there is one; else the bytes there are, as the word that they are (`count_read`).
use mathlib.Core.Path.{◌∙◌}
use Rattle.card_layout.proofs.Entries.{count_read}
use Rattle.card_layout.proofs.sections.Goals as goal

pub returns : goal.returns
returns c =
    c.from_le_bytes.ensures
    ∙ count_read c.args.card.now c.byte_at.ensures c.byte_at-2.ensures c.byte_at-3.ensures c.byte_at-4.ensures
