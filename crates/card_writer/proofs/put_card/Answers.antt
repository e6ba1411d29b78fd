-- Table, roads and order are put one after the other and fill the area (`card-put`).
use mathlib.Core.Path.{refl}
use Rattle.card_writer.proofs.ThreeParts.{card-put}
use Rattle.card_writer.proofs.put_card.Goals as goal

pub returns : goal.returns
returns c =
    card-put c.args.roads.now c.args.order.now c.args.area.now refl refl c.requires.1
    c.put_table.ensures c.put_words.ensures c.put_words-2.ensures
