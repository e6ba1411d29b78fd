-- Since the roads have a byte, entry 0 and the part that it names stand inside the card (`is-named`): its words can be read, and the part
-- they give is the roads (`named-part`).
use native.Mathlib.Omega.{arith}
use Rattle.card_layout.proofs.Entries.{is-named, named-part}
use Rattle.card_layout.proofs.roads_named.Goals as goal

-- ---- entry 0

pub word_at-start-requires : goal.word_at-start-requires
word_at-start-requires c = omega (arith, (is-named c.args.card.now 0 c.requires).inside)

pub word_at-requires : goal.word_at-requires
word_at-requires c = omega (arith, (is-named c.args.card.now 0 c.requires).inside)

-- ---- the part that it names

pub slice_bounds-result-end : goal.slice_bounds-result-end
slice_bounds-result-end c =
    omega (arith, (is-named c.args.card.now 0 c.requires).ends, c.word_at-start.ensures, c.word_at.ensures)

pub returns : goal.returns
returns c =
    named-part c.args.card.now 0 c.word_at-start.ensures c.word_at.ensures (is-named c.args.card.now 0 c.requires)
