-- The rest of each area, from the same place on, is filled with 0 (`rest-filled`).
use Rattle.pairs_rows.specs.Steps.{le-kept}
use Rattle.pairs_storing.proofs.Records.{rest-filled}
use Rattle.pairs_storing.proofs.clear_from.Goals as goal

pub returns : goal.returns
returns c =
    let k = c.words_of-k.ensures in
    let (room, same) = c.requires in (
      rest-filled c.args.count _ c.args.pairs.now _ k room (c.fill.ensures.after (λ n last. last)),
      rest-filled c.args.count _ c.args.times.now _ k (le-kept room same) (c.fill-2.ensures.after (λ n last. last)),
    )
