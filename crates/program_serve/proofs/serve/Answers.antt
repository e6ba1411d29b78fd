-- The card is opened, and what that leaves is what the lines are answered from: a card that opens is attended to, one that does not is
-- refused (`card-runs`).
use Rattle.model.specs.Areas.{Areas, areas_of}
use Rattle.program_serve.proofs.Cards.{card-runs}
use Rattle.program_serve.proofs.serve.Goals as goal

pub returns : goal.returns
returns g c =
    let a = c.args in
    let lent : Areas =
    areas_of a.ranks.now a.pairs.now a.times.now a.live.now a.down.now a.estimates.now a.elapsed.now a.leaving.now a.groups.now in
    let opened = c.open_card-opened in
    λ lends.
    card-runs lent lends opened.new.out c.begin.ensures c.answer_lines.ensures (opened.ensures.right lends)
