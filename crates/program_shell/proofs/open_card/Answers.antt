-- What preparing answers and leaves is judged, for any areas (`prepared-way`); with those of `Lends` that is what document 01 says
-- (`prepared-opens`).
use Rattle.std.proofs.Common.{◌∙◌}
use Rattle.model.specs.Areas.{Areas, areas_of}
use Rattle.program_shell.proofs.Cards.{prepared-opens, prepared-way}
use Rattle.program_shell.proofs.open_card.Goals as goal

pub returns : goal.returns
returns c =
    let a = c.args in
    let lent : Areas =
    areas_of a.ranks.now a.pairs.now a.times.now a.live.now a.down.now a.estimates.now a.elapsed.now a.leaving.now a.groups.now in
    let is = prepared-way c.args.file.now lent c.prepare-prepared.ensures c.judge.ensures in
    record { always = is; right = λ lends. is ∙ prepared-opens c.args.file.now lent lends }
