-- `call_set::set` is told the lengths of the areas that are lent, so what it promises of any areas of these lengths holds of them.
use Rattle.std.specs.Prelude.{refl, ℕ}
use Rattle.std.proofs.Math.Path.{ap, sym}
use Rattle.model.specs.Areas.{Each, areas_of}
use Rattle.unit.proofs.Header.set.Goals as goal

pub set-requires : goal.set-requires
set-requires c = ap (λ (l : Each ℕ). l.live) c.lengths-l.ensures

pub returns : goal.returns
returns c k =
    let a = c.args in
    c.set.ensures a.self.target
    (areas_of a.p.ranks.now a.p.pairs.now a.p.times.now a.live.now a.down.now a.estimates.now a.elapsed.now a.p.leaving.now
    a.p.groups.now)
    (sym c.lengths-l.ensures) refl k
