-- `call_aim::aim` is told the lengths of the areas that are lent, so what it promises of any areas of these lengths holds of them.
use Rattle.std.specs.Prelude.{refl, ℕ}
use Rattle.std.proofs.Math.Path.{ap, sym}
use Rattle.model.specs.Areas.{Each, areas_of}
use Rattle.unit.proofs.Header.aim.Goals as goal

pub aim-by-requires : goal.aim-by-requires
aim-by-requires c =
    let e = c.lengths-l.ensures in record {
      pairs_are = ap (λ (l : Each ℕ). l.built.pairs) e;
      times_are = ap (λ (l : Each ℕ). l.built.times) e;
      down_is = ap (λ (l : Each ℕ). l.aimed.down) e;
    }

pub returns : goal.returns
returns c k =
    let a = c.args in
    c.aim-by.ensures
    (areas_of a.p.ranks.now a.p.pairs.now a.p.times.now a.live.now a.down.now a.estimates.now a.elapsed.now a.p.leaving.now
    a.p.groups.now)
    (sym c.lengths-l.ensures) refl refl refl k
