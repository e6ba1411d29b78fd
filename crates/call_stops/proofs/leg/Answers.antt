-- The aim's contract holds for whatever is lent beside the areas, so for what the go is lent; the go's is its own.
use Rattle.std.specs.Prelude.{refl, ℕ}
use Rattle.std.proofs.Math.Path.{ap, sym}
use Rattle.model.specs.Areas.{Each, areas_of}
use Rattle.unit_questions.specs.Lending.{lent_of}
use Rattle.call_stops.proofs.OneLeg.{leg_of}
use Rattle.call_stops.proofs.leg.Goals as goal

pub aim-aimed-requires : goal.aim-aimed-requires
aim-aimed-requires c =
    let e = c.lengths-l.ensures in record {
      pairs_are = ap (λ (l : Each ℕ). l.built.pairs) e;
      times_are = ap (λ (l : Each ℕ). l.built.times) e;
      down_is = ap (λ (l : Each ℕ). l.aimed.down) e;
    }

pub returns : goal.returns
returns c =
    let a = c.args in
    leg_of
    (c.aim-aimed.ensures
    (areas_of a.p.ranks.now a.p.pairs.now a.p.times.now a.live.now a.down.now a.estimates.now a.elapsed.now a.p.leaving.now
    a.p.groups.now)
    (sym c.lengths-l.ensures) refl refl refl (lent_of a.route.now a.log.now))
    c.go-answer.ensures
