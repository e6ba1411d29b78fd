-- Legs that there are not are zeros, so the words of all 31 are those of the answer (`stopped-words`).
use Rattle.std.proofs.Common.{◌∙◌, ap, refl}
use Rattle.std.specs.Prelude.{◌∷◌, ℕ}
use Rattle.model.specs.Limits.{most_legs}
use Rattle.unit_script.specs.Words.{legs_words}
use Rattle.unit_script.proofs.Answers.{stopped-words}
use Rattle.unit_script.proofs.of_stopped.Goals as goal

pub returns-in-Ok : goal.returns-in-Ok
returns-in-Ok c =
    let j = c.in-Ok.j in (
      refl,
      ap (λ (k : ℕ). 0 ∷ j.whole ∷ 0 ∷ k ∷ legs_words j.legs.totals j.legs.roads 0 most_legs) c.from.ensures
          ∙ stopped-words c.args.r.answer c.requires c.in-Ok.is,
    )
