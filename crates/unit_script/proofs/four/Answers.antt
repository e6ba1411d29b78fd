-- Legs of zeros have the words of no legs (`no-legs`).
use Rattle.std.proofs.Common.{ap, refl}
use Rattle.std.specs.Prelude.{List, ℕ, ◌++◌}
use Rattle.model.specs.Limits.{most_legs}
use Rattle.unit_script.specs.Words.{four_of}
use Rattle.unit_script.proofs.Answers.{no-legs}
use Rattle.unit_script.proofs.four.Goals as goal

pub returns : goal.returns
returns c = (refl, ap (λ (w : List ℕ). four_of c.args.words ++ w) (no-legs most_legs most_legs))
