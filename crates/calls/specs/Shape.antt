-- The header's parts as a call holds them, and what it hands back of them with its answer, as document 01's. Definitions only.
use Rattle.std.specs.Prelude.{None, Option, Result, Some}
use Rattle.model.specs.Types as model
use Rattle.network.specs.declared.Junction.{Junction}
use Rattle.network.specs.declared.Refusal.{Refusal}
use Rattle.network.specs.declared.Sizes.{Sizes}
use Rattle.unit_answers.specs.Shape.{answer_in}
use Rattle.unit_answers.specs.declared.Answer.{Answer}

-- sizes and target
pub record Held : Type 0 where
  pub sizes : Sizes
  pub target : Option Junction

abbrev pub held : Sizes → Option Junction → Held
held s t = record { sizes = s; target = t }

pub record Handed : Type 0 where
  pub header : Held
  pub answer : Result Answer Refusal

abbrev pub handed : Held → Result Answer Refusal → Handed
handed h x = record { header = h; answer = x }

-- the junction that was aimed at last, or none
abbrev pub target_in : Option Junction → model.Target
target_in (Some z) = model.At z.0
target_in None = model.Absent

abbrev pub header_in : Held → model.Header
header_in h = record { n = h.sizes.n; m = h.sizes.m; pairs = h.sizes.pairs; card = h.sizes.card; target = target_in h.target }

abbrev pub answered_in : Handed → model.Answered
answered_in r = record { header = header_in r.header; answer = answer_in r.answer }
