-- The code's header, and what a call hands back, by their parts and as document 01's. Definitions only.
use Rattle.model.specs.Types as model
use Rattle.calls.specs.Shape as calls
use Rattle.calls.specs.Shape.{Handed, Held, handed, held}
use Rattle.unit.specs.declared.Header.{Header}
use Rattle.unit.specs.declared.Answered.{Answered}

abbrev pub held_in : Header → Held
held_in h = held h.sizes h.target

abbrev pub handed_in : Answered → Handed
handed_in r = handed (held_in r.header) r.answer

abbrev pub header_in : Header → model.Header
header_in h = calls.header_in (held_in h)

abbrev pub answered_in : Answered → model.Answered
answered_in r = calls.answered_in (handed_in r)
