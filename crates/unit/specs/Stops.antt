-- What a list of stops promises. Definitions only.
use Rattle.std.specs.Prelude.{List, ℕ}
use denote.Triple.Both.{Both}
use Rattle.model.specs.Areas.{Areas}
use Rattle.model.specs.State.{Lent}
use Rattle.call_stops.specs.Legs.{StopsMet}
use Rattle.unit.specs.declared.Header.{Header}
use Rattle.unit.specs.declared.Stopped.{Stopped}
use Rattle.unit.specs.Shape.{header_in}

-- a list of stops meets its contract
abbrev pub MeetsStops : (card : List ℕ) → Header → Both Areas Areas → Both Lent Lent → (class : ℕ) → (stops : List ℕ) → Stopped → Type 0
MeetsStops card h a l class stops r = StopsMet card (header_in h) a l class stops (header_in r.header) r.answer
