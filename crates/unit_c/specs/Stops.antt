-- What a list of stops hands back, as C holds it. Definitions only.
use Rattle.std.specs.Prelude.{◌≡◌, Err, Ok, Result, ℕ}
use Rattle.network.specs.declared.Refusal.{Refusal}
use Rattle.network.specs.Refusals.{refusal_in}
use Rattle.call_stops.specs.declared.Journey.{Journey}
use Rattle.call_stops.specs.declared.Legs.{Legs}
use Rattle.call_stops.specs.Shape.{no_legs}
use Rattle.unit.specs.declared.Stopped.{Stopped}
use Rattle.unit_c.specs.declared.UnitHeader.{UnitHeader}
use Rattle.unit_c.specs.declared.UnitStops.{UnitStops}
use Rattle.unit_c.specs.Answers.{header_words}

abbrev pub stops_to : UnitHeader → (question leg legs whole : ℕ) → Legs → UnitStops
stops_to h q i k w l = record {
  header = h;
  question = q;
  leg = i;
  legs = k;
  whole = w;
  totals = l.totals;
  roads = l.roads;
}

abbrev pub stopping_to : UnitHeader → Result Journey Refusal → UnitStops
stopping_to h (Err q) = let r = refusal_in q in stops_to h r.question r.place 0 0 no_legs
stopping_to h (Ok j) = stops_to h 0 0 j.number j.whole j.legs

-- the words that stand for what is handed back
abbrev pub stops_words : Stopped → UnitStops
stops_words r = stopping_to (header_words r.header) r.answer

-- the words of something handed back that P holds of
abbrev pub TellsStops : (P : Stopped → Type 0) → UnitStops → Type 0
TellsStops P w = (x : Stopped) × (w ≡ stops_words x) × P x
