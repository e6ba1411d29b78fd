-- What a leg and a list of stops promise. Definitions only.
use Rattle.std.specs.Prelude.{◌≡◌, List, ◌≤◌, Result, ℕ, get_or, length}
use Rattle.std.proofs.Math.Option.{none}
use denote.Triple.Both.{Both}
use Rattle.model.specs.Types as model
use Rattle.model.specs.Limits.{fewest_stops, most_legs, most_stops}
use Rattle.model.specs.Card.{card_map, map_on}
use Rattle.model.specs.Areas.{Areas}
use Rattle.model.specs.State.{Lent, Step, answering}
use Rattle.model.specs.Stops.{StopsWrites, stops_made, stops_refusal}
use Rattle.model.specs.Calls.{Aim, Go, Left, Stops, calling, known_of}
use Rattle.model.specs.Promises.{CallContract, after, before}
use Rattle.network.specs.declared.Refusal.{Refusal}
use Rattle.network.specs.declared.Sizes.{Sizes}
use Rattle.calls.specs.Shape.{Held, header_in, held}
use Rattle.call_stops.specs.declared.Journey.{Journey}
use Rattle.call_stops.specs.declared.Visited.{Visited}
use Rattle.call_stops.specs.Shape.{leg_count, legs_of, stopping_in}

-- what a list of stops leaves, with its answer
abbrev pub left : model.Header → Result Journey Refusal → Areas → Lent → Step
left h x a l = answering (stopping_in x) (before h a) l

-- one leg: an aim that met its contract, and a go of the class on what it left that met its own
pub record LegMade (card : List ℕ) (h : model.Header) (a : Both Areas Areas) (l : Both Lent Lent) (class from to : ℕ) (x : model.Answered)
    : Type 0 where
  pub aimed : Step
  pub aims : CallContract card (before h a.entry) (calling (Aim to) l.entry) aimed
  pub goes : CallContract card aimed.state (calling (Go class from) l.entry) (after x a.exit l.exit)

-- there are no more legs than a list may have, and entries past the last are 0
pub record Rest (x : Result Journey Refusal) : Type 0 where
  pub few-legs : leg_count x ≤ most_legs
  pub totals_end : (i : ℕ) → leg_count x ≤ i → get_or (legs_of x).totals i 0 ≡ 0
  pub roads-end : (i : ℕ) → leg_count x ≤ i → get_or (legs_of x).roads i 0 ≡ 0

-- 16 has passed
pub record RoomFor (stops : List ℕ) : Type 0 where
  pub few : fewest_stops ≤ length stops
  pub many : length stops ≤ most_stops

-- the legs of a list whose questions passed
pub record Journeys (card : List ℕ) (s : Sizes) (h : model.Header) (a : Both Areas Areas) (l : Both Lent Lent) (class : ℕ) (stops : List ℕ)
    (r : Visited) : Type 0 where
  pub writes : StopsWrites (before h a.entry) (left (header_in (held s r.target)) r.answer a.exit l.exit)
  pub exact : Left card (before h a.entry)
      → stops_refusal (known_of (map_on card).base.cost h) class stops (length l.entry.route) (length l.entry.log) ≡ none
      → left (header_in (held s r.target)) r.answer a.exit l.exit ≡ stops_made (card_map card) (before h a.entry) class stops l.entry
  pub rest : Rest r.answer

-- a list of stops meets its contract, with the header h' and the answer x
pub record StopsMet (card : List ℕ) (h : model.Header) (a : Both Areas Areas) (l : Both Lent Lent) (class : ℕ) (stops : List ℕ)
    (h' : model.Header) (x : Result Journey Refusal) : Type 0 where
  pub call : CallContract card (before h a.entry) (calling (Stops class stops) l.entry) (left h' x a.exit l.exit)
  pub rest : Rest x

abbrev pub CalledStops : (card : List ℕ) → Held → Both Areas Areas → Both Lent Lent → (class : ℕ) → (stops : List ℕ) → Visited → Type 0
CalledStops card h a l class stops r = StopsMet card (header_in h) a l class stops (header_in (held h.sizes r.target)) r.answer
