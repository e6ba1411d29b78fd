-- What the calls promise, by the areas at entry and at exit. Definitions only.
use Rattle.std.specs.Prelude.{List, ℕ}
use denote.Triple.Both.{Both}
use Rattle.model.specs.Areas.{Areas}
use Rattle.model.specs.State.{Lent}
use Rattle.model.specs.Calls.{Asked}
use Rattle.calls.specs.Meets.{Called, CalledAlone, CalledPreview}
use Rattle.unit.specs.declared.Header.{Header}
use Rattle.unit.specs.declared.Answered.{Answered}
use Rattle.unit.specs.Shape.{handed_in, held_in}

-- what a call on a card does to the header, the unit's areas and those that it is lent is document 01's
abbrev pub Meets : (card : List ℕ) → Header → Both Areas Areas → Both Lent Lent → Asked → Answered → Type 0
Meets card h a l c r = Called card (held_in h) a l c (handed_in r)

-- a call that is lent nothing beside the unit's areas: whatever is lent with it stays untouched
abbrev pub MeetsAlone : (card : List ℕ) → Header → Both Areas Areas → Asked → Answered → Type 0
MeetsAlone card h a c r = CalledAlone card (held_in h) a c (handed_in r)

-- a preview is lent a work area beside them, of whose content nothing is said
abbrev pub MeetsPreview : (card : List ℕ) → Header → Both Areas Areas → (work work' : List ℕ) → (class road time start : ℕ) → Answered
    → Type 0
MeetsPreview card h a work work' class road time start r =
    CalledPreview card (held_in h) a work work' class road time start (handed_in r)
