-- The calls of a report, in turn or each in one state, as A8 speaks of them. Definitions; what is proved of them stands in
-- proofs/ReportTurn.antt.
use Rattle.std.specs.Prelude.{◌≡◌, List, [], ◌∷◌, ℕ}
use Rattle.std.proofs.Math.Option.{none}
use Rattle.model.specs.Types.{Header}
use Rattle.model.specs.Card.{map_on}
use Rattle.model.specs.State.{Lent, State, Step}
use Rattle.model.specs.Preview.{work_size}
use Rattle.model.specs.Calls.{Aim, Asked, Call, Estimate, Go, Preview, Set, Stops, go_call}
use Rattle.model.specs.Calls.{preview_call, refusal_by, set_call}
use Rattle.model.specs.Promises.{base_on}

-- ---- such states and calls are those of a unit that meets its contracts

-- a call that leaves the live times and the target as they are
abbrev pub Quiet : Asked → Type 0
Quiet (Set i t) = ⊥
Quiet (Aim j) = ⊥
Quiet (Estimate j) = Unit {0}
Quiet (Go c j) = Unit {0}
Quiet (Preview c i t j w) = Unit {0}
Quiet (Stops c stops) = ⊥

-- so any list of the unit's calls, each with its contract; `r` is what they answered and left
abbrev pub last_of : State → List Step → State
last_of s [] = s
last_of s (u ∷ r) = last_of u.state r

-- a go, a set or a preview
abbrev pub OfReport : Asked → Type 0
OfReport (Set i t) = Unit {0}
OfReport (Aim j) = ⊥
OfReport (Estimate j) = ⊥
OfReport (Go c j) = Unit {0}
OfReport (Preview c i t j w) = Unit {0}
OfReport (Stops c stops) = ⊥

-- ---- the four calls of a report, in turn

abbrev pub turn : (n class road time start : ℕ) → Lent → List Call
turn n c i u j l = go_call c j l ∷ preview_call c i u j (work_size n) ∷ set_call i u ∷ go_call c j l ∷ []

-- asked with the header h, by both
abbrev pub Unrefused : (card : List ℕ) → Header → List Call → Type 0
Unrefused card h [] = Unit {0}
Unrefused card h (c ∷ l) = OfReport c.asked × (refusal_by (map_on card).base.cost h c ≡ none) × (refusal_by (base_on card) h c ≡ none)
    × Unrefused card h l
