-- What a set promises on lengths and on the live times: what holds whatever stands in the other areas. Definitions only.
use Rattle.std.specs.Prelude.{◌≡◌, List, Result, ℕ}
use Rattle.model.specs.Areas.{Areas, Each, lengths}
use Rattle.model.specs.Calls.{Set}
use Rattle.network.specs.Lending.{Slice}
use Rattle.network.specs.declared.Refusal.{Refusal}
use Rattle.unit_answers.specs.declared.Answer.{Answer}
use Rattle.calls.specs.Shape.{Held, handed}
use Rattle.calls.specs.Meets.{CalledAlone, with_live}

abbrev pub SetPart : (card : List ℕ) → Held → Each ℕ → (live : Slice) → (road time : ℕ) → Result Answer Refusal → Type 0
SetPart card h l live i t r = (a : Areas) → lengths a ≡ l → a.live ≡ live.entry.now
    → CalledAlone card h (record { entry = a; exit = with_live a live.exit.now }) (Set i t) (handed h r)
