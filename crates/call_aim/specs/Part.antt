-- What an aim promises on lengths and on the areas that it reads or writes: what holds whatever stands in the others. Definitions only.
use Rattle.std.specs.Prelude.{◌≡◌, List, ℕ, length}
use denote.Triple.Both.{Both}
use Rattle.model.specs.Areas.{Areas, Each, lengths}
use Rattle.model.specs.Calls.{Aim}
use Rattle.network.specs.Lending.{Slice}
use Rattle.pairs_records.specs.declared.Records.{Records}
use Rattle.calls.specs.Shape.{Held, held}
use Rattle.calls.specs.Meets.{CalledAlone, with_aimed}
use Rattle.call_aim.specs.declared.Aimed.{Aimed}

-- an aim is told the lengths of the areas that it is handed
pub record AimLengths (l : Each ℕ) (pairs times down : List ℕ) : Type 0 where
  pub pairs_are : l.built.pairs ≡ length pairs
  pub times_are : l.built.times ≡ length times
  pub down_is : l.aimed.down ≡ length down

abbrev pub AimPart : (card : List ℕ) → Held → Each ℕ → Both Records Records → (down estimates : Slice) → (junction : ℕ) → Aimed → Type 0
AimPart card h l records down estimates j r = (a : Areas) → lengths a ≡ l
    → a.built.pairs ≡ records.entry.pairs.now → a.built.times ≡ records.entry.times.now
    → a.aimed ≡ record { down = down.entry.now; estimates = estimates.entry.now }
    → CalledAlone card h (record { entry = a; exit = with_aimed a down.exit.now estimates.exit.now }) (Aim j)
    (record { header = held h.sizes r.target; answer = r.answer })
