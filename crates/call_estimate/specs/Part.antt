-- What an estimate promises on lengths and on the areas that it reads or writes: what holds whatever stands in the others. Definitions
-- only.
use Rattle.std.specs.Prelude.{◌≡◌, List, Result, ℕ, length}
use denote.Triple.Both.{Both}
use Rattle.model.specs.Areas.{Areas, Each, lengths}
use Rattle.model.specs.Calls.{Estimate}
use Rattle.network.specs.Lending.{Slice}
use Rattle.network.specs.declared.Refusal.{Refusal}
use Rattle.pairs_records.specs.declared.Records.{Records}
use Rattle.unit_answers.specs.declared.Answer.{Answer}
use Rattle.calls.specs.Shape.{Held, handed}
use Rattle.calls.specs.Meets.{CalledAlone, with_aimed}

-- an estimate is told the lengths of the areas that it is handed
pub record EstimateLengths (l : Each ℕ) (ranks pairs times down estimates : List ℕ) : Type 0 where
  pub ranks_are : l.built.ranks ≡ length ranks
  pub pairs_are : l.built.pairs ≡ length pairs
  pub times_are : l.built.times ≡ length times
  pub down_is : l.aimed.down ≡ length down
  pub estimates_are : l.aimed.estimates ≡ length estimates

abbrev pub EstimatePart : (card : List ℕ) → Held → Each ℕ → (ranks : Slice) → Both Records Records → (down estimates : Slice)
    → (junction : ℕ) → Result Answer Refusal → Type 0
EstimatePart card h l ranks records down estimates j r = (a : Areas) → lengths a ≡ l
    → a.built.ranks ≡ ranks.entry.now → a.built.pairs ≡ records.entry.pairs.now → a.built.times ≡ records.entry.times.now
    → a.aimed ≡ record { down = down.entry.now; estimates = estimates.entry.now }
    → CalledAlone card h (record { entry = a; exit = with_aimed a down.entry.now estimates.exit.now }) (Estimate j) (handed h r)
