-- Set: "a road's live time, from its base time to 1,000,000, or closed"; since document 02, A7, to 10,000,000. Definitions only.
use Rattle.std.specs.Prelude.{◌≡◌, Bool, ◌&&◌, cond, false, true, ℕ, eqb, leb, ltb, set}
use Rattle.std.proofs.Math.Option.{Option, none, some}
use Rattle.graph.specs.Total.{Total}
use Rattle.model.specs.Word.{of_word}
use Rattle.model.specs.Types.{Accepted, NoRoad, NotAllowed, Refusal}
use Rattle.model.specs.Limits.{most_time}
use Rattle.model.specs.Card.{ask}
use Rattle.model.specs.State.{Lent, State, Step, answering, leaving}
use Rattle.model.specs.Machine.{Known, Machine, Told, telling}

-- ---- what is asked: a road and a time; nothing is lent with it

-- 11: "Is the time allowed?"
abbrev pub settable : (base time : Total) → Bool
settable b none = true
settable none (some t) = false
settable (some b) (some t) = leb b t && leb t most_time

-- 10: "Is the road below m?", then 11
unfoldable pub set_refusal : Known → (road time : ℕ) → Option Refusal
unfolding of_word
set_refusal k i t = ask (ltb i k.m) NoRoad (ask (settable (k.base i) (of_word t)) NotAllowed none)

-- ---- what it answers and leaves

abbrev pub set_made : State → (road time : ℕ) → Lent → Step
set_made s i t l =
    answering Accepted (leaving s s.header.target (set s.areas.live i t) s.areas.aimed s.areas.trip) l

-- ---- what the plain machine does

-- "changes its road's live time to the one given"
abbrev pub changed : (live : ℕ → Total) → (road : ℕ) → Total → ℕ → Total
changed live i x j = cond (eqb j i) x (live j)

abbrev pub set_told : Machine → (road time : ℕ) → Told
set_told m i t = telling Accepted (record { live = changed m.live i (of_word t); target = m.target })

-- ---- what is right about it: demand 3 asks no more of it than the machine's answer

abbrev pub SetRight : Type 0
SetRight = Unit {0}

-- ---- what it leaves in any state whose lengths fit: the one live time

abbrev pub SetWrites : State → (road time : ℕ) → Lent → Step → Type 0
SetWrites s i t l r = r ≡ set_made s i t l
