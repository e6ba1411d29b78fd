-- What a list of stops hands back, as the model's; and the sum of two totals. Definitions only.
use Rattle.std.specs.Prelude.{Err, List, [], ◌∷◌, Ok, Result, suc, zero, ℕ, get_or, replicate}
use Rattle.graph.specs.Total.{◌⊕◌}
use Rattle.model.specs.Types as model
use Rattle.model.specs.Word.{of_word, word}
use Rattle.model.specs.Limits.{most_legs}
use Rattle.network.specs.Width.{fit}
use Rattle.network.specs.Refusals.{refusal_in}
use Rattle.network.specs.declared.Refusal.{Refusal}
use Rattle.call_stops.specs.declared.Journey.{Journey}
use Rattle.call_stops.specs.declared.Legs.{Legs}

-- k legs from leg i on
abbrev pub legs_from : (totals roads : List ℕ) → (i k : ℕ) → List model.Leg
legs_from totals roads i zero = []
legs_from totals roads i (suc k) = record { total = get_or totals i 0; roads = get_or roads i 0 } ∷ legs_from totals roads (suc i) k

abbrev pub stopping_in : Result Journey Refusal → model.Answer
stopping_in (Err q) = model.Refused (refusal_in q)
stopping_in (Ok j) = model.Stopped (legs_from j.legs.totals j.legs.roads 0 j.number) j.whole

-- how many legs are answered
abbrev pub leg_count : Result Journey Refusal → ℕ
leg_count (Err q) = 0
leg_count (Ok j) = j.number

-- no leg
abbrev pub no_legs : Legs
no_legs = record { totals = replicate most_legs 0; roads = replicate most_legs 0 }

-- the legs that are answered: none with a refusal
abbrev pub legs_of : Result Journey Refusal → Legs
legs_of (Err q) = no_legs
legs_of (Ok j) = j.legs

-- the sum of two totals by their words; the mark none where it does not fit
abbrev pub sum_in : ℕ → ℕ → ℕ
sum_in a b = word (fit (of_word a ⊕ of_word b))
