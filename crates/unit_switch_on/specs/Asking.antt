-- What questions 1 to 7 say of a card and of areas. Definitions only.
use Rattle.std.specs.Prelude.{◌≡◌, Err, List, Ok, Result, ℕ}
use Rattle.std.proofs.Math.Option.{some}
use Rattle.model.specs.Areas.{Areas}
use Rattle.model.specs.State.{areas_refusal}
use Rattle.network.specs.Refusals.{refusal_in}
use Rattle.network.specs.declared.Refusal.{Refusal}
use Rattle.network.specs.declared.Sizes.{Sizes}
use Rattle.unit_preparing.specs.Preparing.{Accepts}

-- the first of 1 to 7 that says no refuses; else all pass, and the numbers are the card's
abbrev pub Says : (card : List ℕ) → Areas → Result Sizes Refusal → Type 0
Says card a (Err q) = areas_refusal card a ≡ some (refusal_in q)
Says card a (Ok s) = Accepts card s a
