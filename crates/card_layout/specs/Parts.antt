-- The bodies of an accepted card. Assumes nothing.
use Rattle.std.specs.Prelude.{◌≡◌, List, ℕ}
use Rattle.std.proofs.Math.Option.{none}
pub use Rattle.model.specs.Layout.{access_in, order_in, roads_in}
use Rattle.model.specs.Card.{card_refusal}
use Rattle.model.proofs.Accept.{passed}
pub use Rattle.model.proofs.Accept.{part_length, part-word}
use Rattle.network.specs.Bodies.{Sound}

-- they pass questions 4 to 6
pub card-sound : (card : List ℕ) → card_refusal card ≡ none → Sound (roads_in card) (order_in card)
card-sound card ok = record { passes = (passed card ok).bodies }
