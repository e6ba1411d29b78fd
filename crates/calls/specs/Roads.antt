-- The roads of a card and their base times, in a state that a list of calls left. Assumes nothing.
use Rattle.std.specs.Prelude.{◌≡◌, List, ◌<◌, ℕ}
use Rattle.std.proofs.Math.Option.{some}
use Rattle.std.proofs.Common.{arith}
use Rattle.model.specs.Bytes.{word_at}
use Rattle.model.specs.Layout.{base_at, order_in, roads_in}
use Rattle.model.specs.Card.{map_on}
use Rattle.model.specs.State.{State}
use Rattle.model.specs.Good.{Good}
use Rattle.network.specs.Bodies.{Sound, base_in_lem, map-facts}
use Rattle.card_layout.specs.Parts.{card-sound}

module _ {card : List ℕ} {s : State} (g : Good card s) where
  pub good-sound : Sound (roads_in card) (order_in card)
  good-sound = card-sound card g.accepted

  -- the base time of a road, where the code reads it
  pub good-base : (i : ℕ) → i < s.header.m → (map_on card).base.cost i ≡ some (word_at (roads_in card) (base_at i))
  good-base i l = let f = map-facts good-sound in base_in_lem (roads_in card) (order_in card) i (omega (arith, f.roads_are, g.m-is))
