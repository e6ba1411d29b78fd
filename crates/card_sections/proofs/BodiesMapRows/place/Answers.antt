-- Place k ends within the body, and its word is the row's.
use mathlib.Core.Path.{◌∙◌, sym}
use Prim.Native.Nat.{◌*◌, ◌+◌, ◌≤◌}
use lib.ListN.{length}
use native.Mathlib.Omega.{arith}
use Rattle.network.specs.Bodies.{word_in}
use Rattle.card_sections.proofs.Roads.{junctions}
use Rattle.card_sections.proofs.BodiesMapRows.place.Goals as goal

pub junction_of-requires : goal.junction_of-requires
junction_of-requires c =
    omega (arith, c.requires, junctions c.args.self.now.roads.now c.args.self.now.order.now)

pub returns : goal.returns
returns c =
    let b = c.args.self.now in
    let within : 4 * c.args.k + 4 ≤ length b.order.now = omega (arith, c.requires, junctions b.roads.now b.order.now) in
    c.junction_of.ensures ∙ sym (word_in b.order.now c.args.k within)
