-- Road i ends within the body (`road-within`), so its three words are the row's.
use mathlib.Core.Path.{◌∙◌, refl, sym}
use Rattle.graph.proofs.Total.{some-some}
use Rattle.network.specs.Bodies.{base_in_lem, head_in, tail_in_lem}
use Rattle.card_sections.proofs.Roads.{road-within}
use Rattle.card_sections.proofs.BodiesMapRows.road.Goals as goal

pub tail_of-requires : goal.tail_of-requires
tail_of-requires c = road-within c.args.self.now.roads.now c.args.self.now.order.now c.args.i c.requires

pub head_of-requires : goal.head_of-requires
head_of-requires c = road-within c.args.self.now.roads.now c.args.self.now.order.now c.args.i c.requires

pub base_of-requires : goal.base_of-requires
base_of-requires c = road-within c.args.self.now.roads.now c.args.self.now.order.now c.args.i c.requires

pub returns-clause-tail : goal.returns-clause-tail
returns-clause-tail c =
    let b = c.args.self.now in
    let within = road-within b.roads.now b.order.now c.args.i c.requires in
    c.tail_of.ensures ∙ sym (tail_in_lem b.roads.now b.order.now c.args.i within)

pub returns-clause-head : goal.returns-clause-head
returns-clause-head c =
    let b = c.args.self.now in
    let within = road-within b.roads.now b.order.now c.args.i c.requires in
    c.head_of.ensures ∙ sym (head_in b.roads.now b.order.now c.args.i within)

pub returns-clause-base : goal.returns-clause-base
returns-clause-base c =
    let b = c.args.self.now in
    let within = road-within b.roads.now b.order.now c.args.i c.requires in
    c.base_of.ensures ∙ sym (some-some refl (base_in_lem b.roads.now b.order.now c.args.i within))
