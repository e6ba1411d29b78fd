-- A node without a road, and one whose road has no junction for a tail, stay where they are; else it is the tail (`step-none`,
-- `step_far`, `step-to`).
use native.Mathlib.Omega.{arith}
use Rattle.search_labels.specs.Labelling.{labels_in}
use Rattle.search_junctions.proofs.Steps.{step_far, step-none, step-to}
use borrow.Author.Rules.{rules}
use Rattle.search_junctions.proofs.Trip.step_back.Goals as goal

pub returns-then-self-i : goal.returns-then-self-i
returns-then-self-i c =
    let z = c.args.self.sizes in
    let vias = (labels_in z.n c.args.words.now).vias in
    (step-none c.args.atlas.now.ways.roads.now vias z.n c.args.v c.via_of-i.ensures c.if-self-i.true, search rules)

pub returns-then-tail-self : goal.returns-then-tail-self
returns-then-tail-self c =
    let z = c.args.self.sizes in
    let vias = (labels_in z.n c.args.words.now).vias in (
      step-to c.args.atlas.now.ways.roads.now vias z.n c.args.v c.via_of-i.ensures (omega arith) c.tail_of-tail.ensures c.if-tail-self.true,
      search rules,
    )

pub returns-else-tail-self : goal.returns-else-tail-self
returns-else-tail-self c =
    let z = c.args.self.sizes in
    let vias = (labels_in z.n c.args.words.now).vias in (
      step_far c.args.atlas.now.ways.roads.now vias z.n c.args.v c.via_of-i.ensures (omega arith) c.tail_of-tail.ensures
          (omega (arith, c.if-tail-self.false)),
      search rules,
    )
