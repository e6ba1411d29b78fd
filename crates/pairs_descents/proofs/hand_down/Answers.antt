-- A lower junction with no total has nothing to hand down (`no-rest`).
use mathlib.Core.Path.{◌∙◌, ◌≡◌, refl, sym}
use borrow.Author.Tests.{eqb-true}
use Rattle.pairs_descents.specs.Downs.{lower_in}
use Rattle.pairs_descents.proofs.Descends.{junction-at, no-rest}
use Rattle.pairs_descents.proofs.hand_down.Goals as goal

pub returns-then-is_none : goal.returns-then-is_none
returns-then-is_none c =
    let lower-is : c.in-Some.lower.0 ≡ lower_in c.args.order.now c.args.records.pairs.now c.args.i =
    junction-at c.args.order.now c.low.ensures c.in-Some.ensures.2 in
    no-rest lower-is refl (eqb-true _ _ (sym c.is_none.ensures ∙ c.if-is_none.true))
