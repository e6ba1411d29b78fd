-- A refusal leaves the areas as they were (`refused`); otherwise the down totals are the callee's, and every estimate is unasked
-- (`aim-made`).
use Rattle.std.proofs.Common.{◌∙◌, sym, arith, rules}
use Rattle.std.specs.Prelude.{◌≡◌, refl, length, replicate}
use Rattle.model.specs.Word.{unasked}
use Rattle.model.specs.Calls.{Aim}
use Rattle.model.specs.Promises.{base_on}
use Rattle.unit_questions.specs.Lending.{lengths_in}
use Rattle.calls.specs.Fitting.{order-sized, pairs-few}
use Rattle.calls.specs.Shape.{held}
use Rattle.calls.specs.Made.{CallPassed, call-passed, refused, same-aimed}
use Rattle.call_aim.proofs.Made.{aim-below, aim-made}
use Rattle.call_aim.proofs.aim.Goals as goal
use Rattle.call_aim.proofs.aim.Goals.{In-Ok}

-- no question refuses
passed : (c : In-Ok) → let a = c.args in CallPassed a.card.now (held a.sizes a.target) (lengths_in a.l) (Aim a.j.0)
passed c = call-passed c.in-Ok.is (c.aim_asked.ensures c.args.target (base_on c.args.card.now))

pub down_totals-requires : goal.down_totals-requires
down_totals-requires c =
    let told = c.requires in
    let p = passed (goal.at.down_totals-requires c).In-Ok in
    let f = p.sizes in record {
      target_in = aim-below p;
      n-high = f.n-high;
      order_is = order-sized f c.order_of-order.ensures;
      down_is = sym told.down_is ∙ f.lengths.down;
      records_in = omega (arith, f.lengths.room, told.pairs_are);
      times_in = omega (arith, f.lengths.room, f.lengths.times, told.times_are);
      count-high = pairs-few f;
    }

pub returns-in-Err : goal.returns-in-Err
returns-in-Err c b lengths-are pairs_are times_are aimed-is k =
    let a = c.args in
    let says = c.aim_asked.ensures a.target (base_on a.card.now) in
    same-aimed (refused {h = held a.sizes a.target} lengths-are c.in-Err.is says refl) aimed-is

pub returns-in-Ok : goal.returns-in-Ok
returns-in-Ok c b lengths-are pairs_are times_are aimed-is k =
    let filled : c.fill.new.self ≡ replicate (length c.args.estimates.now) unasked = search rules in
    aim-made lengths-are (passed (goal.at.returns-in-Ok c).In-Ok) pairs_are times_are aimed-is c.order_of-order.ensures
    c.down_totals.ensures filled refl
