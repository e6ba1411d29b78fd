-- A refusal leaves the estimates as they were (`refused`); otherwise they are the callee's (`estimate-made`).
use Rattle.std.proofs.Common.{◌∙◌, ap, sym, arith}
use Rattle.std.specs.Prelude.{refl}
use Rattle.model.specs.Calls.{Estimate}
use Rattle.model.specs.Promises.{base_on}
use Rattle.unit_questions.specs.Lending.{lengths_in}
use Rattle.calls.specs.Fitting.{order-sized, pairs-few}
use Rattle.calls.specs.Rows.{handed_on}
use Rattle.calls.specs.Shape.{handed, held}
use Rattle.calls.specs.Made.{CallPassed, call-passed, refused, same-aimed}
use Rattle.call_estimate.proofs.Made.{estimate-below, estimate-made}
use Rattle.call_estimate.proofs.estimate.Goals as goal
use Rattle.call_estimate.proofs.estimate.Goals.{In_ok-estimate_asked}

-- no question refuses
passed : (c : In_ok-estimate_asked) → let a = c.args in
    CallPassed a.card.now (held a.sizes a.target) (lengths_in a.l) (Estimate a.j.0)
passed c = call-passed c.in_ok-estimate_asked.was (c.estimate_asked.ensures (base_on c.args.card.now))

pub estimate-requires : goal.estimate-requires
estimate-requires c =
    let told = c.requires in
    let p = passed (goal.at.estimate-requires c).In_ok-estimate_asked in
    let f = p.sizes in record {
      junction_in = (estimate-below p).0;
      n-high = f.n-high;
      order_is = order-sized f c.order_of.ensures;
      ranks_are = sym told.ranks_are ∙ f.lengths.ranks;
      down_is = sym told.down_is ∙ f.lengths.down;
      estimates_are = sym told.estimates_are ∙ f.lengths.estimates;
      records_in = omega (arith, f.lengths.room, told.pairs_are);
      times_in = omega (arith, f.lengths.room, f.lengths.times, told.times_are);
      count-high = pairs-few f;
    }

pub returns-in_err-estimate_asked : goal.returns-in_err-estimate_asked
returns-in_err-estimate_asked c b lengths-are ranks_are pairs_are times_are aimed-is k =
    let a = c.args in
    let h = held a.sizes a.target in
    let says = c.estimate_asked.ensures (base_on a.card.now) in
    same-aimed (refused {h = h} lengths-are c.in_err-estimate_asked.was says (ap (handed h) (handed_on c.from_residual.ensures.1))) aimed-is

pub returns : goal.returns
returns c b lengths-are ranks_are pairs_are times_are aimed-is k =
    estimate-made lengths-are (passed (goal.at.returns c).In_ok-estimate_asked) ranks_are pairs_are times_are aimed-is
    c.order_of.ensures c.estimate.ensures refl
