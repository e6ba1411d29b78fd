-- Rows that pass questions 4 to 6 are short and of whole roads (`Passes`), so no number is too large and n and m give the card's size;
-- the area is written only when it has that size (`write_7`, `write_made`).
use native.Mathlib.Omega.{arith}
use Rattle.card.proofs.WriteWays.{Passes, area-is, exit, passes, write_7, write_made, write_refused}
use Rattle.card.proofs.write.Goals.{In_ok-check}
use Rattle.card.proofs.write.Goals as goal

-- past questions 4 to 6
passed : (c : In_ok-check) → Passes c.args.roads.now c.args.order.now
passed c = passes c.args.roads.now c.args.order.now c.in_ok-check.ensures

pub returns-in_err-check : goal.returns-in_err-check
returns-in_err-check c =
    exit c.args.roads.now c.args.order.now c.args.area.now _ _ c.from_residual.ensures.1
    (write_refused c.args.roads.now c.args.order.now c.args.area.now c.in_err-check.ensures)

pub overflow_cast-n : goal.overflow_cast-n
overflow_cast-n c = omega (arith, (passed c).short.1)

pub overflow_cast-m : goal.overflow_cast-m
overflow_cast-m c = omega (arith, (passed c).short.0)

pub returns-in_err-ask : goal.returns-in_err-ask
returns-in_err-ask c =
    exit c.args.roads.now c.args.order.now c.args.area.now _ _ c.from_residual-in_err-ask.ensures.1
    (write_7 (passed (goal.at.returns-in_err-ask c).In_ok-check) c.card_size.ensures c.args.area.now c.in_err-ask.ensures)

pub put_card-requires : goal.put_card-requires
put_card-requires c =
    let p = passed (goal.at.put_card-requires c).In_ok-check in
    (p.short, area-is p c.card_size.ensures c.args.area.now c.in_ok-ask.ensures)

pub returns : goal.returns
returns c =
    write_made (passed (goal.at.returns c).In_ok-check) c.card_size.ensures c.args.area.now c.in_ok-ask.ensures
    c.put_card.ensures
