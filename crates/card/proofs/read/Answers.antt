-- Each question is the first of those that are left: it passes (`step`), or its refusal is the answer (`stop`, `exit`). A card that
-- `card_reader::check` passes has so few junctions and roads that both numbers are words (`n-fits`, `m-fits`).
use mathlib.Core.Path.{◌∙◌, ◌≡◌, ap, refl, sym}
use lib.ListN.{length}
use Rattle.model.specs.Card.{card_refusal}
use Rattle.card.proofs.ReadWays.{after_count, after_fits, after_four, after_kinds, after_starts, after_table, all_asked}
use Rattle.card.proofs.ReadWays.{count-is, exit, m-fits, n-fits, read_passed, step, stop, table-is, third-is}
use Rattle.card.proofs.read.Goals.{In_ok-ask, In_ok-ask-2, In_ok-ask-3, In_ok-ask-4, In_ok-ask-5, In_ok-ask-6}
use Rattle.card.proofs.read.Goals as goal

-- ---- past the questions

past_1 : (c : In_ok-ask) → card_refusal c.args.card.now ≡ after_four c.args.card.now
past_1 c = step c.args.card.now _ _ _ (all_asked c.args.card.now) refl c.in_ok-ask.ensures

past_2 : (c : In_ok-ask-2) → card_refusal c.args.card.now ≡ after_four c.args.card.now
    → card_refusal c.args.card.now ≡ after_count c.args.card.now
past_2 c left = step c.args.card.now _ _ _ left (count-is c.args.card.now c.count_ok.ensures c.sections-count.ensures) c.in_ok-ask-2.ensures

past_3 : (c : In_ok-ask-3) → card_refusal c.args.card.now ≡ after_count c.args.card.now
    → card_refusal c.args.card.now ≡ after_table c.args.card.now
past_3 c left =
    step c.args.card.now _ _ _ left (table-is c.args.card.now c.table_size.ensures c.sections-count.ensures) c.in_ok-ask-3.ensures

past_4 : (c : In_ok-ask-4) → card_refusal c.args.card.now ≡ after_table c.args.card.now
    → card_refusal c.args.card.now ≡ after_kinds c.args.card.now
past_4 c left = step c.args.card.now _ _ _ left c.kinds_ok.ensures c.in_ok-ask-4.ensures

past_5 : (c : In_ok-ask-5) → card_refusal c.args.card.now ≡ after_kinds c.args.card.now
    → card_refusal c.args.card.now ≡ after_starts c.args.card.now
past_5 c left = step c.args.card.now _ _ _ left c.starts_ok.ensures c.in_ok-ask-5.ensures

past_6 : (c : In_ok-ask-6) → card_refusal c.args.card.now ≡ after_starts c.args.card.now
    → card_refusal c.args.card.now ≡ after_fits c.args.card.now
past_6 c left = step c.args.card.now _ _ _ left (third-is c.args.card.now c.access_fits.ensures c.roads_of.ensures) c.in_ok-ask-6.ensures

-- ---- the answers

pub returns-in_err-ask : goal.returns-in_err-ask
returns-in_err-ask c =
    exit c.args.card.now _ _ c.from_residual.ensures.1
    (stop c.args.card.now _ _ _ (all_asked c.args.card.now) refl c.in_err-ask.ensures)

pub returns-in_err-ask-2 : goal.returns-in_err-ask-2
returns-in_err-ask-2 c =
    let at = goal.at.returns-in_err-ask-2 c in
    let left = past_1 at.In_ok-ask in
    exit c.args.card.now _ _ c.from_residual-in_err-ask-2.ensures.1
    (stop c.args.card.now _ _ _ left (count-is c.args.card.now c.count_ok.ensures c.sections-count.ensures) c.in_err-ask-2.ensures)

pub returns-in_err-ask-3 : goal.returns-in_err-ask-3
returns-in_err-ask-3 c =
    let at = goal.at.returns-in_err-ask-3 c in
    let left = past_2 at.In_ok-ask-2 (past_1 at.In_ok-ask) in
    exit c.args.card.now _ _ c.from_residual-in_err-ask-3.ensures.1
    (stop c.args.card.now _ _ _ left (table-is c.args.card.now c.table_size.ensures c.sections-count.ensures) c.in_err-ask-3.ensures)

pub returns-in_err-ask-4 : goal.returns-in_err-ask-4
returns-in_err-ask-4 c =
    let at = goal.at.returns-in_err-ask-4 c in
    let left = past_3 at.In_ok-ask-3 (past_2 at.In_ok-ask-2 (past_1 at.In_ok-ask)) in
    exit c.args.card.now _ _ c.from_residual-in_err-ask-4.ensures.1
    (stop c.args.card.now _ _ _ left c.kinds_ok.ensures c.in_err-ask-4.ensures)

pub returns-in_err-ask-5 : goal.returns-in_err-ask-5
returns-in_err-ask-5 c =
    let at = goal.at.returns-in_err-ask-5 c in
    let left = past_4 at.In_ok-ask-4 (past_3 at.In_ok-ask-3 (past_2 at.In_ok-ask-2 (past_1 at.In_ok-ask))) in
    exit c.args.card.now _ _ c.from_residual-in_err-ask-5.ensures.1
    (stop c.args.card.now _ _ _ left c.starts_ok.ensures c.in_err-ask-5.ensures)

pub returns-in_err-ask-6 : goal.returns-in_err-ask-6
returns-in_err-ask-6 c =
    let at = goal.at.returns-in_err-ask-6 c in
    let table = past_3 at.In_ok-ask-3 (past_2 at.In_ok-ask-2 (past_1 at.In_ok-ask)) in
    let left = past_5 at.In_ok-ask-5 (past_4 at.In_ok-ask-4 table) in
    let third = third-is c.args.card.now c.access_fits.ensures c.roads_of.ensures in
    exit c.args.card.now _ _ c.from_residual-in_err-ask-6.ensures.1
    (stop c.args.card.now _ _ _ left third c.in_err-ask-6.ensures)

pub returns-in_err-check : goal.returns-in_err-check
returns-in_err-check c =
    let at = goal.at.returns-in_err-check c in
    let table = past_3 at.In_ok-ask-3 (past_2 at.In_ok-ask-2 (past_1 at.In_ok-ask)) in
    let left = past_6 at.In_ok-ask-6 (past_5 at.In_ok-ask-5 (past_4 at.In_ok-ask-4 table)) in
    exit c.args.card.now _ _ c.from_residual-in_err-check.ensures.1 (left ∙ sym c.in_err-check.ensures)

pub overflow_cast-result : goal.overflow_cast-result
overflow_cast-result c =
    record { fits = n-fits c.args.card.now c.in_ok-check.ensures (ap length c.order_of.ensures) }

pub overflow_cast-result-2 : goal.overflow_cast-result-2
overflow_cast-result-2 c =
    record { fits = m-fits c.args.card.now c.in_ok-check.ensures (ap length c.roads_of.ensures) }

pub returns : goal.returns
returns c =
    let at = goal.at.returns c in
    let table = past_3 at.In_ok-ask-3 (past_2 at.In_ok-ask-2 (past_1 at.In_ok-ask)) in
    let left = past_6 at.In_ok-ask-6 (past_5 at.In_ok-ask-5 (past_4 at.In_ok-ask-4 table)) in
    read_passed c.args.card.now c.in_ok-check.ensures left (ap length c.order_of.ensures) (ap length c.roads_of.ensures)
