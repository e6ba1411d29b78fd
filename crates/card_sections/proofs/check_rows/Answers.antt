-- Each return is by the first question that fails, since those before it passed.
use Rattle.std.proofs.lemmas.Result.{err_from_is_err_and}
use Rattle.card_sections.proofs.Verdicts.{by_4, by_5, by_6, by-none}
use Rattle.card_sections.proofs.check_rows.Goals as goal

pub returns-in_err-ask : goal.returns-in_err-ask
returns-in_err-ask g c =
    let p = err_from_is_err_and c.from_residual.result c.from_residual.ensures.1 in
    rw (p.1, p.2) (by_4 _ _ (g.M.MapRows.rows c.args.map.now) c.sizes_ok.ensures c.in_err-ask.ensures)

pub returns-in-Some : goal.returns-in-Some
returns-in-Some g c =
    by_5 _ _ (g.M.MapRows.rows c.args.map.now) c.sizes_ok.ensures c.in_ok-ask.ensures c.in-Some.ensures

pub returns-in-Some-failing_place : goal.returns-in-Some-failing_place
returns-in-Some-failing_place g c =
    by_6 _ _ (g.M.MapRows.rows c.args.map.now) c.sizes_ok.ensures c.in_ok-ask.ensures
    c.in_default.ensures c.in-Some-failing_place.ensures

pub returns : goal.returns
returns g c =
    by-none _ _ (g.M.MapRows.rows c.args.map.now) c.sizes_ok.ensures c.in_ok-ask.ensures
    c.in_default.ensures c.in_default-failing_place.ensures
