-- The loop keeps that the roads before i pass (`RoadsPass`); so the first that does not is the first of all (`roads_fail`), and if none is
-- found, none is (`roads-end`).
use Rattle.card_sections.proofs.Roads.{RoadsPass}
use Rattle.card_sections.proofs.failing_road.Given as goal

abbrev pub invariant-loop-i : goal.invariant-loop-i
invariant-loop-i g l =
    RoadsPass (g.M.MapRows.rows l.map) l.n l.m l.i
