-- The loop keeps that the places before k pass, and that the flags tell the junctions which stand at them (`PlacesPass`); so the first
-- place that does not pass is the first of all (`places_fail`).
use Rattle.card_sections.proofs.Seen.{PlacesPass}
use Rattle.card_sections.proofs.failing_place.Given as goal

abbrev pub invariant-loop-k : goal.invariant-loop-k
invariant-loop-k g l =
    PlacesPass (g.M.MapRows.rows l.map) l.n l.k l.seen
