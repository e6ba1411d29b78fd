-- As many steps as there are junctions make the whole history. The run leaves the target's time, which is the total, and the roads that
-- gave the times, over which the way back is the route (`searches_lost`, `searches_found`).
use mathlib.Core.Path.{◌∙◌, refl, sym}
use Rattle.search.proofs.Wholes.{searches_found, searches_lost}
use Rattle.search.proofs.search_in.Goals as goal

pub advance-logged-requires : goal.advance-logged-requires
advance-logged-requires c =
    let (pre, n_is) = c.requires in
    (record { within = pre.lends.within; log-long = pre.lends.log-long; fresh = pre.fresh }, n_is)

pub returns-then-is_none : goal.returns-then-is_none
returns-then-is_none c =
    let lends = c.requires.0.lends in
    searches_lost lends.within c.advance-logged.ensures.advanced refl
    (sym c.is_none.ensures ∙ c.if-is_none.true)

pub returns : goal.returns
returns c =
    let lends = c.requires.0.lends in
    let (number_is, route-is) = c.way_back-roads.ensures in
    searches_found lends.within c.advance-logged.ensures.advanced refl
    (sym c.is_none.ensures ∙ c.if-is_none.false) number_is route-is
