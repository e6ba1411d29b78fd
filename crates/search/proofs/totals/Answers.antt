-- The second search finds the estimates that the first one left, so that both together fill what either asks (`finds_both`).
use mathlib.Core.Path.{refl}
use Rattle.search_junctions.specs.Views.{met}
use Rattle.search.specs.Searches.{seen_by}
use Rattle.search.proofs.Wholes.{finds_both, first_half, long_enough, second_half, total_of_lem, views_long, within-again}
use Rattle.search.proofs.totals.Goals as goal

pub search-present-requires : goal.search-present-requires
search-present-requires c =
    let a = c.args in
    let live = met a.trip a.atlas.now.ways.access.now a.atlas.now.ways.live.now in
    record {
      within = within-again c.requires.within live refl refl (first_half a.work.now c.requires.work-is);
      ways-long = long_enough c.requires.within refl;
      log-long = long_enough c.requires.within refl;
    }

-- the first half of the work area has come back, and the second is lent
pub search-new-requires : goal.search-new-requires
search-new-requires c =
    let a = c.args in
    let kept = c.search-present.auto in
    record {
      within = within-again c.requires.within (met (seen_by a.trip a.view) a.atlas.now.ways.access.now a.atlas.now.ways.live.now)
          (views_long a.trip a.view a.atlas.now.ways.access.now a.atlas.now.ways.live.now) kept.estimates
          (second_half a.work.now c.requires.work-is c.search-present.new.elapsed kept.elapsed);
      ways-long = long_enough c.requires.within kept.route;
      log-long = long_enough c.requires.within kept.log;
    }

-- The second search starts from the estimates that the first one left, each of them unasked or filled; so its total is that of its own
-- times, and both together fill what either asks.
pub returns : goal.returns
returns c =
    finds_both (total_of_lem c.search-present.ensures) (total_of_lem c.search-new.ensures)
