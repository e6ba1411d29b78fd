-- What the loop keeps stands in Invariants.antt.
use borrow.Author.Rules.{rules}
use Rattle.card_sections.proofs.Seen.{PlaceTested, places-end, places_fail, places-start, places-turn}
use Rattle.card_sections.proofs.failing_place.Goals as goal
use Rattle.card_sections.proofs.failing_place.Goals.{After-place_ok}
use Rattle.card_sections.proofs.failing_place.Given.{Over}

-- the test of place k is of the junction that the order names there
place-tested : (g : Over) (c : After-place_ok g) →
    PlaceTested (g.M.MapRows.rows c.args.map.now) c.junctions-n.result c.loop-k.k c.loop-k.seen c.place_ok.result c.place_ok.new.seen
place-tested g c = record {
  j = c.place-j.result.0;
  named = c.place-j.ensures;
  answer = c.place_ok.ensures.value;
  flags = c.place_ok.ensures.seen_after;
}

pub loop-k-init : goal.loop-k-init
loop-k-init g c = places-start c.junctions-n.ensures.is c.junctions-n.ensures.few

pub returns-then-not-place_ok : goal.returns-then-not-place_ok
returns-then-not-place_ok g c =
    let tested = place-tested g (goal.at.returns-then-not-place_ok g c).After-place_ok in
    places_fail c.loop-k.invariant tested c.loop-k-test.true c.if-not-place_ok.true

pub loop-k-preserved : goal.loop-k-preserved
loop-k-preserved g c =
    let tested = place-tested g (goal.at.loop-k-preserved g c).After-place_ok in
    places-turn c.loop-k.invariant tested c.loop-k-test.true (search rules) c.if-not-place_ok.false

pub returns : goal.returns
returns g c = places-end c.loop-k.invariant c.loop-k-test.false
