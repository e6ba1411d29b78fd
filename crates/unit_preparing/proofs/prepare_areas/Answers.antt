-- The two bodies are sound and have the card's map (`bodies`), so ranks and contraction are that map's. Where its pairs do not fit, all
-- areas have their lengths still and become zeros (`no_room`); where they fit, each of the others is filled by its own call (`with_room`).
use mathlib.Core.Path.{◌∙◌, ◌≡◌, refl}
use borrow.Author.Rules.{rules}
use lib.ListN.{length, replicate}
use Rattle.model.specs.Word.{none_word, unasked}
use Rattle.pairs_contraction.specs.Contraction.{contraction_prepared}
use Rattle.unit_preparing.specs.Preparing.{areas_in}
use Rattle.unit_preparing.proofs.Filling.{alike_same}
use Rattle.unit_preparing.proofs.Prepares.{Bodies, groups-asked, no_room, order-long, roads-long, sized, sound, with_room}
use Rattle.unit_preparing.proofs.prepare_areas.Goals as goal
use Rattle.unit_preparing.proofs.prepare_areas.Goals.{After-order_of-order, in-None, in-Some}

-- the two bodies of the card, with the areas that were lent
bodies : (c : After-order_of-order) → let a = c.args in
    Bodies a.card.now a.s (areas_in a.areas) c.roads_of-roads.result.now c.order_of-order.result.now
bodies c = record { accepts = c.requires; roads-here = c.roads_of-roads.ensures; order-here = c.order_of-order.ensures }

pub fill_pairs-requires : goal.fill_pairs-requires
fill_pairs-requires c =
    let b = bodies (goal.at.fill_pairs-requires c).After-order_of-order in
    let lengths = sized b.accepts in
    (sound b, order-long b, lengths.pairs-high, lengths.times)

pub fill_live-requires : goal.fill_live-requires
fill_live-requires c = roads-long (bodies (goal.at.fill_live-requires c).After-order_of-order)

pub group_roads-requires : goal.group_roads-requires
group_roads-requires c = groups-asked (bodies (goal.at.group_roads-requires c).After-order_of-order)

pub returns : goal.returns
returns c =
    let b = bodies (goal.at.returns c).After-order_of-order in
    let (ranks_are, contracted) = c.fill_pairs.ensures in
    let pairs-kept = c.fill_pairs.auto.pairs in
    elim c.match-fill_pairs.branch [
      | in-None w ↦
          let lengths-kept = alike_same (record {
            ranks = c.fill_pairs.auto.ranks;
            pairs = pairs-kept;
            times = c.fill_pairs.auto.times;
            live = refl;
            down = refl;
            estimates = refl;
            elapsed = refl;
            leaving = refl;
            groups = refl;
          }) in
          rw (w.result-is, w.ranks-is, w.pairs-is, w.times-is, w.live-is)
          (rw (w.down-is, w.estimates-is, w.elapsed-is, w.leaving-is, w.groups-is)
          (no_room b contracted w.in-None.is lengths-kept (alike_same (record {
            ranks = search rules;
            pairs = search rules;
            times = search rules;
            live = search rules;
            down = search rules;
            estimates = search rules;
            elapsed = search rules;
            leaving = search rules;
            groups = search rules;
          }))))
      | in-Some w ↦
          let times_long = c.fill_pairs.auto.times ∙ (sized b.accepts).times in
          let made = contraction_prepared (sound b) ranks_are pairs-kept times_long w.in-Some.is contracted in
          let down_is : w.fill-in-Some.new.self ≡ replicate (length c.args.areas.down.now) none_word = search rules in
          let estimates_are : w.fill-in-Some-2.new.self ≡ replicate (length c.args.areas.estimates.now) unasked = search rules in
          let elapsed-is : w.fill-in-Some-3.new.self ≡ replicate (length c.args.areas.elapsed.now) none_word = search rules in
          rw (w.result-is, w.ranks-is, w.pairs-is, w.times-is, w.live-is)
          (rw (w.down-is, w.estimates-is, w.elapsed-is, w.leaving-is, w.groups-is)
          (with_room b made pairs-kept w.fill_live.ensures down_is estimates_are elapsed-is w.group_roads.ensures))
    ]
