-- replay: what its loop keeps stands in Invariants.antt.
use Rattle.std.proofs.Common.{◌∙◌, ap}
use Rattle.unit_script.specs.Words.{scripted_in}
use Rattle.unit_script.proofs.Answers.{made-length}
use Rattle.unit_script.proofs.Scripts.{replay_made, run-cut, run-full, run-turn, turn-ends, turn-fits, turn-start}
use Rattle.unit_script.proofs.replay.Goals as goal

pub loop-k-init : goal.loop-k-init
loop-k-init c = turn-start

pub make_call-r-requires : goal.make_call-r-requires
make_call-r-requires c = turn-fits c.loop-k.invariant 0 (c.call_at-c.ensures 0)

pub loop-k-preserved : goal.loop-k-preserved
loop-k-preserved c =
    let inv = c.loop-k.invariant in
    let kept = c.make_call-r.auto in
    let (kind-is, end-is, whole) = c.in-Some.ensures in
    record {
      within = turn-ends inv end-is;
      live = kept.live ∙ inv.live;
      down = kept.down ∙ inv.down;
      estimates = kept.estimates ∙ inv.estimates;
      elapsed = kept.elapsed ∙ inv.elapsed;
      route = kept.route ∙ inv.route;
      log = kept.log ∙ inv.log;
      work-is = kept.work ∙ inv.work-is;
      words = c.put_made.auto.out ∙ inv.words;
      run = run-turn inv.run c.loop-k-test.true whole inv.route inv.log inv.work-is
          (ap (scripted_in c.call_at-c.result _) c.stops_at-stops.ensures ∙ c.call_at-c.ensures _) end-is
          c.make_call-r.ensures (made-length c.make_call-r.result) c.put_made.ensures;
    }

pub returns-after-loop-k : goal.returns-after-loop-k
returns-after-loop-k c = replay_made (run-full c.loop-k.invariant.run c.room_in-room.ensures c.loop-k-test.false)

pub returns-in_default : goal.returns-in_default
returns-in_default c = replay_made (run-cut c.loop-k.invariant.run c.room_in-room.ensures c.in_default.ensures)
