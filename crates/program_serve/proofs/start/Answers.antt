-- The lent parts have the lengths that the card calls for (`lends`), so the program serves as `serve` says.
use Rattle.std.proofs.Common.{refl, replicate}
use Rattle.model.specs.Areas.{areas_of}
use Rattle.unit_questions.specs.Lending.{lent_of}
use Rattle.program_shell.specs.Limits.{junction_limit}
use Rattle.program_serve.specs.Serving.{held_in}
use Rattle.program_serve.proofs.Areas.{lends, lent_areas}
use Rattle.program_serve.proofs.start.Goals as goal

pub returns : goal.returns
returns g c =
    let size = c.room_for-n in
    let served = c.serve in
    let left = served.new in
    let lent = lends c.args.file.now size.ensures.0 size.ensures.1 in
    record {
      areas = lent_areas size.result.n size.result.m;
      lends = lent;
      lent = lent_of (replicate junction_limit 0) (replicate junction_limit 0);
      left = held_in served.result
          (areas_of left.ranks left.pairs left.times left.live left.down left.estimates left.elapsed left.leaving left.groups)
          (lent_of left.route left.log) left.out;
      header = refl;
      runs = served.ensures lent;
    }
