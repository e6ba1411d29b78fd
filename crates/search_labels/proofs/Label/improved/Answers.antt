-- Each way through the code is one case of `Improved`, by the tests that it passed, or two where the times are one (`smaller_stays`). Only
-- a smaller time needs lemmas for its key: the sum that is formed is a candidate's key (`takes_over`), or it is none (`stays-lost`). What
-- is stored fits in its words, since a time takes over only where it is smaller.
use Rattle.std.proofs.Common.{◌<◌, arith}
use Rattle.std.proofs.lemmas.Grind.{common_steps}
use Rattle.search_labels.specs.Labelling.{later, settled}
use Rattle.search_labels.proofs.Improves.{smaller_stays, stays-lost, takes_over}
use Rattle.search_labels.proofs.Label.improved.Goals.{then-logged-via-else-logged+then-lt}
use Rattle.search_labels.proofs.Label.improved.Goals.{then-logged-via-then-logged}
use Rattle.search_labels.proofs.Label.improved.Goals as goal

pub returns-then-logged : goal.returns-then-logged
returns-then-logged c =
    let (fits, _) = c.requires in (
      elim c.then-logged.branch [
        | then-logged-via-then-logged w ↦ settled w.if-logged.true
        | then-logged-via-else-logged+then-lt w ↦ later w.if-logged.false (grind (arith, common_steps))
      ],
      fits,
    )

pub returns-then-eq : goal.returns-then-eq
returns-then-eq c =
    let (fits, arc) = c.requires in (
      smaller_stays c.if-logged.false (grind (arith, common_steps)) c.min.ensures,
      record { time-low = fits.time-low; key-low = fits.key-low; via-low = omega (arith, fits.via-low, c.min.ensures) },
    )

pub returns-then-key-lt-SETTLED : goal.returns-then-key-lt-SETTLED
returns-then-key-lt-SETTLED c =
    let args = c.args in
    let (fits, arc) = c.requires in
    let smaller : args.offer.0 < args.self.time.0 = grind (arith, common_steps) in (
      takes_over args.offer.0 args.estimate.0 c.plus-key.ensures c.if-logged.false smaller
          (omega arith) (omega arith) c.if-key-lt-SETTLED.true,
      record { time-low = omega (arith, fits.time-low, smaller); key-low = omega (arith, c.if-key-lt-SETTLED.true); via-low = arc },
    )

pub returns-else-key-lt-SETTLED : goal.returns-else-key-lt-SETTLED
returns-else-key-lt-SETTLED c =
    let args = c.args in
    let (fits, _) = c.requires in (
      stays-lost args.offer.0 args.estimate.0 c.plus-key.ensures c.if-logged.false (grind (arith, common_steps))
          c.if-key-lt-SETTLED.false,
      fits,
    )
