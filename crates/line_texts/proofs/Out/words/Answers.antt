-- What the loop keeps stands in Invariants.antt.
use Rattle.std.proofs.Common.{refl}
use Rattle.line_texts.specs.Areas.{spaced}
use Rattle.line_texts.specs.Puts.{spaced-append}
use Rattle.line_texts.proofs.Areas.{put-more, put-none}
use Rattle.line_texts.proofs.Out.words.Goals as goal

pub loop-w-init : goal.loop-w-init
unfolding spaced
loop-w-init c = put-none refl

pub loop-w-preserved : goal.loop-w-preserved
loop-w-preserved c =
    put-more spaced-append c.loop-w-test.true c.loop-w.invariant
    (rw c.from.ensures at c.spaced.ensures)
