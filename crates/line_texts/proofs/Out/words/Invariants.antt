-- Each turn puts one word more, which is the text of one word more (`PutFirst`, `put-more`; `spaced-append`).
use Rattle.line_texts.specs.Areas.{spaced}
use Rattle.line_texts.proofs.Areas.{PutFirst}
use Rattle.line_texts.proofs.Out.words.Given as goal

abbrev pub invariant-loop-w : goal.invariant-loop-w
invariant-loop-w l = PutFirst spaced l.words l.w-index l.initial.self l.self
