-- Each turn puts one byte more (`PutFirst`, `put-more`).
use Rattle.line_texts.proofs.Areas.{PutFirst}
use Rattle.line_texts.proofs.Out.text.Given as goal

abbrev pub invariant-loop-b : goal.invariant-loop-b
invariant-loop-b l = PutFirst (λ s. s) l.s l.b-index l.initial.self l.self
