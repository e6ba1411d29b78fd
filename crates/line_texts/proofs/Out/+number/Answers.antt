-- A number below 10 is its one digit (`digit-put`); any other has the digits of its tenth, which is smaller, and then its last digit
-- (`digits-put`).
use Rattle.std.proofs.Common.{rules}
use Rattle.line_texts.proofs.Areas.{digit-put, digits-put}
use Rattle.line_texts.proofs.Out.+number.Goals as goal
use Rattle.line_texts.proofs.Out.+number.Goals.{else-n-ge10, then-n-ge10}

pub returns : goal.returns
returns t c = elim c.if-n-ge10.branch [
  | then-n-ge10 w ↦
      digits-put w.if-n-ge10.true (search rules) w.number.ensures (rw w.self-is at c.byte.ensures)
  | else-n-ge10 w ↦ digit-put w.if-n-ge10.false (rw w.self-is at c.byte.ensures)
]
