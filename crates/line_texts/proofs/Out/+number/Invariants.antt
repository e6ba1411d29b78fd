-- The number falls from call to call.
use Rattle.line_texts.proofs.Out.+number.Given as goal

abbrev pub decreases-number : goal.decreases-number
decreases-number l = l.n
