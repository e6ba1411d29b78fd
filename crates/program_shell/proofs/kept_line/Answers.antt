-- A line that is kept whole is its own bytes; one that is longer than the area is as unreadable as the area is (`long-line`).
use Rattle.program_shell.proofs.Longs.{long-line}
use Rattle.program_shell.proofs.kept_line.Goals as goal

pub returns-in-Long : goal.returns-in-Long
returns-in-Long c = λ xs h w. long-line _ xs h (rw c.in-Long.is at w)
