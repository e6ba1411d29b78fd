-- Both numbers are below 2^63, so each is itself as a signed number, and their difference fits (`difference_fits`).
use native.Mathlib.Omega.{arith}
use Rattle.unit_answers.proofs.Changes.{difference_fits, difference_is}
use Rattle.unit_answers.proofs.difference.Goals as goal

pub overflow_sub-result : goal.overflow_sub-result
overflow_sub-result c =
    difference_fits c.args.new c.args.present (omega arith) (omega arith)

pub returns : goal.returns
returns c =
    difference_is c.args.new c.args.present (omega arith) (omega arith)
