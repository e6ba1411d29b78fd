-- A sum with a mark, or one that reaches the marks, is none (`sum-lost`); any other is below them (`sum_fits`), so that it does not wrap.
use Rattle.network.proofs.Sums.{sum_fits, sum-lost}
use native.Mathlib.Omega.{arith}
use Rattle.network.proofs.Time.plus.Goals as goal

pub returns-then-self-ge-UNASKED_WORD : goal.returns-then-self-ge-UNASKED_WORD
returns-then-self-ge-UNASKED_WORD c =
    let args = c.args in
    sum-lost args.self.0 args.other.0 (omega arith) (omega arith) (omega arith)

pub returns-then-self-other : goal.returns-then-self-other
returns-then-self-other c =
    let args = c.args in
    sum-lost args.self.0 args.other.0 (omega arith) (omega arith) (omega arith)

pub returns : goal.returns
returns c =
    let args = c.args in
    sum_fits args.self.0 args.other.0 (omega arith) (omega arith)
