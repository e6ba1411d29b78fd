-- The digits that the loop has passed make v (`Passed`): a byte that is no digit, or a value that is too large, decides at once that s is
-- no number (`other_byte`, `overflow`), and at the end v is the number (`passed-all`).
use Rattle.std.proofs.Common.{rules, refl, sym, arith, get_or, ◌∙◌}
use Rattle.line_fields.proofs.Numbers.{Next, long, other_byte, overflow, passed-all, passed-more, short}
use Rattle.line_fields.proofs.read_number.Goals as goal
use Rattle.line_fields.proofs.read_number.Goals.{After-is_ascii_digit, then-is_empty-via-then-is_empty}
use Rattle.line_fields.proofs.read_number.Goals.{then-is_empty-via-else-is_empty+then-s-gt-MOST_DIGITS}

-- the byte of a turn
byte-read : (c : After-is_ascii_digit) → Next c.args.s.now c.loop-b.b-index c.loop-b.v (get_or c.args.s.now c.loop-b.b-index 0)
byte-read c = record { passed = c.loop-b.invariant; below = c.loop-b-test.true; byte_is = refl }

pub returns-then-is_empty : goal.returns-then-is_empty
returns-then-is_empty c = elim c.then-is_empty.branch [
  | then-is_empty-via-then-is_empty w ↦ short c.args.s.now (search rules)
  | then-is_empty-via-else-is_empty+then-s-gt-MOST_DIGITS w ↦ long c.args.s.now w.if-s-gt-MOST_DIGITS.true
]

pub returns-then-not-is_ascii_digit : goal.returns-then-not-is_ascii_digit
returns-then-not-is_ascii_digit c =
    other_byte (byte-read (goal.at.returns-then-not-is_ascii_digit c).After-is_ascii_digit) (sym c.if-not-is_ascii_digit.ensures.value)

pub returns-in_err-checked_mul : goal.returns-in_err-checked_mul
returns-in_err-checked_mul c =
    c.from_residual.ensures
    ∙ overflow (byte-read (goal.at.returns-in_err-checked_mul c).After-is_ascii_digit) (omega (arith, c.in_err-checked_mul.ensures))

pub returns-in_err-v : goal.returns-in_err-v
returns-in_err-v c =
    c.from_residual-in_err-v.ensures
    ∙ overflow (byte-read (goal.at.returns-in_err-v c).After-is_ascii_digit)
    (omega (arith, c.in_err-v.ensures, c.in_ok-checked_mul.ensures, c.from.ensures))

pub loop-b-preserved : goal.loop-b-preserved
loop-b-preserved c =
    let e = c.in_ok-v.ensures in let f = c.in_ok-checked_mul.ensures in
    rw (e.1, f.1, c.from.ensures) (passed-more (byte-read (goal.at.loop-b-preserved c).After-is_ascii_digit)
    (sym c.if-not-is_ascii_digit.ensures.value) (omega (arith, e, f, c.from.ensures)))

pub returns : goal.returns
returns c = passed-all c.loop-b-test.false (search rules) c.if-s-gt-MOST_DIGITS.false c.loop-b.invariant
