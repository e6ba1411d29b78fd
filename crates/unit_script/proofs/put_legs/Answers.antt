-- put_legs: what its loop keeps stands in Invariants.antt.
use Rattle.std.proofs.Common.{◌∙◌, ap, arith}
use Rattle.std.specs.Prelude.{◌≡◌, ◌*◌, ◌+◌, ℕ}
use Rattle.model.specs.Limits.{most_legs}
use Rattle.unit_script.specs.Words.{answer_size, legs_words, put_at}
use Rattle.unit_script.proofs.Answers.{leg-stored, legs-start}
use Rattle.unit_script.proofs.put_legs.Goals as goal

pub loop-i-init : goal.loop-i-init
loop-i-init c = let a = c.args in legs-start a.out.now a.legs.totals a.legs.roads (answer_size * a.k + 4)

pub loop-i-preserved : goal.loop-i-preserved
loop-i-preserved c =
    let a = c.args in
    leg-stored a.out.now a.legs.totals a.legs.roads (answer_size * a.k + 4) c.loop-i.i c.loop-i.invariant
    (omega (arith, c.requires, c.loop-i-test.true)) c.loop-i.auto.out

pub returns : goal.returns
returns c =
    let a = c.args in
    let all : c.loop-i.i ≡ most_legs = omega (arith, c.loop-i.auto.i-end, c.loop-i-test.false) in
    c.loop-i.invariant ∙ ap (λ (i : ℕ). put_at a.out.now (answer_size * a.k + 4) (legs_words a.legs.totals a.legs.roads 0 i)) all
