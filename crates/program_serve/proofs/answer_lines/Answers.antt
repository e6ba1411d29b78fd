-- Each turn answers the line that was read last, from what the turn before left, and reads the next (`loop_turn`). Each leaves fewer steps
-- to
-- read with (`steps-fall`).
use Rattle.program_serve.proofs.Talks.{loop_end, loop_turn, said-length, steps-fall, underway_start}
use Rattle.program_serve.proofs.answer_lines.Goals as goal

pub loop-l-init : goal.loop-l-init
loop-l-init g c = record {
  said = said-length c.args.out.now c.args.from.said c.text_of-first.ensures c.turn-l.ensures;
  underway = λ from start n. underway_start n;
}

pub loop-l-smaller : goal.loop-l-smaller
loop-l-smaller g c = steps-fall c.loop-l-test.true c.turn-l-in-loop-l.ensures.next

pub loop-l-preserved : goal.loop-l-preserved
loop-l-preserved g c =
    let out = c.answer_line-reply.new.out in
    let reply = c.answer_line-reply.result in
    record {
      said = said-length out reply.length c.text_of-text.ensures c.turn-l-in-loop-l.ensures;
      underway = λ from start n.
          loop_turn c.loop-l.out out c.heard-heard.result.now reply.length (c.loop-l.invariant.underway from start n) c.loop-l-test.true
          c.heard-heard.ensures c.answer_line-reply.ensures.0 c.text_of-text.ensures c.turn-l-in-loop-l.ensures;
    }

pub returns : goal.returns
returns g c =
    loop_end c.args.out.now c.text_of-first.ensures c.turn-l.ensures c.loop-l.invariant.underway c.loop-l-test.false c.loop-l.invariant.said
