-- A file that is too long ends in `no 0` (`over-way`); else a refusal ends in its line, which fits in `out` (`refused-way`), and any other
-- answer opens.
use Rattle.std.proofs.Common.{◌≡◌, ap, Ok, refl, Result, sym, ◌∙◌}
use Rattle.model.specs.Types as model
use Rattle.model.specs.Areas.{Areas}
use Rattle.model.specs.Promises.{before}
use Rattle.network.specs.Refusals.{refusal_in}
use Rattle.network.specs.declared.Refusal.{Refusal}
use Rattle.unit_answers.specs.Shape.{answer_in}
use Rattle.unit_answers.specs.declared.Answer.{Answer}
use Rattle.unit_answers.specs.declared.Answer.TheVariants.{Accepted, Estimated, Gone, Previewed}
use Rattle.unit.specs.Shape.{header_in}
use Rattle.program_shell.specs.Opening.{Opens, judged}
use Rattle.program_shell.proofs.Cards.{over-way, refused-way, within-way}
use Rattle.program_shell.proofs.judge.Goals as goal
use Rattle.program_shell.proofs.judge.Goals.{else-bytes-gt-CARD_SIZE+in-Err, else-bytes-gt-CARD_SIZE+in-Ok, then-bytes-gt-CARD_SIZE}

opens : (h : model.Header) (x : Answer) (a : Areas) → Opens (before h a) ≡ judged h (answer_in (Ok x)) a
opens h Accepted a = refl
opens h (Estimated t) a = refl
opens h (Gone t c k) a = refl
opens h (Previewed p q r) a = refl

pub returns : goal.returns
returns c = λ a.
    let judges = λ (x : Result Answer Refusal). judged (header_in c.args.answered.header) (answer_in x) a in
    elim c.if-bytes-gt-CARD_SIZE.branch [
      | then-bytes-gt-CARD_SIZE w ↦
          rw (w.outcome-is, w.out-is) (over-way _ w.if-bytes-gt-CARD_SIZE.true c.requires w.write_unreadable.ensures)
      | else-bytes-gt-CARD_SIZE+in-Ok w ↦
          rw (w.outcome-is, w.in-Ok.is) (within-way w.if-bytes-gt-CARD_SIZE.false (opens _ w.in-Ok.field-0 a))
      | else-bytes-gt-CARD_SIZE+in-Err w ↦
          rw (w.outcome-is, w.out-is) (refused-way (refusal_in w.in-Err.q) c.requires w.write_refusal.ensures
          ∙ within-way w.if-bytes-gt-CARD_SIZE.false (ap judges (sym w.in-Err.is)))
    ]
