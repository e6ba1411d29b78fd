-- `no` and the number are put, and the place after them where the refusal has one: the text of the two together.
use Rattle.std.proofs.Common.{◌≡◌, ◌⊎◌, ◌++◌, ◌∷◌, [], ap, inl, inr, sym, ℕ}
use Rattle.network.specs.Refusals.{refusal_in}
use Rattle.network.specs.declared.Refusal.{Refusal}
use Rattle.network.specs.declared.Refusal.TheVariants.{Place, Road}
use Rattle.line_texts.specs.Areas.{spaced}
use Rattle.line_texts.specs.Ascii.{ascii}
use Rattle.line_texts.specs.Outs.{Added, added_as, added_then}
use Rattle.line_texts.specs.Puts.{spaced-append}
use Rattle.line_texts.specs.declared.Out.{Out}
use Rattle.line_answers.specs.Texts.{refusal_text}
use Rattle.line_answers.proofs.put_refusal.Goals as goal

placed : (q : Refusal) (i : ℕ) {o m z : Out} → (q ≡ Road i) ⊎ (q ≡ Place i)
    → Added (ascii "no" ++ spaced ((refusal_in q).question ∷ [])) o m → Added (spaced (i ∷ [])) m z
    → Added (refusal_text (refusal_in q)) o z
placed q i (inl e) x y =
    rw e (added_as (ap (λ l. ascii "no" ++ l) (sym (spaced-append (5 ∷ []) (i ∷ [])))) (added_then (rw e at x) y))
placed q i (inr e) x y =
    rw e (added_as (ap (λ l. ascii "no" ++ l) (sym (spaced-append (6 ∷ []) (i ∷ [])))) (added_then (rw e at x) y))

pub returns-in-Road : goal.returns-in-Road
returns-in-Road c =
    placed c.args.q c.in-Road.i c.in-Road.is (rw (c.from.ensures, c.question.ensures) at c.named.ensures)
    (rw c.from-in-Road.ensures at c.spaced.ensures)
