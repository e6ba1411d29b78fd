-- `go` and the total, the count, and the roads are put one after the other, which is the text of the three together.
use Rattle.std.proofs.Common.{◌∙◌, ◌++◌, ◌∷◌, [], ap, sym, take}
use Rattle.std.proofs.lemmas.List.{take_min}
use Rattle.line_texts.specs.Areas.{spaced}
use Rattle.line_texts.specs.Ascii.{ascii}
use Rattle.line_texts.specs.Outs.{added_as, added_then}
use Rattle.line_texts.specs.Puts.{spaced-append}
use Rattle.line_answers.proofs.put_trip.Goals as goal

pub returns : goal.returns
returns c =
    let a = c.args in
    let l = take a.k a.route.now in
    let parts = spaced-append (a.total ∷ []) (a.count ∷ l) ∙ ap (λ x. spaced (a.total ∷ []) ++ x) (spaced-append (a.count ∷ []) l) in
    added_as (ap (λ x. ascii "go" ++ x) (sym parts))
    (added_then c.named.ensures (added_then (rw c.from.ensures at c.spaced.ensures) (rw (c.min.ensures, take_min) at c.words.ensures)))
