-- A reader is made at the first entry, asked for its body, moved on and asked again: the two bodies are those of the first two entries
-- (`walked-bodies`), and the questions are asked of them.
use mathlib.Core.Path.{◌∙◌, ◌≡◌, ap₂}
use mathlib.Core.List.{List}
use Prim.Native.Nat.{ℕ}
use denote.Ref.{Bor}
use Rattle.model.specs.Card.{bodies_refusal}
use Rattle.model.specs.Layout.{body_at}
use Rattle.card_layout.specs.Sections.{entry_after}
use Rattle.card_layout.proofs.Entries.{next-body}
use Rattle.card_reader.specs.declared.Reader.{Reader}
use Rattle.card_reader.proofs.check.Goals as goal

walked-bodies : (s : Bor (List ℕ)) (r r' : Reader) (x y : List ℕ)
    → (r.card ≡ s) × (r.at ≡ 0) → (r'.card ≡ r.card) × (r'.at ≡ entry_after r.card.now r.at)
    → x ≡ body_at r.card.now r.at → y ≡ body_at r'.card.now r'.at
    → bodies_refusal x y ≡ bodies_refusal (body_at s.now 0) (body_at s.now 1)
walked-bodies s r r' x y new-is moved-is ex ey = ap₂ bodies_refusal (ex ∙ first) (ey ∙ second ∙ next-body s.now 0)
  where
    first : body_at r.card.now r.at ≡ body_at s.now 0
    first = ap₂ (λ (c : Bor (List ℕ)) (k : ℕ). body_at c.now k) new-is.0 new-is.1

    second : body_at r'.card.now r'.at ≡ body_at s.now (entry_after s.now 0)
    second =
        ap₂ (λ (c : Bor (List ℕ)) (k : ℕ). body_at c.now k) (moved-is.0 ∙ new-is.0)
        (moved-is.1 ∙ ap₂ (λ (c : Bor (List ℕ)) (k : ℕ). entry_after c.now k) new-is.0 new-is.1)

pub returns : goal.returns
returns c =
    c.check.ensures
    ∙ walked-bodies c.args.card c.new-first.result c.moved_on-second.result c.body.result.now c.body-2.result.now
    c.new-first.ensures c.moved_on-second.ensures c.body.ensures c.body-2.ensures
