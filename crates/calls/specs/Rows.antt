-- Questions one after the other. Assumes nothing.
use Rattle.std.proofs.Common.{◌∙◌, ap, ap₂, sym}
use Rattle.std.specs.Prelude.{◌≡◌, Err, IsErrAnd, Result, Bool, true}
use Rattle.std.proofs.lemmas.Result.{err_from_is_err_and}
use Rattle.network.specs.declared.Refusal as code
use Rattle.std.proofs.Math.Option.{Option, none}
use Rattle.model.specs.Types.{Refusal}
use Rattle.model.specs.Card.{ask}
use Rattle.model.proofs.Laws.{ask-none}

-- what `?` hands on of a refusal
pub handed_on : {A : Type 0} {e : code.Refusal} {y : Result A code.Refusal} → IsErrAnd y (λ r. r ≡ e) → y ≡ Err e
handed_on {y = y} h = let p = err_from_is_err_and y h in rw (p.1, p.2)

-- a question that passes
pub passes : (q : Refusal) {p b : Bool} → none ≡ ask p q none → p ≡ b → b ≡ true
passes q {p} says is = sym is ∙ (ask-none p q none (sym says)).0

-- a question that passes, and what follows it
pub yes_at : (q : Refusal) {p b : Bool} {x z : Option Refusal} → none ≡ ask p q none → p ≡ b → x ≡ z → x ≡ ask b q z
yes_at q says is follows = follows ∙ rw (passes q says is)

-- a question and what follows it
pub asked : {b c : Bool} (q : Refusal) {x y z : Option Refusal} → x ≡ ask b q y → b ≡ c → y ≡ z → x ≡ ask c q z
asked q e f g = e ∙ ap₂ (λ (b : Bool) (y : Option Refusal). ask b q y) f g

-- the same of a test that the code makes in place
pub tested : (b : Bool) (q : Refusal) {x y z : Option Refusal} → x ≡ ask b q y → y ≡ z → x ≡ ask b q z
tested b q e g = e ∙ ap (λ (y : Option Refusal). ask b q y) g

-- the last question
pub last : {b c : Bool} (q : Refusal) {x : Option Refusal} → x ≡ ask b q none → b ≡ c → x ≡ ask c q none
last q e f = e ∙ ap (λ (b : Bool). ask b q none) f
