-- The program from its card to its last line. Assumes nothing.
use mathlib.Core.Path.{◌≡◌, subst, sym}
use mathlib.Core.List.{List}
use Prim.Native.Nat.{ℕ}
use Rattle.model.specs.Areas.{Areas}
use Rattle.model.specs.State.{State}
use Rattle.program_shell.specs.Opening.{Lends, Opens, opening}
use Rattle.program_shell.specs.Session.{Conversed, Session, Turn, session_right}
use Rattle.program_shell.proofs.Cards.{opened-prepared}

-- where a card opens, lines that are answered one after the other print what the plain machine answers
pub program_right : (file : List ℕ) (a : Areas) → Lends file a → (s : State) → opening file a ≡ Opens s → (turns : List Turn)
    → Session file s turns → Conversed file turns
program_right file a l s e turns w =
    let p = opened-prepared file a l s e in
    session_right file a turns p.0 (subst (λ (z : State). Session file z turns) (sym p.1) w)
