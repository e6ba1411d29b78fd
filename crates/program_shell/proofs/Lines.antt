-- What a line is answered by: `no 0` if it is unreadable, else what its call answers. Assumes nothing.
use mathlib.Core.Path.{◌∙◌, ◌≡◌, ap, subst, sym}
use mathlib.Core.List.{List}
use Prim.Native.Nat.{◌≤◌, ℕ}
use lib.ListN.{length, length-take, take}
use native.Mathlib.Omega.{arith}
use Rattle.line_input.specs.Counts.{IsPrefixLen}
use Rattle.model.specs.Types.{Answer}
use Rattle.model.specs.State.{Lent, State, answering}
use Rattle.model.specs.Calls.{calling}
use Rattle.model.specs.Promises.{CallContract}
use Rattle.unit_answers.specs.Shape.{call_in}
use Rattle.std.specs.Prelude.{None, Option, Some}
use Rattle.unit_answers.specs.declared.Call.{Call}
use Rattle.line_console.specs.Lines.{line_of}
use Rattle.line_texts.specs.Areas.{Written}
use Rattle.line_console.specs.Texts.{answer_text, unreadable_text}
use Rattle.program_shell.specs.Limits.{junction_limit, out_room}
use Rattle.program_shell.specs.Answering.{Answers, Roomy, holding}
use Rattle.program_shell.proofs.Bounds.{answer-length, shown-text, unreadable-length}

-- a line that says x is answered, from the state s with go's areas l; what is written stands first in `out`
module _ (text : List ℕ) {x : Option Call} (says : x ≡ line_of text) {out₀ out : List ℕ} {k : ℕ} (large : out_room ≤ length out₀) where
  pub unreadable-way : (card : List ℕ) (s : State) (l : Lent) → x ≡ None → Written out₀ unreadable_text out k
      → Answers card s l (line_of text) (holding s l (take k out))
  unreadable-way card s l u w =
      subst (λ (y : Option Call). Answers card s l y (holding s l (take k out))) (sym u ∙ says)
      (ap (holding s l) (shown-text unreadable-length large w))

  pub call-way : {card : List ℕ} {s t : State} {l z : Lent} {c : Call} {answer : Answer} → x ≡ Some c → Roomy l
      → length z.route ≤ junction_limit → CallContract card s (calling (call_in c) l) (answering answer t z)
      → Written out₀ (answer_text answer z.route) out k → Answers card s l (line_of text) (holding t z (take k out))
  call-way {card} {s} {t} {l} {z} {c} {answer} u room h w v =
      subst (λ (y : Option Call). Answers card s l y (holding t z (take k out))) (sym u ∙ says)
      (record {
        room = room;
        answer = answer;
        meets = w;
        printed = shown-text (answer-length answer z.route h) large v;
      })

-- as many bytes as were written stand in the area
pub counted : {text : List ℕ} {k : ℕ} {out₀ out : List ℕ} → Written out₀ text out k → length out ≡ length out₀ → IsPrefixLen k out
counted {k = k} {out = out} w f = let h : k ≤ length out = omega (arith, w.count, f) in (h, omega (arith, h, length-take k out))
