-- What the program answers to a line. Definitions only.
use Rattle.std.specs.Prelude.{◌≡◌, List, None, Option, Some, ℕ, length, take}
use denote.Triple.Both.{Both}
use Rattle.line_input.specs.Counts.{IsPrefixLen}
use Rattle.model.specs.Types as model
use Rattle.model.specs.Areas.{Areas, areas_of}
use Rattle.model.specs.State.{Lent, State, answering}
use Rattle.model.specs.Calls.{Asked, calling}
use Rattle.model.specs.Promises.{CallContract, before}
use Rattle.unit_answers.specs.Shape.{call_in}
use Rattle.unit_questions.specs.declared.Prepared.{Prepared}
use Rattle.unit.specs.Shape.{header_in}
use Rattle.unit.specs.declared.Header.{Header}
use Rattle.line_console.specs.Lines.{line_of}
use Rattle.line_console.specs.Texts.{answer_text, unreadable_text}
use Rattle.unit_answers.specs.declared.Call.{Call}
use Rattle.program_shell.specs.Limits.{junction_limit}
use Rattle.program_shell.specs.declared.Reply.{Reply}

-- what is at hand between two lines: the unit's header and areas, go's two areas, and the text that was printed last
pub record Held : Type 0 where
  pub state : State
  pub lent : Lent
  pub text : List ℕ

abbrev pub holding : State → Lent → (text : List ℕ) → Held
holding s l text = record { state = s; lent = l; text = text }

-- the unit's nine areas, of which five are the struct's
abbrev pub areas_at : Prepared → (live down estimates elapsed : List ℕ) → Areas
areas_at p live down estimates elapsed =
    areas_of p.ranks.now p.pairs.now p.times.now live down estimates elapsed p.leaving.now p.groups.now

-- the same in the code
abbrev pub held_of : Header → Areas → Lent → (text : List ℕ) → Held
held_of h a l text = holding (before (header_in h) a) l text

-- go's two areas have a word for each junction of the largest map that the program takes
abbrev pub Roomy : Lent → Type 0
Roomy l = (length l.route ≡ junction_limit) × (length l.log ≡ junction_limit)

-- a readable line makes its call, and what the call answers is printed; a go's roads stand first in its route area
pub record Replies (card : List ℕ) (s : State) (l : Lent) (c : Asked) (z : Held) : Type 0 where
  pub room : Roomy l
  pub answer : model.Answer
  pub meets : CallContract card s (calling c l) (answering answer z.state z.lent)
  pub printed : z.text ≡ answer_text answer z.lent.route

-- from the state s, with go's areas l, a line leaves z; "an unreadable line prints `no 0`", and leaves header and areas as they were
abbrev pub Answers : (card : List ℕ) (s : State) (l : Lent) → Option Call → Held → Type 0
Answers card s l None z = z ≡ holding s l unreadable_text
Answers card s l (Some c) z = Replies card s l (call_in c) z

-- the contract of `answer_line`: the text that is printed stands first in `out`
abbrev pub AnswersLine : (card line : List ℕ) → Header → Both Areas Areas → Both Lent Lent → (out : List ℕ) → Reply → Type 0
AnswersLine card line h a l out r =
    Answers card (before (header_in h) a.entry) l.entry (line_of line) (held_of r.header a.exit l.exit (take r.length out))
    × IsPrefixLen r.length out
