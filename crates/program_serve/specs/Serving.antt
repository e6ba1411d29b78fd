-- The program from its card to its last line: what is read, answered and printed. Definitions, and the theorem that follows from them.
-- Assumes nothing.
use Rattle.std.specs.Prelude.{◌≡◌, ◌⊎◌, false, is_ok, true, List, [], ◌++◌, ◌∷◌, ℕ, length, take}
use Rattle.std.proofs.Common.{subst, sym}
use denote.Triple.Both.{Both}
use Rattle.model.specs.Card.{card_map, map_on}
use Rattle.model.specs.Areas.{Areas}
use Rattle.model.specs.State.{Lent, State}
use Rattle.model.specs.Machine.{started}
use Rattle.network.specs.Lending.{Slice}
use Rattle.unit.specs.Shape.{header_in}
use Rattle.unit.specs.declared.Header.{Header}
use Rattle.line_input.specs.Input.{AtStart, NextLine, in_order}
use Rattle.line_input.specs.AllLines.{Lines, line-more, lines_of, no_more}
use Rattle.line_input.specs.declared.Reader.{Reader}
use Rattle.line_console.specs.Lines.{line_of}
use Rattle.program_shell.specs.Opening.{Ends, Lends, Opening, Opens, opening, printed_in}
use Rattle.program_shell.specs.Answering.{Answers, Held, held_of, holding}
use Rattle.program_shell.specs.Session.{Conversed, Session, Turn, lines_in, machine_texts, texts_in}
use Rattle.program_shell.specs.declared.Opened.{Opened}
use Rattle.program_serve.specs.declared.Talk.{Talk}

-- ---- one line

-- what is at hand between two lines, in the code: the text stands first in the area `out`
abbrev pub held_in : Talk → Areas → Lent → (out : List ℕ) → Held
held_in l a k out = held_of l.header a k (take l.said out)

-- the line is answered from what is at hand
pub record AnsweredTo (card : List ℕ) (h : Held) (heard : List ℕ) (t : Turn) : Type 0 where
  pub line : t.line ≡ heard
  pub lent : t.lent ≡ h.lent
  pub answers : Answers card h.state t.lent (line_of t.line) t.left

-- a text is handed to the operating system, whole; then the next line is read, if there is one
pub record Turns (from : Talk) (handed : Header) (text chunk : List ℕ) (to : Talk) (chunk' area : List ℕ) : Type 0 where
  pub header : to.header ≡ handed
  pub said : to.said ≡ length text
  pub next : NextLine from.reader chunk to.reader chunk' area

-- ---- the loop

-- lines are read and answered one after the other, each from what the one before left, until none is ready: the bytes that were read, and
-- the turns
pub data Serving (card : List ℕ) : Held → Reader → (chunk input : List ℕ) → List Turn → Held → Reader → Type 0 where
  answered : {h z : Held} {from to end : Reader} {chunk chunk' area input : List ℕ} {t : Turn} {turns : List Turn}
      → (n : NextLine from chunk to chunk' area) → to.ready ≡ true
      → AnsweredTo card h n.line t → Serving card t.left to chunk' input turns z end
      → Serving card h from chunk (in_order n.reads ++ input) (t ∷ turns) z end
  over : {h : Held} {from to : Reader} {chunk chunk' area : List ℕ}
      → (n : NextLine from chunk to chunk' area) → to.ready ≡ false
      → Serving card h from chunk (in_order n.reads) [] h to

-- the loop from what is at hand and a reader, to what it leaves; as many bytes were printed last as the text there has
pub record Served (card : List ℕ) (h : Held) (from : Reader) (z : Held) (l : Talk) : Type 0 where
  pub chunk : List ℕ
  pub input : List ℕ
  pub turns : List Turn
  pub serving : Serving card h from chunk input turns z l.reader
  pub said : l.said ≡ length z.text

-- the contract of `answer_lines`: from what is at hand when it begins, to what is at hand when it returns
abbrev pub AnswersLines : (card : List ℕ) → Talk → Both Areas Areas → Both Lent Lent → (out : Slice) → Talk → Type 0
AnswersLines card from a k out l =
    Served card (held_in from a.entry k.entry out.entry.now) from.reader (held_in l a.exit k.exit out.exit.now) l

-- ---- the program

-- what a card leaves to begin with: where it opens, the input may be read
pub record Begun (o : Opened) (l : Talk) : Type 0 where
  pub reader : AtStart (is_ok o.outcome) l.reader
  pub header : l.header ≡ o.header
  pub said : l.said ≡ printed_in o.outcome

-- a card that does not open: its line is printed, "Each of these ends the program", and no step is made to read a line
pub record Refuses (line : List ℕ) (z : Held) (l : Talk) : Type 0 where
  pub printed : z.text ≡ line
  pub said : l.said ≡ length line
  pub unread : l.reader.turns ≡ 18446744073709551615

-- a card that opens: lines are answered from the prepared state, until the input has ended or the reader's 2 ^ 64 - 1 steps, bytes and
-- reads, are used up (`stops`). At the input's end the lines are those of all that was read, and the texts that were printed are the plain
-- machine's answers to them
pub record Attends (file : List ℕ) (s : State) (lent : Lent) (z : Held) (l : Talk) : Type 0 where
  pub start : Reader
  pub at-start : AtStart true start
  pub served : Served file (holding s lent []) start z l
  pub stops : (l.reader.ended ≡ true) ⊎ (l.reader.turns ≡ 0)
  pub lines : l.reader.ended ≡ true → lines_of served.input ≡ lines_in served.turns
  pub texts : l.reader.ended ≡ true
      → texts_in served.turns ≡ machine_texts (lines_of served.input) (card_map file) (started (map_on file))
  pub printed : Conversed file served.turns

abbrev pub Runs : (file : List ℕ) → Opening → (lent : Lent) → Held → Talk → Type 0
Runs file (Ends line) lent z l = Refuses line z l
Runs file (Opens s) lent z l = Attends file s lent z l

-- the contract of `serve`: in the areas that the card is lent, the card opens or not
abbrev pub Serves : (file : List ℕ) → Both Areas Areas → Both Lent Lent → (out : List ℕ) → Talk → Type 0
Serves file a k out l = Lends file a.entry → Runs file (opening file a.entry) k.entry (held_in l a.exit k.exit out) l

-- the same with areas of the program's own
pub record Starts (file : List ℕ) (l : Talk) : Type 0 where
  pub areas : Areas
  pub lends : Lends file areas
  pub lent : Lent
  pub left : Held
  pub header : left.state.header ≡ header_in l.header
  pub runs : Runs file (opening file areas) lent left l

-- ---- laws

module _ {card : List ℕ} where
  pub serving_session : {chunk input : List ℕ} {h z : Held} {from end : Reader} {turns : List Turn}
      → Serving card h from chunk input turns z end → Session card h.state turns
  serving_session (answered n e a w) = (a.answers, serving_session w)
  serving_session (over n e) = tt

  pub serving-lines : {chunk input : List ℕ} {h z : Held} {from end : Reader} {turns : List Turn}
      → Serving card h from chunk input turns z end → Lines from chunk input (lines_in turns) end
  serving-lines {from = from} {end = end} (answered {chunk = chunk} {input = input} {turns = turns} n e a w) =
      subst (λ (x : List ℕ). Lines from chunk (in_order n.reads ++ input) (x ∷ lines_in turns) end) (sym a.line)
      (line-more n e (serving-lines w))
  serving-lines (over n e) = no_more n e
