-- What the program does with a card: one that does not open has its line printed, and nothing is read (`refuses`); from one that opens the
-- lines are answered (`attends`). Assumes nothing.
use mathlib.Core.Path.{◌∙◌, ◌≡◌, ap, ap₂, refl, subst, sym}
use Rattle.std.specs.Prelude.{Err, is_ok, Ok, Result}
use mathlib.Core.Bool.{Bool, false, false≢true, not, true}
use mathlib.Core.List.{List, []}
use Prim.Native.Nat.{◌+◌, ℕ}
use lib.ListN.{length, take}
use native.Mathlib.Omega.{arith}
use Rattle.model.specs.Card.{card_map, map_on}
use Rattle.model.specs.Areas.{Areas}
use Rattle.model.specs.State.{Lent, State}
use Rattle.model.specs.Machine.{started}
use Rattle.model.specs.Promises.{before}
use Rattle.unit.specs.Shape.{header_in}
use Rattle.unit.specs.declared.Header.{Header}
use Rattle.line_input.specs.Input.{AtStart, Ends, after-end, at-end, at-newline, out_of_turns}
use Rattle.line_input.specs.AllLines.{lines-right, lines-stop}
use Rattle.line_input.specs.declared.Reader.{Reader}
use Rattle.program_shell.specs.Opening as shell
use Rattle.program_shell.specs.Answering.{Held, held_of}
use Rattle.program_shell.specs.Session.{Session, Turn, machine_texts}
use Rattle.program_shell.specs.declared.Opened.{Opened}
use Rattle.program_shell.proofs.Programs.{program_right}
use Rattle.program_serve.specs.Serving.{Attends, Begun, Refuses, Runs, Served, Serving, answered, held_in, over, serving-lines}
use Rattle.program_serve.specs.Serving.{serving_session}
use Rattle.program_serve.specs.declared.Talk.{Talk}

-- ---- an input that has ended

still : {input line rest : List ℕ} {left : ℕ} {reads : List (List ℕ)} {b t e : Bool} → (from : ℕ) → Ends input line rest left b reads t e
    → b ≡ true → left + (length input + length reads) ≡ from + length rest → (t ≡ false) × (left ≡ from)
still from (at-newline g e) q h = absurd (false≢true q)
still from (at-end g e f) q h = absurd (false≢true q)
still from (after-end f g) q h = let z = ap length g in (refl, omega (arith, h, z))
still from (out_of_turns g e f) q h = absurd (false≢true q)

ended-still : {card : List ℕ} {from end : Reader} {chunk input : List ℕ} {turns : List Turn} {h z : Held}
    → Serving card h from chunk input turns z end → from.ended ≡ true → (z ≡ h) × (end.turns ≡ from.turns)
ended-still {from = from} (answered n r a w) q = absurd (false≢true (sym (still from.turns n.ends q n.turns).0 ∙ r))
ended-still {from = from} (over n r) q = (refl, (still from.turns n.ends q n.turns).1)

-- ---- the card

-- it was opened in the areas `lent`, which are now a
module _ {file : List ℕ} (lent : Areas) {a : Areas} (lends : shell.Lends file lent) {o : Opened} (out : List ℕ) {k : Lent} {from : Talk}
    (begun : Begun o from) {z : Held} {l : Talk} (served : Served file (held_in from a k out) from.reader z l) where
  refuses : (n : ℕ) → o.outcome ≡ Err n → Refuses (take n out) z l
  refuses n p =
      let s = begun.reader in
      let e = ended-still served.serving (s.ended ∙ ap (λ (x : Result Unit ℕ). not (is_ok x)) p) in
      let printed = ap (λ (h : Held). h.text) e.0 ∙ ap (λ (i : ℕ). take i out) (begun.said ∙ ap shell.printed_in p) in
      record { printed = printed; said = served.said ∙ ap length printed; unread = e.1 ∙ s.turns }

  abbrev opened : State
  opened = before (header_in o.header) a

  attends : o.outcome ≡ Ok tt → shell.opening file lent ≡ shell.Opens opened → Attends file opened k z l
  attends p opens =
      let begins : held_in from a k out ≡ held_of o.header a k [] =
      ap₂ (λ (h : Header) (i : ℕ). held_of h a k (take i out)) begun.header (begun.said ∙ ap shell.printed_in p) in
      let at-start = subst (λ (x : Result Unit ℕ). AtStart (is_ok x) from.reader) p begun.reader in
      let lines = serving-lines served.serving in
      let printed = program_right file lent lends opened opens served.turns
      (subst (λ (h : Held). Session file h.state served.turns) begins (serving_session served.serving)) in
      record {
        start = from.reader;
        at-start = at-start;
        served = record {
          chunk = served.chunk;
          input = served.input;
          turns = served.turns;
          serving = subst (λ (h : Held). Serving file h from.reader served.chunk served.input served.turns z l.reader) begins
              served.serving;
          said = served.said;
        };
        stops = lines-stop lines;
        lines = λ e. lines-right at-start lines e;
        texts = λ e. printed.printed
            ∙ ap (λ (x : List (List ℕ)). machine_texts x (card_map file) (started (map_on file))) (sym (lines-right at-start lines e));
        printed = printed;
      }

  pub card-runs : shell.opened_in o out a ≡ shell.opening file lent → Runs file (shell.opening file lent) k z l
  card-runs e = subst (λ (x : shell.Opening). Runs file x k z l) e (go o.outcome refl)
    where
      go : (x : Result Unit ℕ) → o.outcome ≡ x → Runs file (shell.outcome_in x out opened) k z l
      go (Err n) p = refuses n p
      go (Ok tt) p = attends p (sym e ∙ ap (λ (x : Result Unit ℕ). shell.outcome_in x out opened) p)
