-- Lines answered one after the other: each turn answers the line that was read last and reads the next (`Underway`, `loop_turn`), and
-- leaves fewer steps (`steps-fall`). Assumes nothing.
use mathlib.Core.Path.{◌∙◌, ◌≡◌, ap, ap₂, refl, subst, sym}
use mathlib.Core.Bool.{Bool, cond, false, true}
use mathlib.Core.List.{List, [], ◌++◌, ◌∷◌, append_assoc}
use Prim.Native.Nat.{◌+◌, ◌<◌, suc, zero, ℕ}
use lib.Dec.{ltb}
use lib.ListN.{length, length-append, take}
use lib.Seq.{append_snoc}
use native.Mathlib.Omega.{arith}
use Rattle.line_input.specs.Holds.{Holds}
use Rattle.line_input.specs.Input.{Ends, NextLine, after-end, at-end, at-newline, in_order, newline, out_of_turns}
use Rattle.line_input.specs.declared.Reader.{Reader}
use Rattle.line_console.specs.Lines.{line_of}
use Rattle.std.specs.Prelude.{Option}
use Rattle.unit_answers.specs.declared.Call.{Call}
use Rattle.program_shell.specs.Answering.{Answers, Held, held_of}
use Rattle.program_shell.specs.Session.{Turn}
use Rattle.model.specs.Areas.{Areas}
use Rattle.model.specs.State.{Lent}
use Rattle.model.specs.Promises.{before}
use Rattle.unit.specs.Shape.{header_in}
use Rattle.unit.specs.declared.Header.{Header}
use Rattle.program_serve.specs.Serving.{AnsweredTo, Served, Serving, Turns, answered, held_in, over}
use Rattle.program_serve.specs.declared.Talk.{Talk}

-- ---- a text

-- as many bytes as a text has are that text
same_text : (k said : ℕ) (out text : List ℕ) → text ≡ take k out → said ≡ length text → take said out ≡ take k out
same_text k said out text e f = ap (λ (i : ℕ). take i out) (f ∙ ap length e) ∙ go k out
  where
    go : (k : ℕ) (out : List ℕ) → take (length (take k out)) out ≡ take k out
    go zero out = refl
    go (suc k) [] = refl
    go (suc k) (b ∷ out) = ap (λ (x : List ℕ). b ∷ x) (go k out)

-- ---- the steps that are left

abbrev pub steps_left : Reader → ℕ
steps_left r = r.turns + cond r.ready 1 0

fall : {input line rest : List ℕ} {left : ℕ} {reads : List (List ℕ)} {b t e : Bool} → (from : ℕ) → Ends input line rest left b reads t e
    → left + (length input + length reads) ≡ from + length rest → left + cond t 1 0 < from + 1
fall {line = line} {rest = rest} from (at-newline g e) h = let z = ap length e in omega (arith, h, z, length-append line (newline ∷ rest))
fall {line = line} {rest = rest} {left = left} from (at-end g e f) h = go (ltb 0 (length line)) (ap length f)
  where
    go : (t : Bool) → length rest ≡ 0 → left + cond t 1 0 < from + 1
    go true z = omega (arith, h, z)
    go false z = omega (arith, h, z)
fall from (after-end f g) h = let z = ap length g in omega (arith, h, z)
fall {left = left} from (out_of_turns g e f) h = omega (arith, f)

pub steps-fall : {from to : Reader} {chunk chunk' area : List ℕ} → from.ready ≡ true → NextLine from chunk to chunk' area
    → steps_left to < steps_left from
steps-fall {from} {to} r n = subst (λ (t : Bool). steps_left to < from.turns + cond t 1 0) (sym r) (fall from.turns n.ends n.turns)

-- ---- the loop

-- the turns that were made, and the line that was read last
pub record Underway (card : List ℕ) (h : Held) (from : Reader) (start : List ℕ) (z : Held) (to : Reader) (chunk area : List ℕ)
    : Type 0 where
  pub before : Reader
  pub behind : List ℕ
  pub input : List ℕ
  pub turns : List Turn
  pub next : NextLine before behind to chunk area
  pub rest : (i : List ℕ) (ts : List Turn) (y : Held) (end : Reader) → Serving card z before behind i ts y end
      → Serving card h from start (input ++ i) (turns ++ ts) y end

pub underway_start : {card start chunk area : List ℕ} {h : Held} {from to : Reader} → NextLine from start to chunk area
    → Underway card h from start h to chunk area
underway_start {start = start} {from = from} n =
    record { before = from; behind = start; input = []; turns = []; next = n; rest = λ i ts y end w. w }

underway_turn : {card start chunk chunk' area area' : List ℕ} {h z : Held} {from to on : Reader}
    → (u : Underway card h from start z to chunk area) → to.ready ≡ true → (t : Turn)
    → AnsweredTo card z u.next.line t → NextLine to chunk on chunk' area' → Underway card h from start t.left on chunk' area'
underway_turn {card} {start} {chunk} {h = h} {from = from} {to = to} u r t a n = record {
  before = to;
  behind = chunk;
  input = u.input ++ in_order u.next.reads;
  turns = u.turns ++ (t ∷ []);
  next = n;
  rest = λ i ts y end w.
      subst (λ (x : List ℕ). Serving card h from start x ((u.turns ++ (t ∷ [])) ++ ts) y end)
      (sym (append_assoc u.input (in_order u.next.reads) i))
      (subst (λ (x : List Turn). Serving card h from start (u.input ++ (in_order u.next.reads ++ i)) x y end)
      (sym (append_snoc u.turns t ts))
      (u.rest (in_order u.next.reads ++ i) (t ∷ ts) y end (answered u.next r a w)));
}

underway_end : {card start chunk area : List ℕ} {h z : Held} {from : Reader} {to : Talk}
    → Underway card h from start z to.reader chunk area → to.reader.ready ≡ false → to.said ≡ length z.text
    → Served card h from z to
underway_end {start = start} {z = z} {to = to} u r e =
    record {
      chunk = start;
      input = u.input ++ in_order u.next.reads;
      turns = u.turns ++ [];
      serving = u.rest (in_order u.next.reads) [] z to.reader (over u.next r);
      said = e;
    }

-- ---- in the code

-- a text is said: what is at hand is the same, with the header that was handed on
said-held : {from to : Talk} {h : Header} {text chunk chunk' area : List ℕ} (a : Areas) (l : Lent) (out : List ℕ) (k : ℕ)
    → text ≡ take k out → Turns from h text chunk to chunk' area → held_in to a l out ≡ held_of h a l (take k out)
said-held {to = to} {text = text} a l out k e w =
    ap₂ (λ (p : Header) (x : List ℕ). held_of p a l x) w.header (same_text k to.said out text e w.said)

-- as many bytes were said as stand in the area
pub said-length : {from to : Talk} {h : Header} {text chunk chunk' area : List ℕ} (out : List ℕ) (k : ℕ) → text ≡ take k out
    → Turns from h text chunk to chunk' area → to.said ≡ length (take to.said out)
said-length {to = to} {text = text} out k e w = w.said ∙ ap length (e ∙ sym (same_text k to.said out text e w.said))

-- a turn: the line that `bytes` say is answered; header p, areas b and l' and the first k bytes of `out'` are what the answer leaves
pub loop_turn : {card start chunk area text chunk' area' : List ℕ} {h : Held} {from : Reader} {on to : Talk} {a b : Areas} {l l' : Lent}
    {p : Header} (out out' bytes : List ℕ) (k : ℕ) → Underway card h from start (held_in on a l out) on.reader chunk area
    → on.reader.ready ≡ true → ((xs : List ℕ) → Holds on.reader.part area xs → line_of bytes ≡ line_of xs)
    → Answers card (before (header_in on.header) a) l (line_of bytes) (held_of p b l' (take k out')) → text ≡ take k out'
    → Turns on p text chunk to chunk' area' → Underway card h from start (held_in to b l' out') to.reader chunk' area'
loop_turn {card} {start} {chunk' = chunk'} {area' = area'} {h = h} {from = from} {on = on} {to = to} {a = a} {b = b} {l = l} {l' = l'}
    {p = p} out out' bytes k u ready heard answers e t =
    let left = held_of p b l' (take k out') in
    let says = heard u.next.line u.next.holds in
    subst (λ (z : Held). Underway card h from start z to.reader chunk' area') (sym (said-held b l' out' k e t))
    (underway_turn u ready (record { line = u.next.line; lent = l; left = left })
    (record {
      line = refl;
      lent = refl;
      answers = subst (λ (x : Option Call). Answers card (before (header_in on.header) a) l x left) says answers;
    })
    t.next)

-- the first turn only reads a line; after the last one none is ready
pub loop_end : {card text start chunk area chunk' area' : List ℕ} {z : Held} {from on to : Talk} {a : Areas} {l : Lent} (out : List ℕ)
    → text ≡ take from.said out → Turns from from.header text start on chunk area
    → ((r : Reader) (c : List ℕ) → NextLine r c on.reader chunk area → Underway card (held_in on a l out) r c z to.reader chunk' area')
    → to.reader.ready ≡ false → to.said ≡ length z.text → Served card (held_in from a l out) from.reader z to
loop_end {card} {z = z} {from = from} {to = to} {a = a} {l = l} out e t u r f =
    subst (λ (x : Held). Served card x from.reader z to) (said-held a l out from.said e t)
    (underway_end (u from.reader _ t.next) r f)
