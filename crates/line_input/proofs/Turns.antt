-- The loop around the reader's steps: a step goes on with the line (`Going`) or ends it (`NextLine`), and leaves fewer steps. Assumes
-- nothing.
use mathlib.Core.Path.{◌∙◌, ◌≡◌, ap, ap₂, refl, subst, sym}
use mathlib.Core.Logic.{◌≢◌, ◌⊎◌, inl, inr}
use mathlib.Core.Bool.{Bool, false, false≢true, true}
use mathlib.Core.List.{List, [], ◌++◌, ◌∷◌, append_assoc, append-nil}
use Prim.Native.Nat.{◌+◌, ◌-◌, ◌<◌, ◌≤◌, suc, zero, ℕ}
use lib.Dec.{ltb}
use lib.ListN.{drop, length, length-append, length-take, take}
use lib.Seq.{append_snoc}
use borrow.Author.Tests.{lt-ltb, ltb-false}
use native.Mathlib.Decide.{ℕ_discrete}
use native.Mathlib.Omega.{arith}
use Rattle.line_input.specs.Holds.{Holds, has_bytes}
use Rattle.line_input.specs.Input.{Ends, Gave, Last, NextLine, Plain, Refilled, Stepped, Took, after-end}
use Rattle.line_input.specs.Input.{at-end, at-newline, in_order, newline, out_of_turns, refilled, took, unread, waiting}
use Rattle.line_input.proofs.Steps.{at_ended, at_ready, by-turns, some-turns}
use Rattle.line_input.specs.declared.Part.{Part}
use Rattle.line_input.specs.declared.Part.TheVariants.{Kept, Long}
use Rattle.line_input.specs.declared.Reader.{Reader}

-- the line is not at its end
pub record Going (from : Reader) (before : List ℕ) (r : Reader) (chunk area : List ℕ) : Type 0 where
  pub line : List ℕ
  pub reads : List (List ℕ)
  pub last : Last reads before r chunk
  pub plain : Plain line
  pub holds : Holds r.part area line
  pub gave : Gave reads
  pub bytes : unread from before ++ in_order reads ≡ line ++ unread r chunk
  pub waits : r.ready ≡ false
  pub from_open : from.ended ≡ false
  pub still_open : r.ended ≡ false
  pub turns : r.turns + (length (unread from before ++ in_order reads) + length reads) ≡ from.turns + length (unread r chunk)

-- it goes on, or is at its end and no step more is made
abbrev pub Turned : Reader → List ℕ → Reader → List ℕ → List ℕ → Type 0
Turned from before r chunk area = Going from before r chunk area ⊎ ((waiting r ≡ false) × NextLine from before r chunk area)

-- ---- laws

plain_more : (xs : List ℕ) (b : ℕ) → Plain xs → b ≢ newline → Plain (xs ++ (b ∷ []))
plain_more [] b p n = (n, tt)
plain_more (x ∷ xs) b p n = (p.0, plain_more xs b p.1 n)

last-stays : (reads : List (List ℕ)) (before : List ℕ) (r s : Reader) {chunk chunk' : List ℕ} → chunk' ≡ chunk → s.end ≡ r.end
    → Last reads before r chunk → Last reads before s chunk'
last-stays [] before r s e f w = e ∙ w
last-stays (c ∷ earlier) before r s e f w = w ∙ sym (ap₂ take f e)

holds-still : (line : List ℕ) {p q : Part} {area area' : List ℕ} → q ≡ p → area' ≡ area → Holds p area line → Holds q area' line
holds-still line {p} {area' = area'} e f h =
    subst (λ (x : Part). Holds x area' line) (sym e) (subst (λ (a : List ℕ). Holds p a line) (sym f) h)

to-ends : {input line rest : List ℕ} {left : ℕ} {b b' t t' e e' : Bool} {reads : List (List ℕ)} → b ≡ b' → t ≡ t' → e ≡ e'
    → Ends input line rest left b reads t e → Ends input line rest left b' reads t' e'
to-ends {input} {line} {rest} {left} {b} {b'} {t} {t'} {e} {e'} {reads} p q r w =
    subst (λ (x : Bool). Ends input line rest left x reads t' e') p
    (subst (λ (x : Bool). Ends input line rest left b reads x e') q (subst (λ (x : Bool). Ends input line rest left b reads t x) r w))

-- the line has bytes where its part has
kept-some : (p : Part) (area line : List ℕ) → Holds p area line → has_bytes p ≡ ltb 0 (length line)
kept-some (Kept n) area line h =
    let z : n ≡ length line = omega (arith, ap length h.1, h.0, length-take n area) in ap (ltb 0) z
kept-some Long area line h = sym (lt-ltb 0 (length line) (omega arith))

-- ---- the start

-- an input that has ended is at rest
pub turned-start : {at end : ℕ} (ended : Bool) {turns : ℕ} {chunk area : List ℕ} → let r : Reader =
    record { at = at; end = end; part = Kept 0; ready = false; ended = ended; turns = turns } in
    Turned r chunk r chunk area
turned-start {at} {end} false {chunk = chunk} {area = area} =
    let left = drop at (take end chunk) in
    inl (record {
      line = [];
      reads = [];
      last = refl;
      plain = tt;
      holds = (omega arith, refl);
      gave = tt;
      bytes = append-nil left;
      waits = refl;
      from_open = refl;
      still_open = refl;
      turns = omega (arith, length-append left []);
    })
turned-start {at} {end} true {chunk = chunk} {area = area} =
    let left = drop at (take end chunk) in
    inr (
      refl,
      record {
        line = [];
        reads = [];
        last = refl;
        plain = tt;
        holds = (omega arith, refl);
        ends = after-end refl (append-nil left);
        turns = omega (arith, length-append left []);
      },
    )

-- ---- a turn

-- the bytes that were left, and then those that were read
abbrev input_of : {from : Reader} {before : List ℕ} {r : Reader} {chunk area : List ℕ} → Going from before r chunk area → List ℕ
input_of {from} {before} g = unread from before ++ in_order g.reads

module _ {from : Reader} {before : List ℕ} {r : Reader} {chunk area : List ℕ} {s : Reader} {chunk' area' : List ℕ}
    (g : Going from before r chunk area) (some : 0 < r.turns) where
  -- the step took a byte
  turn-took : (b : ℕ) → unread r chunk ≡ b ∷ unread s chunk' → chunk' ≡ chunk → Took b (r.turns - 1) r area s area' → Dec (b ≡ newline)
      → Turned from before s chunk' area'
  -- a newline: the line is at its end
  turn-took b e q w (yes n) =
      let (ready, Part-same, area_same) = w.ends n in
      let more = ap length e in
      inr (
        at_ready s ready,
        record {
          line = g.line;
          reads = g.reads;
          last = last-stays g.reads before r s q w.end g.last;
          plain = g.plain;
          holds = holds-still g.line Part-same area_same g.holds;
          ends = to-ends (sym g.from_open) (sym ready) (sym (w.ended ∙ g.still_open))
              (at-newline g.gave (g.bytes ∙ ap (λ (x : List ℕ). g.line ++ x) (e ∙ ap (λ (x : ℕ). x ∷ unread s chunk') n)));
          turns = omega (arith, some, more, w.turns, g.turns);
        },
      )
  -- any other byte: it goes on
  turn-took b e q w (no n) =
      let (waits, holds) = w.goes_on n in
      let more = ap length e in
      inl (record {
        line = g.line ++ (b ∷ []);
        reads = g.reads;
        last = last-stays g.reads before r s q w.end g.last;
        plain = plain_more g.line b g.plain n;
        holds = holds g.line g.holds;
        gave = g.gave;
        bytes = g.bytes ∙ ap (λ (x : List ℕ). g.line ++ x) e ∙ sym (append_snoc g.line b (unread s chunk'));
        waits = waits;
        from_open = g.from_open;
        still_open = w.ended ∙ g.still_open;
        turns = omega (arith, some, more, w.turns, g.turns);
      })

  -- the step read
  turn_read : (n : ℕ) → unread r chunk ≡ [] → n ≤ length chunk' → Refilled n (r.turns - 1) r s → area' ≡ area
      → Turned from before s chunk' area'
  -- the input has ended, and with it the line
  turn_read zero e h w q =
      let (ready, ended) = w.ends refl in
      let none : unread s chunk' ≡ [] = ap₂ (λ (i k : ℕ). drop i (take k chunk')) w.at w.end in
      let bytes : unread from before ++ (in_order g.reads ++ []) ≡ input_of g =
      ap (λ (x : List ℕ). unread from before ++ x) (append-nil (in_order g.reads)) in
      let same = ap length bytes in
      let left = ap length e in
      let after = ap length none in
      inr (
        at_ended s ended,
        record {
          line = g.line;
          reads = [] ∷ g.reads;
          last = sym (ap (λ (k : ℕ). take k chunk') w.end);
          plain = g.plain;
          holds = holds-still g.line w.line q g.holds;
          ends = to-ends (sym g.from_open) (sym (ready ∙ kept-some r.part area g.line g.holds)) (sym ended)
              (at-end g.gave (bytes ∙ g.bytes ∙ ap (λ (x : List ℕ). g.line ++ x) e ∙ append-nil g.line) none);
          turns = omega (arith, some, same, left, after, w.turns, g.turns);
        },
      )
  -- bytes were read, of which none is taken yet
  turn_read (suc k) e h w q =
      let (waits, not-ended) = w.goes_on (omega arith) in
      let here : unread s chunk' ≡ take (suc k) chunk' = ap₂ (λ (i m : ℕ). drop i (take m chunk')) w.at w.end in
      let bytes : unread from before ++ (in_order g.reads ++ take (suc k) chunk') ≡ input_of g ++ take (suc k) chunk' =
      sym (append_assoc (unread from before) (in_order g.reads) (take (suc k) chunk')) in
      let same = ap length bytes in
      let left = ap length e in
      let after = ap length here in
      inl (record {
        line = g.line;
        reads = take (suc k) chunk' ∷ g.reads;
        last = sym (ap (λ (m : ℕ). take m chunk') w.end);
        plain = g.plain;
        holds = holds-still g.line w.line q g.holds;
        gave = (omega (arith, h, length-take (suc k) chunk'), g.gave);
        bytes = bytes
            ∙ ap (λ (x : List ℕ). x ++ take (suc k) chunk') (g.bytes ∙ ap (λ (x : List ℕ). g.line ++ x) e ∙ append-nil g.line)
            ∙ ap (λ (x : List ℕ). g.line ++ x) (sym here);
        waits = waits;
        from_open = g.from_open;
        still_open = not-ended;
        turns = omega (arith, some, same, left, after, length-append (input_of g) (take (suc k) chunk'), w.turns, g.turns);
      })

  turn_going : Stepped r chunk area s chunk' area' → Turned from before s chunk' area'
  turn_going (took b e q w) = turn-took b e q w (ℕ_discrete b newline)
  turn_going (refilled n e h w q) = turn_read n e h w q

pub turned : {from : Reader} {before : List ℕ} {r : Reader} {chunk area : List ℕ} {s : Reader} {chunk' area' : List ℕ} → waiting r ≡ true
    → Turned from before r chunk area → Stepped r chunk area s chunk' area' → Turned from before s chunk' area'
turned {r = r} some (inl g) w = turn_going g (some-turns r some) w
turned some (inr g) w = absurd (false≢true (sym g.0 ∙ some))

-- each step leaves fewer
pub fewer : {r : Reader} {chunk area : List ℕ} {s : Reader} {chunk' area' : List ℕ} → 0 < r.turns → Stepped r chunk area s chunk' area'
    → s.turns < r.turns
fewer some (took b e q w) = omega (arith, some, w.turns)
fewer some (refilled n e h w q) = omega (arith, some, w.turns)

-- ---- the end

pub turned-end : {from : Reader} {before : List ℕ} {r : Reader} {chunk area : List ℕ} → waiting r ≡ false → Turned from before r chunk area
    → NextLine from before r chunk area
turned-end done (inr g) = g.1
turned-end {r = r} done (inl g) = record {
  line = g.line;
  reads = g.reads;
  last = g.last;
  plain = g.plain;
  holds = g.holds;
  ends = to-ends (sym g.from_open) (sym g.waits) (sym g.still_open)
      (out_of_turns g.gave g.bytes (none (ltb-false 0 r.turns (sym (by-turns r g.waits g.still_open) ∙ done))));
  turns = g.turns;
}
  where
    none : r.turns ≤ 0 → r.turns ≡ 0
    none h = omega arith

-- the loop begins a line anew
pub anew : {from : Reader} {part : Part} {ready : Bool} {before : List ℕ} {r : Reader} {chunk area : List ℕ}
    → NextLine (record { at = from.at; end = from.end; part = part; ready = ready; ended = from.ended; turns = from.turns })
    before r chunk area → NextLine from before r chunk area
anew n =
    record { line = n.line; reads = n.reads; last = n.last; plain = n.plain; holds = n.holds; ends = n.ends; turns = n.turns }
