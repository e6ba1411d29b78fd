-- All lines of the input: those that calls of `next_line` take, one after the other, are document 01's. Assumes nothing.
use Rattle.std.proofs.Common.{◌∙◌, ap, ap₂, sym, inl, inr, append_assoc, append-nil, lt-ltb, ne_eqb, arith}
use Rattle.std.specs.Prelude.{◌≡◌, refl, ◌⊎◌, Bool, false, true, List, [], ◌++◌, ◌∷◌, map, ℕ, eqb, ltb, length}
use Rattle.std.proofs.lemmas.Bool.{false≢true}
use Rattle.line_input.specs.Input.{AtStart, Ends, NextLine, Plain, in_order, newline, unread}
use Rattle.line_input.specs.Input.{after-end, at-end, at-newline, out_of_turns}
use Rattle.line_input.specs.declared.Reader.{Reader}

-- ---- definitions

-- the byte b before these lines: a newline is a line's end, any other byte stands first in the first line
abbrev on_first : Bool → ℕ → List (List ℕ) → List (List ℕ)
on_first true b lines = [] ∷ lines
on_first false b [] = (b ∷ []) ∷ []
on_first false b (l ∷ lines) = (b ∷ l) ∷ lines

-- "A line ends at a newline or at the end of the input; after a last newline no further line follows."
abbrev pub lines_of : List ℕ → List (List ℕ)
lines_of [] = []
lines_of (b ∷ input) = on_first (eqb b newline) b (lines_of input)

-- a line, if there is one
abbrev pub if_ready : Bool → List ℕ → List (List ℕ)
if_ready true line = line ∷ []
if_ready false line = []

-- calls of `next_line`, each from the reader and the chunk that the one before left, until no line is ready: the bytes that they read,
-- their lines, and the reader at the end
pub data Lines : Reader → (chunk input : List ℕ) → List (List ℕ) → Reader → Type 0 where
  line-more : {from to end : Reader} {chunk chunk' area input : List ℕ} {lines : List (List ℕ)} → (n : NextLine from chunk to chunk' area)
      → to.ready ≡ true
      → Lines to chunk' input lines end → Lines from chunk (in_order n.reads ++ input) (n.line ∷ lines) end
  no_more : {from to : Reader} {chunk chunk' area : List ℕ} → (n : NextLine from chunk to chunk' area) → to.ready ≡ false
      → Lines from chunk (in_order n.reads) [] to

-- ---- worked cases: nothing, `a`, `a` and a newline, `a` newline `b`, a newline alone, `a` and two newlines

abbrev cases : List (List ℕ)
cases = [] ∷ (97 ∷ []) ∷ (97 ∷ 10 ∷ []) ∷ (97 ∷ 10 ∷ 98 ∷ []) ∷ (10 ∷ []) ∷ (97 ∷ 10 ∷ 10 ∷ []) ∷ []

abbrev told : List (List (List ℕ))
told = [] ∷ ((97 ∷ []) ∷ []) ∷ ((97 ∷ []) ∷ []) ∷ ((97 ∷ []) ∷ (98 ∷ []) ∷ []) ∷ ([] ∷ []) ∷ ((97 ∷ []) ∷ [] ∷ []) ∷ []

cases-right : map lines_of cases ≡ told
cases-right = refl

-- ---- laws

at_a_newline : (line rest : List ℕ) → Plain line → lines_of (line ++ (newline ∷ rest)) ≡ line ∷ lines_of rest
at_a_newline [] rest p = refl
at_a_newline (b ∷ line) rest p =
    ap₂ (λ (t : Bool) (l : List (List ℕ)). on_first t b l) (ne_eqb b newline p.0) (at_a_newline line rest p.1)

at_the_end : (line : List ℕ) → Plain line → lines_of line ≡ if_ready (ltb 0 (length line)) line
at_the_end [] p = refl
at_the_end (b ∷ []) p = ap (λ (t : Bool). on_first t b []) (ne_eqb b newline p.0)
at_the_end (b ∷ c ∷ line) p =
    ap₂ (λ (t : Bool) (l : List (List ℕ)). on_first t b l) (ne_eqb b newline p.0)
    (at_the_end (c ∷ line) p.1 ∙ ap (λ (t : Bool). if_ready t (c ∷ line)) (lt-ltb 0 (length (c ∷ line)) (omega arith)))
    ∙ ap (λ (t : Bool). if_ready t (b ∷ c ∷ line)) (sym (lt-ltb 0 (length (b ∷ c ∷ line)) (omega arith)))

-- a line is ready: at a newline the input goes on, at its end nothing is left of it
data Taken (input line rest : List ℕ) (ended : Bool) : Type 0 where
  goes_on : ((more : List ℕ) → lines_of (input ++ more) ≡ line ∷ lines_of (rest ++ more)) → ended ≡ false → Taken input line rest ended
  is_last : lines_of input ≡ line ∷ [] → ended ≡ true → Taken input line rest ended

taken : {input line rest : List ℕ} {left : ℕ} {reads : List (List ℕ)} {b t e : Bool} → Plain line → Ends input line rest left b reads t e
    → t ≡ true → Taken input line rest e
taken {line = line} {rest = rest} p (at-newline g e) q =
    goes_on (λ more. ap (λ (x : List ℕ). lines_of (x ++ more)) e ∙ ap lines_of (append_assoc line (newline ∷ rest) more)
    ∙ at_a_newline line (rest ++ more) p) refl
taken {line = line} p (at-end g e f) q = is_last (ap lines_of e ∙ at_the_end line p ∙ ap (λ (t : Bool). if_ready t line) q) refl
taken p (after-end f g) q = absurd (false≢true q)
taken p (out_of_turns g e f) q = absurd (false≢true q)

-- no line is ready, and the input has ended
none_left : {input line rest : List ℕ} {left : ℕ} {reads : List (List ℕ)} {b t e : Bool} → Plain line
    → Ends input line rest left b reads t e → b ≡ false → t ≡ false → e ≡ true → lines_of input ≡ []
none_left p (at-newline g e) o q r = absurd (false≢true r)
none_left {line = line} p (at-end g e f) o q r = ap lines_of e ∙ at_the_end line p ∙ ap (λ (t : Bool). if_ready t line) q
none_left p (after-end f g) o q r = absurd (false≢true (sym o))
none_left p (out_of_turns g e f) o q r = absurd (false≢true r)

-- a reader after the input's end reads nothing
after-reads : {input line rest : List ℕ} {left : ℕ} {reads : List (List ℕ)} {b t e : Bool} → Ends input line rest left b reads t e
    → b ≡ true → (reads ≡ []) × (t ≡ false)
after-reads (at-newline g e) q = absurd (false≢true q)
after-reads (at-end g e f) q = absurd (false≢true q)
after-reads (after-end f g) q = (refl, refl)
after-reads (out_of_turns g e f) q = absurd (false≢true q)

pub after_none : {from end : Reader} {chunk input : List ℕ} {lines : List (List ℕ)} → Lines from chunk input lines end → from.ended ≡ true
    → (input ≡ []) × (lines ≡ [])
after_none (line-more n t w) q = absurd (false≢true (sym (after-reads n.ends q).1 ∙ t))
after_none (no_more n t) q = (ap in_order (after-reads n.ends q).0, refl)

-- where no line is ready, the input has ended or the steps are used up
stopped : {input line rest : List ℕ} {left : ℕ} {reads : List (List ℕ)} {b t e : Bool} → Ends input line rest left b reads t e → t ≡ false
    → (e ≡ true) ⊎ (left ≡ 0)
stopped (at-newline g e) q = absurd (false≢true (sym q))
stopped (at-end g e f) q = inl refl
stopped (after-end f g) q = inl refl
stopped (out_of_turns g e f) q = inr f

pub lines-stop : {from end : Reader} {chunk input : List ℕ} {lines : List (List ℕ)} → Lines from chunk input lines end
    → (end.ended ≡ true) ⊎ (end.turns ≡ 0)
lines-stop (line-more n t w) = lines-stop w
lines-stop (no_more n t) = stopped n.ends t

-- ---- the theorem

pub lines_left : {from end : Reader} {chunk input : List ℕ} {lines : List (List ℕ)} → Lines from chunk input lines end → from.ended ≡ false
    → end.ended ≡ true → lines_of (unread from chunk ++ input) ≡ lines
lines_left {from} {end} {chunk} (line-more {to = to} {chunk' = chunk'} {input = input} {lines = lines} n t w) o e =
    ap lines_of (sym (append_assoc (unread from chunk) (in_order n.reads) input))
    ∙ go (taken n.plain n.ends t) (λ f. lines_left w f e)
  where
    go : Taken (unread from chunk ++ in_order n.reads) n.line (unread to chunk') to.ended
        → (to.ended ≡ false → lines_of (unread to chunk' ++ input) ≡ lines)
        → lines_of ((unread from chunk ++ in_order n.reads) ++ input) ≡ n.line ∷ lines
    go (goes_on f q) more = f input ∙ ap (λ (l : List (List ℕ)). n.line ∷ l) (more q)
    go (is_last f q) more =
        let z = after_none w q in
        ap (λ (x : List ℕ). lines_of ((unread from chunk ++ in_order n.reads) ++ x)) z.0
        ∙ ap lines_of (append-nil (unread from chunk ++ in_order n.reads)) ∙ f
        ∙ ap (λ (l : List (List ℕ)). n.line ∷ l) (sym z.1)
lines_left (no_more n t) o e = none_left n.plain n.ends o t e

-- from the start: where the input has ended, the lines are those of what was read
pub lines-right : {from end : Reader} {chunk input : List ℕ} {lines : List (List ℕ)} → AtStart true from → Lines from chunk input lines end
    → end.ended ≡ true → lines_of input ≡ lines
lines-right {chunk = chunk} {input = input} s w e =
    ap (λ (x : List ℕ). lines_of (x ++ input)) (sym (s.nothing chunk)) ∙ lines_left w s.ended e
