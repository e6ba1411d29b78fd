-- `line_of` says exactly the call of each readable line, and any other line is unreadable. Assumes nothing.
use Rattle.std.proofs.Common.{◌∙◌, ap, ap₂, subst, sym, arith, inl, inr}
use Rattle.std.specs.Prelude.{◌≡◌, refl, false, true, List, ◌++◌, ◌∷◌, ◌<◌, ℕ, length, None, Option, Some}
use Rattle.graph.specs.Total.{Tested}
use Rattle.graph.proofs.Total.{decide}
use Rattle.unit_answers.specs.declared.Call as call
use Rattle.unit_answers.specs.declared.Call.TheVariants.{Aim, Estimate, Go, Set}
use Rattle.line_fields.specs.Fields.{after_space, before_space, number_of}
use Rattle.line_fields.specs.Parts.{Split, after_of, before_of, digits_of, no_number, no_space, nothing, spaces, split}
use Rattle.std.specs.Str.{bytes_eq}
use Rattle.std.proofs.lemmas.Slice.Eq.{bytes_eq-Decides}
use Rattle.line_texts.specs.Ascii.{ascii}
use Rattle.line_console.specs.Lines.{call_of, called, in_range, line_of, one, program_class, two}
use Rattle.line_console.specs.Grammar.{Readable, aims, asks, goes, readable-length, sets}

-- ---- each of them says its call

-- a readable line says its call
pub readable-says : (line : List ℕ) (c : call.Call) → Readable line c → line_of line ≡ Some c
unfolding called call_of
readable-says line c (aims s v e n) = ap line_of e ∙ rw n
readable-says line c (asks s v e n) = ap line_of e ∙ rw n
readable-says line c (goes s v e n) = ap line_of e ∙ rw n
readable-says line c (sets s t i v e n m) =
    let q = no_space s t (digits_of s i n) in
    ap line_of e ∙ ap₂ two (ap number_of (before_of s t q) ∙ n) (ap number_of (after_of s t q) ∙ m)

-- ---- and no other line does

never : {c : call.Call} → None ≡ Some c → ⊥
never e = cc

said : (a c : call.Call) → Some a ≡ Some c → a ≡ c
said a c e = cc

-- a line of the word w and the number r
one-says : (line w r : List ℕ) (v : ℕ) (c : call.Call) → line ≡ w ++ 32 ∷ r → number_of r ≡ Some v → call_of w (in_range v) ≡ Some c
    → Readable line c
unfolding call_of
one-says line w r v c e n h = first (decide (bytes_eq w (ascii "aim")))
  where
    -- the line begins with the word u
    begins : (u : List ℕ) → bytes_eq w u ≡ true → line ≡ u ++ 32 ∷ r
    begins u t = e ∙ ap (λ (x : List ℕ). x ++ 32 ∷ r) ((bytes_eq-Decides w u).0 t)

    third : bytes_eq w (ascii "aim") ≡ false → bytes_eq w (ascii "est") ≡ false → Tested (bytes_eq w (ascii "go")) → Readable line c
    third p q (inl t) =
        subst (Readable line) (said (Go program_class (record { 0 = in_range v })) c (rw (p, q, t) at h))
        (goes r v (begins (ascii "go") t) n)
    third p q (inr t) = absurd (never (rw (p, q, t) at h))

    second : bytes_eq w (ascii "aim") ≡ false → Tested (bytes_eq w (ascii "est")) → Readable line c
    second p (inl t) =
        subst (Readable line) (said (Estimate (record { 0 = in_range v })) c (rw (p, t) at h)) (asks r v (begins (ascii "est") t) n)
    second p (inr t) = third p t (decide (bytes_eq w (ascii "go")))

    first : Tested (bytes_eq w (ascii "aim")) → Readable line c
    first (inl t) = subst (Readable line) (said (Aim (record { 0 = in_range v })) c (rw t at h)) (aims r v (begins (ascii "aim") t) n)
    first (inr t) = second t (decide (bytes_eq w (ascii "est")))

says-one : (line : List ℕ) (n : Option ℕ) (c : call.Call) → number_of (after_space line) ≡ n → one (call_of (before_space line)) n ≡ Some c
    → Readable line c
says-one line None c q e = cc
says-one line (Some v) c q e = go (split line)
  where
    go : Split line → Readable line c
    go (spaces p) = one-says line (before_space line) (after_space line) v c p q e
    go (nothing p) = absurd (no_number v (sym (ap number_of p) ∙ q))

says_two : (line : List ℕ) (m n : Option ℕ) (c : call.Call) → before_space line ≡ ascii "set"
    → number_of (before_space (after_space line)) ≡ m → number_of (after_space (after_space line)) ≡ n → two m n ≡ Some c → Readable line c
says_two line None n c w p q e = cc
says_two line (Some i) None c w p q e = cc
says_two line (Some i) (Some v) c w p q e = go (split line) (split (after_space line))
  where
    r : List ℕ
    r = after_space line

    go : Split line → Split r → Readable line c
    go (spaces x) (spaces y) =
        subst (Readable line) (said (Set (in_range i) (record { 0 = v })) c e)
        (sets (before_space r) (after_space r) i v (x ∙ ap₂ (λ (a b : List ℕ). a ++ 32 ∷ b) w y) p q)
    go (spaces x) (nothing y) = absurd (no_number v (sym (ap number_of y) ∙ q))
    go (nothing x) s = absurd (no_number v (sym (ap (λ (a : List ℕ). number_of (after_space a)) x) ∙ q))

-- a line that says a call is a readable one
pub says-readable : (line : List ℕ) (c : call.Call) → line_of line ≡ Some c → Readable line c
unfolding called
says-readable line c e = go (decide (bytes_eq (before_space line) (ascii "set")))
  where
    go : Tested (bytes_eq (before_space line) (ascii "set")) → Readable line c
    go (inl t) =
        says_two line (number_of (before_space (after_space line))) (number_of (after_space (after_space line))) c
        ((bytes_eq-Decides (before_space line) (ascii "set")).0 t) refl refl (rw t at e)
    go (inr t) = says-one line (number_of (after_space line)) c refl (rw t at e)

-- ---- no line of more than 45 bytes does

pub long-unreadable : (line : List ℕ) → 45 < length line → line_of line ≡ None
long-unreadable line h = go (line_of line) refl
  where
    go : (x : Option call.Call) → line_of line ≡ x → line_of line ≡ None
    go None e = e
    go (Some c) e = absurd (omega (arith, readable-length line c (says-readable line c e)))
