-- The words of a call, and a call at a place of a script. Assumes nothing.
use Rattle.std.proofs.Common.{◌∙◌, ap, ap₂, arith, rules, subst, sym}
use Rattle.std.proofs.lemmas.Bool.{lt-ltb}
use Rattle.std.specs.Prelude.{◌≡◌, Some, List, ◌+◌, ◌-◌, ◌<◌, ◌≤◌, suc, zero, ℕ, leb, ltb, get_or, length}
use Rattle.std.proofs.Math.Logic.{inl, inr}
use borrow.Author.Tests.{le-leb, leb-true}
use Rattle.graph.specs.Total.{Tested}
use Rattle.graph.proofs.Total.{decide}
use Rattle.model.specs.Calls.{Plain}
use Rattle.unit_script.specs.declared.Kind.{Kind}
use Rattle.unit_script.specs.Words.{Lending, StandsWhole, call_at, end_at, kind_of, spelled, stops_at, words_of}

-- a kind has words
some-words : (number stops : ℕ) {k : Kind} → kind_of number ≡ Some k → 0 < words_of number stops
some-words zero stops e = omega arith
some-words (suc zero) stops e = omega arith
some-words (suc (suc zero)) stops e = omega arith
some-words (suc (suc (suc zero))) stops e = omega arith
some-words (suc (suc (suc (suc zero)))) stops e = omega arith
some-words (suc (suc (suc (suc (suc zero))))) stops e = omega arith
some-words (suc (suc (suc (suc (suc (suc n)))))) stops e = search rules

-- it is lent no more entries than there are
spelled-fits : (kind one two three four five : ℕ) (stops : List ℕ) (l : Lending)
    → ((spelled kind one two three four five stops l).route ≤ l.route) × ((spelled kind one two three four five stops l).log ≤ l.log)
spelled-fits zero one two three four five stops l = (omega arith, omega arith)
spelled-fits (suc zero) one two three four five stops l = (omega arith, omega arith)
spelled-fits (suc (suc zero)) one two three four five stops l = (omega arith, omega arith)
spelled-fits (suc (suc (suc zero))) one two three four five stops l = (omega arith, omega arith)
spelled-fits (suc (suc (suc (suc zero)))) one two three four five stops l = (omega arith, omega arith)
spelled-fits (suc (suc (suc (suc (suc k))))) one two three four five stops l = (omega arith, omega arith)

-- ---- at a place of a script

-- a call stands whole if all of its words stand there
pub stands-whole : (script : List ℕ) (at : ℕ) {number stops w : ℕ} {k : Kind} → number ≡ get_or script (at + 0) 0
    → stops ≡ get_or script (at + 2) 0 → kind_of number ≡ Some k → w ≡ words_of number stops → at ≤ length script → w ≤ length script - at
    → StandsWhole script at (Some (record { kind = k; end = at + w }))
stands-whole script at {number} {stops} {w} n s kind-is w-is h fits =
    let first : number ≡ get_or script at 0 = n ∙ ap (λ (i : ℕ). get_or script i 0) (omega arith) in
    let words : words_of (get_or script at 0) (get_or script (at + 2) 0) ≡ w = sym (w-is ∙ ap₂ words_of first s) in
    let q : at + w ≤ length script = omega (arith, h, fits) in
    let ends : at + w ≡ end_at script at = rw (words, le-leb (at + w) (length script) q) in
    let lt : at < at + w = omega (arith, w-is, some-words number stops kind-is) in
    (ap kind_of (sym first) ∙ kind-is, ends, ap (ltb at) (sym ends) ∙ lt-ltb at (at + w) lt)

-- it ends within the script
pub ends-within : (script : List ℕ) (at : ℕ) {end : ℕ} → at ≤ length script → end ≡ end_at script at → end ≤ length script
ends-within script at h e =
    subst (λ (i : ℕ). i ≤ length script) (sym e)
    (go (decide (leb (at + words_of (get_or script at 0) (get_or script (at + 2) 0)) (length script))))
  where
    go : Tested (leb (at + words_of (get_or script at 0) (get_or script (at + 2) 0)) (length script)) → end_at script at ≤ length script
    go (inl q) = rw q (leb-true _ _ q)
    go (inr q) = rw q h

-- it is lent no more entries than there are
pub call_fits : (script : List ℕ) (at : ℕ) (l : Lending) {p : Plain} → p ≡ call_at script at l → (p.route ≤ l.route) × (p.log ≤ l.log)
call_fits script at l e =
    subst (λ (q : Plain). (q.route ≤ l.route) × (q.log ≤ l.log)) (sym e)
    (spelled-fits (get_or script at 0) (get_or script (at + 1) 0) (get_or script (at + 2) 0) (get_or script (at + 3) 0)
    (get_or script (at + 4) 0) (get_or script (at + 5) 0) (stops_at script at) l)
