-- Each text fits in the area that it is written to, so it stands there whole. Assumes nothing.
use mathlib.Core.Path.{◌∙◌, ◌≡◌, ap}
use mathlib.Core.Logic.{inl, inr}
use mathlib.Core.Option.{none, some}
use mathlib.Core.List.{List, [], ◌∷◌}
use Prim.Native.Nat.{◌%◌, ◌*◌, ◌+◌, ◌/◌, ◌≤◌, suc, zero, ℕ}
use lib.Dec.{eqb, ltb}
use lib.ListN.{drop, length, length-append, length-take, take}
use lib.Seq.{take_all, take_at}
use native.Mathlib.Omega.{arith}
use Rattle.graph.specs.Total.{Tested, Total}
use Rattle.graph.proofs.Total.{decide}
use Rattle.model.specs.Types.{Accepted, Answer, Estimated, Gone, Previewed, Refusal, Refused, Stopped}
use Rattle.model.specs.Word.{of_word}
use Rattle.line_texts.specs.Areas.{Written, decimal, digits_in, shown, spaced}
use Rattle.line_answers.specs.Texts.{places_of, total_text, worded}
use Rattle.line_console.specs.Texts.{answer_text, newline, unreadable_text}
use Rattle.program_shell.specs.Limits.{junction_limit, out_room}

digits-length : (f n : ℕ) → length (digits_in f n) ≤ f
unfolding digits_in
digits-length zero n = omega arith
digits-length (suc f) n = go (decide (ltb n 10)) (digits-length f (n / 10))
  where
    go : Tested (ltb n 10) → length (digits_in f (n / 10)) ≤ f → length (digits_in (suc f) n) ≤ suc f
    go (inl q) h = rw q (omega arith)
    go (inr q) h = rw q (omega (arith, h, length-append (digits_in f (n / 10)) ((48 + n % 10) ∷ [])))

decimal-length : (n : ℕ) → length (decimal n) ≤ 20
unfolding decimal
decimal-length n = digits-length 20 n

spaced-length : (l : List ℕ) → length (spaced l) ≤ 21 * length l
unfolding spaced
spaced-length [] = omega arith
spaced-length (n ∷ l) = let h = spaced-length l in omega (arith, h, decimal-length n, length-append (decimal n) (spaced l))

places-length : (q : Refusal) → length (places_of q) ≤ 1
places-length q = go (decide (eqb q.question 5)) (decide (eqb q.question 6))
  where
    go : Tested (eqb q.question 5) → Tested (eqb q.question 6) → length (places_of q) ≤ 1
    go (inl a) b = rw a (omega arith)
    go (inr a) (inl b) = rw (a, b) (omega arith)
    go (inr a) (inr b) = rw (a, b) (omega arith)

total-length : (t : Total) → length (total_text t) ≤ 21
total-length none = omega arith
total-length (some t) = spaced-length (t ∷ [])

-- 2 bytes of a word, 21 for each number
worded-length : (x : Answer) (route : List ℕ) → length route ≤ junction_limit → length (worded x route) ≤ 8000
worded-length (Refused q) route h = omega (arith, spaced-length (q.question ∷ places_of q), places-length q)
worded-length Accepted route h = omega arith
worded-length (Estimated w) route h = omega (arith, total-length (of_word w))
worded-length (Gone t c k) route h = omega (arith, spaced-length (t ∷ c ∷ take k route), length-take k route)
worded-length (Previewed a b c) route h = omega arith
worded-length (Stopped legs t) route h = omega arith

pub answer-length : (x : Answer) (route : List ℕ) → length route ≤ junction_limit → length (answer_text x route) ≤ out_room
answer-length x route h = omega (arith, worded-length x route h, length-append (worded x route) newline)

pub unreadable-length : length unreadable_text ≤ out_room
unreadable-length = omega arith

-- a text that fits stands whole
pub shown-text : {text area out : List ℕ} {k : ℕ} → length text ≤ out_room → out_room ≤ length area → Written area text out k
    → take k out ≡ text
unfolding shown
shown-text {text} {area} {out} {k} h g w =
    let q : length text ≡ k = omega (arith, w.count) in
    let t : take (length area) text ≡ text = take_all (length area) text (omega arith) in
    ap (take k) w.area ∙ rw t (take_at text (drop (length text) area) k q)

-- ---- an area of a fixed length

pub at_most : {size most : ℕ} → size ≡ most → size ≤ most
at_most e = omega (arith, e)

pub room : {size most : ℕ} → size ≡ most → most ≤ size
room e = omega (arith, e)
