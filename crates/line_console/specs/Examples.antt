-- Worked lines, as one table each: what lines say (that they do stands in proofs/Examples.antt), and what answers print. Assumes nothing.
use Rattle.std.specs.Prelude.{◌≡◌, refl, List, [], ◌∷◌, map, None, Option, Some}
use Rattle.std.proofs.Math.Option as math
use Rattle.std.proofs.Math.Option.{none, some}
use Rattle.unit_answers.specs.declared.Call.{Call}
use Prim.Native.String.{String}
use Rattle.model.specs.Limits.{most_total}
use Rattle.model.specs.Types.{Accepted, Answer, At, Estimated, Gone, NoJunction, NoPath, NoRoad, NotAllowed, Place, Refusal, Refused, Road}
use Rattle.model.specs.Types.{Room}
use Rattle.model.specs.Word.{closed_word, none_word, of_word}
use Rattle.model.specs.Machine.{Known}
use Rattle.model.specs.Calls.{refusal_of}
use Rattle.unit_answers.specs.Shape.{call_in}
use Rattle.unit_answers.specs.declared.Call.TheVariants.{Aim, Estimate, Go, Set}
use Rattle.line_texts.specs.Areas.{decimal, digits_in, shown, spaced}
use Rattle.line_texts.specs.Ascii.{ascii}
use Rattle.line_console.specs.Lines.{out_of_range, program_class}
use Rattle.line_console.specs.Texts.{answer_text, unreadable_text}

-- ---- lines that say a call: document 01's six, the ends of both widths, leading zeros

pub record SaidLine : Type 0 where
  pub line : String
  pub says : Option Call

abbrev pub readable : List SaidLine
readable =
    record { line = "aim 3"; says = Some (Aim (record { 0 = 3 })) }
    ∷ record { line = "est 0"; says = Some (Estimate (record { 0 = 0 })) }
    ∷ record { line = "go 0"; says = Some (Go program_class (record { 0 = 0 })) }
    ∷ record { line = "set 1 18446744073709551615"; says = Some (Set 1 (record { 0 = closed_word })) }
    ∷ record { line = "go 0"; says = Some (Go program_class (record { 0 = 0 })) }
    ∷ record { line = "set 1 9"; says = Some (Set 1 (record { 0 = 9 })) }
    ∷ record { line = "set 0 4294967295"; says = Some (Set 0 (record { 0 = 4294967295 })) }
    ∷ record { line = "aim 4294967294"; says = Some (Aim (record { 0 = 4294967294 })) }
    ∷ record { line = "aim 4294967295"; says = Some (Aim (record { 0 = out_of_range })) }
    ∷ record { line = "aim 4294967296"; says = Some (Aim (record { 0 = out_of_range })) }
    ∷ record { line = "est 4294967297"; says = Some (Estimate (record { 0 = out_of_range })) }
    ∷ record { line = "go 18446744073709551615"; says = Some (Go program_class (record { 0 = out_of_range })) }
    ∷ record { line = "set 4294967296 10"; says = Some (Set out_of_range (record { 0 = 10 })) }
    ∷ record { line = "go 007"; says = Some (Go program_class (record { 0 = 7 })) }
    ∷ record { line = "set 00000000000000000001 18446744073709551615"; says = Some (Set 1 (record { 0 = none_word })) }
    ∷ []

-- ---- what is refused on a map of 4 junctions and 5 roads of base time 10: numbers past its own, and times past the range of tenths

pub record AskedLine : Type 0 where
  pub line : String
  pub refused : math.Option Refusal

abbrev pub asked : List AskedLine
asked =
    record { line = "aim 4294967296"; refused = some NoJunction }
    ∷ record { line = "est 4294967297"; refused = some NoJunction }
    ∷ record { line = "go 18446744073709551615"; refused = some NoJunction }
    ∷ record { line = "set 4294967296 10"; refused = some NoRoad }
    ∷ record { line = "set 0 4294967295"; refused = some NotAllowed }
    ∷ record { line = "set 0 10000001"; refused = some NotAllowed }
    ∷ record { line = "set 0 9"; refused = some NotAllowed }
    ∷ record { line = "set 0 10000000"; refused = none }
    ∷ record { line = "set 0 18446744073709551615"; refused = none }
    ∷ []

abbrev pub known : Known
known = record { n = 4; m = 5; base = λ i. some 10; target = At 3 }

abbrev pub refused_by : Option Call → math.Option Refusal
refused_by (Some c) = refusal_of known (call_in c) 4 4
refused_by None = none

-- ---- lines that are unreadable

abbrev pub unreadable : List String
unreadable =
    "" ∷ "\t" ∷ "aim" ∷ "aim " ∷ "go" ∷ "set" ∷ "set 1" ∷ "set 1 "
    ∷ " aim 3" ∷ "aim 3 " ∷ "aim  3" ∷ "set 1  9" ∷ "set  1 9" ∷ "set 1 9 " ∷ "aim\t3" ∷ "aim 3\r" ∷ "aim3"
    ∷ "aim -3" ∷ "aim +3" ∷ "aim 3.0" ∷ "aim 0x3" ∷ "aim three" ∷ "aim 3/" ∷ "aim 3:"
    ∷ "aim 000000000000000000003" ∷ "aim 18446744073709551616" ∷ "go 99999999999999999999"
    ∷ "set 0 18446744073709551616" ∷ "set 18446744073709551616 1"
    ∷ "AIM 3" ∷ "Aim 3" ∷ "estimate 0" ∷ "ai 3" ∷ "stop 0" ∷ "aim 3 4" ∷ "set 1 2 3" ∷ "3 aim" ∷ "3"
    ∷ []

-- ---- what answers print, with the route area [0, 1, 7]: document 01's six, and the other kinds

pub record PrintedAnswer : Type 0 where
  pub answer : Answer
  pub prints : String

abbrev pub printed : List PrintedAnswer
printed =
    record { answer = Accepted; prints = "ok\n" }
    ∷ record { answer = Estimated 20; prints = "est 20\n" }
    ∷ record { answer = Gone 20 3 2; prints = "go 20 3 0 1\n" }
    ∷ record { answer = Refused NotAllowed; prints = "no 11\n" }
    ∷ record { answer = Estimated none_word; prints = "est none\n" }
    ∷ record { answer = Gone 0 1 0; prints = "go 0 1\n" }
    ∷ record { answer = Gone most_total 4096 3; prints = "go 40950000000 4096 0 1 7\n" }
    ∷ record { answer = Gone 9 9 4; prints = "go 9 9 0 1 7\n" }
    ∷ record { answer = Refused (Road 16383); prints = "no 5 16383\n" }
    ∷ record { answer = Refused (Place 0); prints = "no 6 0\n" }
    ∷ record { answer = Refused Room; prints = "no 8\n" }
    ∷ record { answer = Refused (NoPath 2); prints = "no 15\n" }
    ∷ []

pub printed-right : map (λ (p : PrintedAnswer). answer_text p.answer (0 ∷ 1 ∷ 7 ∷ [])) printed ≡ map
    (λ (p : PrintedAnswer). ascii p.prints) printed
unfolding spaced decimal digits_in of_word
printed-right = refl

-- document 01's second trip, roads 2 and 3; the unreadable line's text
pub also_right : (answer_text (Gone 25 4 2) (2 ∷ 3 ∷ []) ≡ ascii "go 25 4 2 3\n") × (unreadable_text ≡ ascii "no 0\n")
unfolding spaced decimal digits_in
also_right = (refl, refl)

-- ---- in an area: with room, and with none

pub shown-right : (shown (ascii "ok\n") (ascii "......") ≡ ascii "ok\n...") × (shown (ascii "est 20\n") (ascii "...") ≡ ascii "est")
unfolding shown
shown-right = (refl, refl)
