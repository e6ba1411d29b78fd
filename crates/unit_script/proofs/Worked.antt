-- Scripts worked by hand, beside a route area of two entries, a log area of three and a work area of eight. Assumes nothing.
use mathlib.Core.Path.{◌≡◌, refl}
use mathlib.Core.Bool.{false, true}
use mathlib.Core.Option.{none, some}
use mathlib.Core.List.{List, [], ◌++◌, ◌∷◌}
use Prim.Native.Nat.{◌*◌, ◌-◌, ℕ}
use lib.ListN.{replicate}
use Rattle.model.specs.Word.{none_word}
use Rattle.model.specs.Limits.{most_legs}
use Rattle.model.specs.Preview.{preview_answer}
use Rattle.model.specs.Stops.{stops_answer}
use Rattle.model.specs.Calls.{Aim, Asked, Estimate, Go, Plain, Preview, Set, Stops}
use Rattle.unit_script.specs.Words.{Lending, answer_words}
use Rattle.unit_script.specs.Script.{scripted}

abbrev beside : Lending
beside = record { route = 2; log = 3; work = 8 }

-- a call that is lent all of route and log
abbrev whole : Asked → Plain
whole a = record { asked = a; route = 2; log = 3 }

-- set, aim, estimate, go of class 6, which asks for one entry of the route and for more of the log than there are, and preview of class 2
-- with a time of more than 32 bits
each-call : scripted (0 ∷ 5 ∷ 60 ∷ 0 ∷ 1 ∷ 7 ∷ 2 ∷ 8 ∷ 3 ∷ 6 ∷ 9 ∷ 1 ∷ 100 ∷ 4 ∷ 2 ∷ 5 ∷ 61 ∷ 2 ∷ 9 ∷ []) beside 0 9
    ≡ whole (Set 5 60) ∷ whole (Aim 7) ∷ whole (Estimate 8) ∷ record { asked = Go 6 9; route = 1; log = 3 }
    ∷ whole (Preview 2 5 8589934653 9 8) ∷ []
each-call = refl

-- a kind that is none ends a script, whatever follows
unknown_kind : scripted (1 ∷ 7 ∷ 6 ∷ 1 ∷ 8 ∷ []) beside 0 9 ≡ whole (Aim 7) ∷ []
unknown_kind = refl

-- so does a call that is cut short, and so does the end of the room for answers
cut_short-call : scripted (1 ∷ 7 ∷ 3 ∷ 6 ∷ 9 ∷ 1 ∷ []) beside 0 9 ≡ whole (Aim 7) ∷ []
cut_short-call = refl

cut_short-preview : scripted (1 ∷ 7 ∷ 4 ∷ 2 ∷ 5 ∷ 61 ∷ 0 ∷ []) beside 0 9 ≡ whole (Aim 7) ∷ []
cut_short-preview = refl

-- a set lacks the upper word of its time
cut_short-set : scripted (1 ∷ 7 ∷ 0 ∷ 5 ∷ 60 ∷ []) beside 0 9 ≡ whole (Aim 7) ∷ []
cut_short-set = refl

no_room : scripted (1 ∷ 7 ∷ 1 ∷ 8 ∷ []) beside 0 1 ≡ whole (Aim 7) ∷ []
no_room = refl

-- a list of three stops of class 4, which asks for more of the route than there is and for two entries of the log
stops_call : scripted (5 ∷ 4 ∷ 3 ∷ 12 ∷ 2 ∷ 7 ∷ 8 ∷ 7 ∷ 1 ∷ 7 ∷ []) beside 0 9
    ≡ record { asked = Stops 4 (7 ∷ 8 ∷ 7 ∷ []); route = 2; log = 2 } ∷ whole (Aim 7) ∷ []
stops_call = refl

-- one that lacks its last stop, and one that lacks a word before the stops, end a script
cut_short-stops : scripted (1 ∷ 7 ∷ 5 ∷ 4 ∷ 3 ∷ 12 ∷ 3 ∷ 7 ∷ 8 ∷ []) beside 0 9 ≡ whole (Aim 7) ∷ []
cut_short-stops = refl

no-stops : scripted (1 ∷ 7 ∷ 5 ∷ 4 ∷ 0 ∷ 12 ∷ []) beside 0 9 ≡ whole (Aim 7) ∷ []
no-stops = refl

-- ---- answers

-- the words of no legs from leg k on
abbrev no-legs_from : (k : ℕ) → List ℕ
no-legs_from k = replicate (2 * most_legs - 2 * k) 0

-- a change of 5 down is a word in two's complement; where a total is none there is no change
five_down : answer_words (preview_answer (some 25) (some 20)) ≡ (0 ∷ 25 ∷ 20 ∷ 18446744073709551611 ∷ []) ++ no-legs_from 0
five_down = refl

no_new_total : answer_words (preview_answer (some 25) none) ≡ (0 ∷ 25 ∷ none_word ∷ 0 ∷ []) ++ no-legs_from 0
no_new_total = refl

-- two legs of 20, of two roads and of one
two-legs : answer_words (stops_answer true (record { total = 20; roads = 2 } ∷ record { total = 20; roads = 1 } ∷ []))
    ≡ (0 ∷ 40 ∷ 0 ∷ 2 ∷ 20 ∷ 2 ∷ 20 ∷ 1 ∷ []) ++ no-legs_from 2
two-legs = refl

-- leg 1 has no path: 17, and nothing of leg 0
second-lost : answer_words (stops_answer false (record { total = 20; roads = 2 } ∷ [])) ≡ (17 ∷ 1 ∷ 0 ∷ 0 ∷ []) ++ no-legs_from 0
second-lost = refl
