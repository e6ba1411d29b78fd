-- A script of calls as words, and the answers' words. Definitions only.
use Rattle.std.specs.Prelude.{Bool, cond, List, [], ◌++◌, ◌∷◌, ◌*◌, ◌+◌, ◌-◌, ◌/◌, min, suc, zero, ℕ, leb, ltb}
use Rattle.std.specs.Prelude.{◌≡◌, false, true, negsuc, pos, ℤ, drop, get_or, length, replicate, take}
use Rattle.std.specs.Prelude as code-option
use Rattle.std.proofs.Math.Option.{Option, none, some}
use Rattle.model.specs.Types.{Accepted, Answer, Estimated, Gone, Leg, Previewed, Refused, Stopped}
use Rattle.model.specs.Word.{word}
use Rattle.model.specs.Limits.{most_legs}
use Rattle.model.specs.Calls.{Aim, Asked, Estimate, Go, Plain, Preview, Set, Stops}
use Rattle.unit_answers.specs.Shape.{call_in}
use Rattle.unit_script.specs.declared.Asked as code
use Rattle.unit_script.specs.declared.Asked.TheVariants as scripts
use Rattle.unit_script.specs.declared.Kind.{Kind}
use Rattle.unit_script.specs.declared.Kind.TheVariants as kind
use Rattle.unit_script.specs.declared.Whole.{Whole}
use Rattle.unit_script.specs.declared.Scripted.{Scripted}
use Rattle.unit_script.specs.declared.Made.{Made}

-- ---- a call: its kind, and as many words as that call has
--      0 road time time'
--      1 junction
--      2 junction
--      3 class start route log
--      4 class road time time' start
--      5 class stops route log stop ..
--    a time is 64 bits wide and takes two words, the lower one first

-- how many words a call has, its kind with them; a list of stops says in its third word how many it has; 0 for a kind that is none
abbrev pub words_of : (kind stops : ℕ) → ℕ
words_of zero stops = 4
words_of (suc zero) stops = 2
words_of (suc (suc zero)) stops = 2
words_of (suc (suc (suc zero))) stops = 5
words_of (suc (suc (suc (suc zero)))) stops = 6
words_of (suc (suc (suc (suc (suc zero))))) stops = 5 + stops
words_of (suc (suc (suc (suc (suc (suc k)))))) stops = 0

-- the code's form of a kind, if the number is one
abbrev pub kind_of : (number : ℕ) → code-option.Option Kind
kind_of zero = code-option.Some kind.Set
kind_of (suc zero) = code-option.Some kind.Aim
kind_of (suc (suc zero)) = code-option.Some kind.Estimate
kind_of (suc (suc (suc zero))) = code-option.Some kind.Go
kind_of (suc (suc (suc (suc zero)))) = code-option.Some kind.Preview
kind_of (suc (suc (suc (suc (suc zero))))) = code-option.Some kind.Stops
kind_of (suc (suc (suc (suc (suc (suc k)))))) = code-option.None

-- the time of two words
abbrev pub time_of : (lower upper : ℕ) → ℕ
time_of lower upper = lower + 4294967296 * upper

-- how many entries the areas have that are lent to the calls of a script
pub record Lending : Type 0 where
  pub route : ℕ
  pub log : ℕ
  pub work : ℕ

-- what is asked, with all of route and log
abbrev pub with_all : Lending → Asked → Plain
with_all l a = record { asked = a; route = l.route; log = l.log }

-- the call that a kind and five words spell, with the stops behind them, beside areas of so many entries: the last two words of a go and
-- of a list of stops say how many entries of route and log it is lent, all of an area that has fewer; any other call is lent all of both,
-- and leaves them; a preview is lent the whole work area
abbrev pub spelled : (kind one two three four five : ℕ) → (stops : List ℕ) → Lending → Plain
spelled zero one two three four five stops l = with_all l (Set one (time_of two three))
spelled (suc zero) one two three four five stops l = with_all l (Aim one)
spelled (suc (suc zero)) one two three four five stops l = with_all l (Estimate one)
spelled (suc (suc (suc zero))) one two three four five stops l =
    record { asked = Go one two; route = min three l.route; log = min four l.log }
spelled (suc (suc (suc (suc zero)))) one two three four five stops l = with_all l (Preview one two (time_of three four) five l.work)
spelled (suc (suc (suc (suc (suc k))))) one two three four five stops l =
    record { asked = Stops one stops; route = min three l.route; log = min four l.log }

-- the code's form of what is asked, beside a work area of so many entries and with these stops
abbrev pub asked_in : code.Asked → (work : ℕ) → (stops : List ℕ) → Asked
asked_in (scripts.Four c) w stops = call_in c
asked_in (scripts.Preview c i t j) w stops = Preview c i t.0 j.0 w
asked_in (scripts.Stops c) w stops = Stops c stops

-- and of the call
abbrev pub scripted_in : Scripted → (work : ℕ) → (stops : List ℕ) → Plain
scripted_in c w stops = record { asked = asked_in c.asked w stops; route = c.route; log = c.log }

-- ---- at a place of a script

-- where the call ends that stands whole there; the place itself if none does
abbrev pub end_at : (script : List ℕ) → (at : ℕ) → ℕ
end_at script at =
    let end = at + words_of (get_or script at 0) (get_or script (at + 2) 0) in
    cond (leb end (length script)) end at

-- a call stands whole there: a kind that is one, and all its words
abbrev pub is_call : (script : List ℕ) → (at : ℕ) → Bool
is_call script at = ltb at (end_at script at)

-- what stands whole there, if a call does, in the code's form
abbrev pub StandsWhole : (script : List ℕ) (at : ℕ) → code-option.Option Whole → Type 0
StandsWhole script at (code-option.Some w) =
    (kind_of (get_or script at 0) ≡ code-option.Some w.kind) × (w.end ≡ end_at script at) × (is_call script at ≡ true)
StandsWhole script at code-option.None = is_call script at ≡ false

-- the stops of a list that stands there: as many as its third word says, behind its fifth
abbrev pub stops_at : (script : List ℕ) → (at : ℕ) → List ℕ
stops_at script at = take (get_or script (at + 2) 0) (drop (at + 5) script)

-- that call, beside areas of so many entries
abbrev pub call_at : (script : List ℕ) → (at : ℕ) → Lending → Plain
call_at script at =
    spelled (get_or script at 0) (get_or script (at + 1) 0) (get_or script (at + 2) 0) (get_or script (at + 3) 0) (get_or script (at + 4) 0)
    (get_or script (at + 5) 0) (stops_at script at)

-- ---- answers

-- an answer is four words, and two for each leg that a list of stops may have
abbrev pub answer_size : ℕ
answer_size = 4 + 2 * most_legs

-- a signed number as a 64-bit word, two's complement; 0 where there is none
abbrev pub change_word : Option ℤ → ℕ
change_word none = 0
change_word (some (pos d)) = d
change_word (some (negsuc d)) = 18446744073709551615 - d

-- The number of the question that refuses, or 0; estimate, total or the leg of 17; count; number of roads. A preview's: 0, present total,
-- new total, change; of a list of stops: 0, whole total, 0, number of legs.
abbrev pub four_words : Answer → List ℕ
four_words (Refused q) = q.question ∷ q.place ∷ q.count ∷ 0 ∷ []
four_words Accepted = 0 ∷ 0 ∷ 0 ∷ 0 ∷ []
four_words (Estimated t) = 0 ∷ t ∷ 0 ∷ 0 ∷ []
four_words (Gone t c k) = 0 ∷ t ∷ c ∷ k ∷ []
four_words (Previewed a b c) = 0 ∷ word a ∷ word b ∷ change_word c ∷ []
four_words (Stopped legs whole) = 0 ∷ whole ∷ 0 ∷ length legs ∷ []

-- total and number of roads of each leg
abbrev pub leg_words : List Leg → List ℕ
leg_words [] = []
leg_words (x ∷ legs) = x.total ∷ x.roads ∷ leg_words legs

-- the legs of an answer
abbrev pub legs_of : Answer → List Leg
legs_of (Stopped legs whole) = legs
legs_of (Refused q) = []
legs_of Accepted = []
legs_of (Estimated t) = []
legs_of (Gone t c k) = []
legs_of (Previewed a b c) = []

-- the words of an answer; those of legs that there are not are 0
abbrev pub answer_words : Answer → List ℕ
answer_words x = four_words x ++ leg_words (legs_of x) ++ replicate (2 * most_legs - 2 * length (legs_of x)) 0

-- how many answers have room in an area of so many words
abbrev pub room_in : (words : ℕ) → ℕ
room_in words = words / answer_size

-- an area with these words from entry i on
abbrev pub put_at : (area : List ℕ) → (i : ℕ) → (words : List ℕ) → List ℕ
put_at area i words = take i area ++ words ++ drop (i + length words) area

-- the words of k legs from leg i on
unfoldable pub legs_words : (totals roads : List ℕ) → (i k : ℕ) → List ℕ
legs_words totals roads i zero = []
legs_words totals roads i (suc k) = get_or totals i 0 ∷ get_or roads i 0 ∷ legs_words totals roads (suc i) k

-- the four words of a row of four
abbrev pub four_of : List ℕ → List ℕ
four_of w = get_or w 0 0 ∷ get_or w 1 0 ∷ get_or w 2 0 ∷ get_or w 3 0 ∷ []

-- the words that the code hands on to be written
abbrev pub made_words : Made → List ℕ
made_words m = four_of m.words ++ legs_words m.legs.totals m.legs.roads 0 most_legs
