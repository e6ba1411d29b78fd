-- The text of an answer, without the end of its line. Definitions only.
use Rattle.std.specs.Prelude.{cond, List, [], ◌++◌, ◌∷◌, ℕ, eqb, take}
use Rattle.std.proofs.Math.Option.{none, some}
use Rattle.graph.specs.Total.{Total}
use Rattle.model.specs.Types.{Accepted, Answer, Estimated, Gone, Previewed, Refusal, Refused, Stopped}
use Rattle.model.specs.Word.{of_word}
use Rattle.line_texts.specs.Areas.{spaced}
use Rattle.line_texts.specs.Ascii.{ascii}

-- "a missing estimate is `est none`"
abbrev pub total_text : Total → List ℕ
total_text none = ascii " none"
total_text (some t) = spaced (t ∷ [])

abbrev pub time_text : (word : ℕ) → List ℕ
time_text w = total_text (of_word w)

-- "with the place after 5 and 6"
abbrev pub places_of : Refusal → List ℕ
places_of q = cond (eqb q.question 5) (q.place ∷ []) (cond (eqb q.question 6) (q.place ∷ []) [])

-- "a refusal is `no` and its number"
abbrev pub refusal_text : Refusal → List ℕ
refusal_text q = ascii "no" ++ spaced (q.question ∷ places_of q)

-- "`go` gives total, count, roads"
abbrev pub trip_text : (total count : ℕ) (roads : List ℕ) → List ℕ
trip_text total count roads = ascii "go" ++ spaced (total ∷ count ∷ roads)

-- a go's roads are the first k words of the route area
abbrev pub worded : Answer → (route : List ℕ) → List ℕ
worded (Refused q) route = refusal_text q
worded Accepted route = ascii "ok"
worded (Estimated w) route = ascii "est" ++ time_text w
worded (Gone total count k) route = trip_text total count (take k route)
-- no line of the program asks for a preview or a list of stops
worded (Previewed present new change) route = ascii "ok"
worded (Stopped legs whole) route = ascii "ok"
