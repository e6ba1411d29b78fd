-- What a line of input says. "A readable one is a call's word and its numbers, one space before each." Definitions only.
use Rattle.std.specs.Prelude.{cond, List, min, None, Option, Some, ℕ}
use Rattle.std.specs.Str.{bytes_eq}
use Rattle.network.specs.declared.Junction.{Junction}
use Rattle.unit_answers.specs.declared.Call.{Call}
use Rattle.unit_answers.specs.declared.Call.TheVariants.{Aim, Estimate, Go, Set}
use Rattle.line_fields.specs.Fields.{after_space, before_space, number_of}
use Rattle.line_texts.specs.Ascii.{ascii}

-- document 02, A6: "the program's `go` class 0"
abbrev pub program_class : ℕ
program_class = 0

-- the largest number of 32 bits: no map has a junction or a road of that number
abbrev pub out_of_range : ℕ
out_of_range = 4294967295

-- document 02, A7: a number of a line fits 64 bits, that of a junction or a road 32; one that does not is out of range
abbrev pub in_range : ℕ → ℕ
in_range v = min v out_of_range

-- `aim`, `est` and `go` have one number, a junction's
unfoldable pub call_of : (word : List ℕ) → ℕ → Option Call
call_of w v =
    cond (bytes_eq w (ascii "aim")) (Some (Aim (record { 0 = v })))
    (cond (bytes_eq w (ascii "est")) (Some (Estimate (record { 0 = v })))
    (cond (bytes_eq w (ascii "go")) (Some (Go program_class (record { 0 = v }))) None))

abbrev pub junction_in : Option ℕ → Option Junction
junction_in (Some v) = Some (record { 0 = in_range v })
junction_in None = None

abbrev pub one : (ℕ → Option Call) → Option ℕ → Option Call
one call (Some v) = call (in_range v)
one call None = None

-- `set` has two: road and time
abbrev pub two : Option ℕ → Option ℕ → Option Call
two (Some i) (Some t) = Some (Set (in_range i) (record { 0 = t }))
two (Some i) None = None
two None t = None

-- the call of a word and of what follows it
unfoldable pub called : (word numbers : List ℕ) → Option Call
called w r =
    cond (bytes_eq w (ascii "set")) (two (number_of (before_space r)) (number_of (after_space r))) (one (call_of w) (number_of r))

-- "a call's word and its numbers, one space before each"; none where the line is unreadable
abbrev pub line_of : List ℕ → Option Call
line_of s = called (before_space s) (after_space s)
