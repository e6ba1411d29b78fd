-- The worked lines say what their tables list. Assumes nothing.
use Rattle.std.specs.Prelude.{◌≡◌, refl, [], ◌∷◌, map, length, replicate, None}
use Prim.Native.String.{String}
use Rattle.model.specs.Set.{set_refusal}
use Rattle.model.specs.Aim.{aim_refusal}
use Rattle.model.specs.Estimate.{estimate_refusal}
use Rattle.model.specs.Go.{go_refusal}
use Rattle.line_fields.specs.Fields.{all_digits, is_digit, is_number, number_of, value_from}
use Rattle.line_texts.specs.Ascii.{ascii}
use Rattle.line_console.specs.Lines.{call_of, called, line_of}
use Rattle.line_console.specs.Examples.{AskedLine, SaidLine, asked, readable, refused_by, unreadable}

-- ---- lines that say a call

pub readable-right : map (λ (r : SaidLine). line_of (ascii r.line)) readable ≡ map (λ (r : SaidLine). r.says) readable
unfolding called call_of number_of is_number all_digits is_digit value_from
readable-right = refl

-- ---- what is refused on a map of 4 junctions and 5 roads

pub asked-right : map (λ (a : AskedLine). refused_by (line_of (ascii a.line))) asked ≡ map (λ (a : AskedLine). a.refused) asked
unfolding called call_of number_of is_number all_digits is_digit value_from
    set_refusal aim_refusal estimate_refusal go_refusal
asked-right = refl

-- ---- lines that are unreadable

pub unreadable-right : map (λ (s : String). line_of (ascii s)) unreadable ≡ replicate (length unreadable) None
unfolding called call_of number_of is_number all_digits is_digit value_from
unreadable-right = refl

-- the byte 0, and one that is no ASCII character
pub odd_bytes : (line_of (97 ∷ 105 ∷ 109 ∷ 32 ∷ 51 ∷ 0 ∷ []) ≡ None) × (line_of (97 ∷ 105 ∷ 109 ∷ 32 ∷ 195 ∷ 169 ∷ []) ≡ None)
unfolding called call_of number_of is_number all_digits is_digit value_from
odd_bytes = (refl, refl)
