-- The readable lines, as document 01's sentence lists them. What `line_of` says of them stands in proofs/Grammar.antt. Assumes nothing.
use Rattle.std.proofs.Common.{length-append, arith}
use Rattle.std.specs.Prelude.{◌≡◌, List, ◌++◌, ◌∷◌, ◌<◌, ◌≤◌, ℕ, length, Some}
use Rattle.unit_answers.specs.declared.Call as call
use Rattle.unit_answers.specs.declared.Call.TheVariants.{Aim, Estimate, Go, Set}
use Rattle.line_fields.specs.Fields.{number_of}
use Rattle.line_fields.specs.Parts.{number-length}
use Rattle.line_texts.specs.Ascii.{ascii}
use Rattle.line_console.specs.Lines.{in_range, out_of_range, program_class}

-- "a call's word and its numbers, one space before each"
pub data Readable (line : List ℕ) : call.Call → Type 0 where
  aims : (s : List ℕ) (v : ℕ) → line ≡ ascii "aim " ++ s → number_of s ≡ Some v → Readable line (Aim (record { 0 = in_range v }))
  asks : (s : List ℕ) (v : ℕ) → line ≡ ascii "est " ++ s → number_of s ≡ Some v → Readable line (Estimate (record { 0 = in_range v }))
  goes : (s : List ℕ) (v : ℕ) → line ≡ ascii "go " ++ s → number_of s ≡ Some v
      → Readable line (Go program_class (record { 0 = in_range v }))
  sets : (s t : List ℕ) (i v : ℕ) → line ≡ ascii "set " ++ (s ++ (ascii " " ++ t)) → number_of s ≡ Some i → number_of t ≡ Some v
      → Readable line (Set (in_range i) (record { 0 = v }))

-- ---- a number of a line is below a number of junctions or roads exactly if what stands for it in the call is, and then is the same

module _ {v k : ℕ} (few : k ≤ out_of_range) where
  pub below-same : v < k → in_range v ≡ v
  below-same l = omega arith

  pub above_same : k ≤ v → k ≤ in_range v
  above_same l = omega arith

-- ---- the longest readable line has 45 bytes

pub readable-length : (line : List ℕ) (c : call.Call) → Readable line c → length line ≤ 45
readable-length line c (aims s v e n) = rw e (omega (arith, number-length s v n))
readable-length line c (asks s v e n) = rw e (omega (arith, number-length s v n))
readable-length line c (goes s v e n) = rw e (omega (arith, number-length s v n))
readable-length line c (sets s t i v e n m) = rw e (omega (arith, number-length s i n, number-length t v m, length-append s (32 ∷ t)))
