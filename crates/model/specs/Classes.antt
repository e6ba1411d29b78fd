-- Vehicle classes (document 02, A6): "Tail-lift buses can't use some lanes." Definitions only.
use Rattle.std.specs.Prelude.{Bool, cond, List, ◌%◌, ◌/◌, suc, zero, ℕ, eqb, get_or, length}
use Rattle.std.proofs.Math.Option.{none}
use Rattle.graph.specs.Total.{Total}
use Rattle.model.specs.Word.{closed_word}
use Rattle.model.specs.Bytes.{listed}

-- ---- the bytes

-- the byte that lets every class in
abbrev pub every_class : ℕ
every_class = 255

-- "one byte per road"; "Without it all classes pass": the byte of road i, of a section or of its absence
abbrev pub access_of : (bytes : List ℕ) → (road : ℕ) → ℕ
access_of bytes i = get_or bytes i every_class

-- a byte without its c lowest bits
abbrev pub halved : (c byte : ℕ) → ℕ
halved zero b = b
halved (suc c) b = halved c (b / 2)

-- "bit c from the lowest, 0 to 7, lets class c in"
unfoldable pub admits : (byte class : ℕ) → Bool
admits b c = eqb (halved c b % 2) 1

-- ---- "a road barred to it counts as closed for that call"

-- the times in force, as the class meets them
abbrev pub class_live : (access : ℕ → ℕ) → (class : ℕ) → (live : ℕ → Total) → ℕ → Total
class_live access c live i = cond (admits (access i) c) (live i) none

-- the same of the words of an area
abbrev pub class_times : (access : ℕ → ℕ) → (class : ℕ) → (live : List ℕ) → List ℕ
class_times access c live = listed (length live) (λ i. cond (admits (access i) c) (get_or live i 0) closed_word)
