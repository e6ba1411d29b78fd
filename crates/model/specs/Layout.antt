-- The card's layout, said once: the table of contents, and the bodies that its entries name. Definitions only.
use Rattle.std.specs.Prelude.{Bool, ◌&&◌, cond, true, List, [], ◌++◌, ◌∷◌, ◌*◌, ◌+◌, ◌/◌, suc, zero, ℕ, eqb, leb, ltb, drop, length, take}
use Rattle.model.specs.Bytes.{word_at, words_at}
use Rattle.model.specs.Limits.{fewest_sections}

-- ---- the table of contents

-- "for each section its kind, its start byte and its length in bytes"
pub record Section : Type 0 where
  pub kind : ℕ
  pub start : ℕ
  pub size : ℕ

-- "the number of sections", which the first word is
abbrev pub sections : (card : List ℕ) → ℕ
sections card = word_at card 0

-- the bytes of the first word
abbrev pub count_size : ℕ
count_size = 4

-- the byte at which entry i begins, the number of sections standing before the first: "12 table bytes a section after it"
abbrev pub entry_at : (i : ℕ) → ℕ
entry_at i = count_size + 12 * i

-- the bytes of a table of so many entries
abbrev pub table_size : (count : ℕ) → ℕ
table_size count = entry_at count

-- the words of entry i
abbrev pub section : (card : List ℕ) → (i : ℕ) → Section
section card i = record { kind = word_at card (entry_at i); start = word_at card (entry_at i + 4); size = word_at card (entry_at i + 8) }

-- the entries from entry i on
abbrev pub sections_from : (card : List ℕ) → (i count : ℕ) → List Section
sections_from card i zero = []
sections_from card i (suc count) = section card i ∷ sections_from card (suc i) count

-- ---- entries and bodies of a card of any bytes

-- the table has an entry i, and the card does not end before it does
abbrev pub has_entry : (card : List ℕ) → (i : ℕ) → Bool
has_entry card i = ltb i (sections card) && leb (entry_at (i + 1)) (length card)

-- entry i, and that of an empty body where there is none
unfoldable pub entry_of : (card : List ℕ) → (i : ℕ) → Section
unfolding word_at
entry_of card i = cond (has_entry card i) (section card i) (record { kind = 0; start = 0; size = 0 })

abbrev pub body : (card : List ℕ) → Section → List ℕ
body card s = take s.size (drop s.start card)

-- "Each body is handed on as the part of the card that its entry names."; nothing if it reaches past the card's end
unfoldable pub part_of : (card : List ℕ) → Section → List ℕ
part_of card s = cond (leb (s.start + s.size) (length card)) (body card s) []

-- the body of entry i
unfoldable pub body_at : (card : List ℕ) → (i : ℕ) → List ℕ
unfolding entry_of part_of
body_at card i = part_of card (entry_of card i)

-- the words of a body
abbrev pub words_in : (bytes : List ℕ) → List ℕ
words_in l = words_at l 0 (length l / 4)

-- "a row's length taken as 4 bytes a word"
abbrev pub row_size : (words : List ℕ) → ℕ
row_size l = 4 * length l

-- ---- the bodies: each has the place of its kind

-- "Kind 1 holds the roads, 12 bytes each"
abbrev pub roads_kind : ℕ
roads_kind = 1

abbrev pub road_size : ℕ
road_size = 12

abbrev pub roads_in : (card : List ℕ) → List ℕ
roads_in card = body_at card 0

-- "Kind 2 holds the order, 4 bytes each"
abbrev pub order_kind : ℕ
order_kind = 2

abbrev pub place_size : ℕ
place_size = 4

abbrev pub order_in : (card : List ℕ) → List ℕ
order_in card = body_at card 1

-- document 02, A6: "a section of kind 3, one byte per road"; nothing where a card has no such section
abbrev pub access_in : (card : List ℕ) → List ℕ
access_in card = body_at card 2

-- entry i names a body of k bytes inside the card; a body without bytes needs no entry
unfoldable pub names : (card : List ℕ) → (i k : ℕ) → Bool
unfolding entry_of
names card i k = let s = entry_of card i in eqb s.size k && leb (s.start + s.size) (length card)

-- A6: where there is a third section, it has a byte for each of m roads: "the new length to be m"
abbrev pub access_fits : (card : List ℕ) → (m : ℕ) → Bool
access_fits card m = cond (ltb fewest_sections (sections card)) (has_entry card 2 && names card 2 m) true

-- the table names bodies for n junctions and m roads
unfoldable pub named : (card : List ℕ) → (n m : ℕ) → Bool
unfolding word_at names
named card n m = names card 0 (road_size * m) && names card 1 (place_size * n) && access_fits card m

-- the byte at which the base time of road i stands in the body of the roads: "tail, head, base time"
abbrev pub base_at : (i : ℕ) → ℕ
base_at i = road_size * i + 8

-- ---- the card that the writer makes: two sections, whose roads have a bytes and whose order has b

-- "the first start 28, the second 28 plus the first length"
abbrev pub roads_entry : (a : ℕ) → Section
roads_entry a = record { kind = roads_kind; start = table_size 2; size = a }

abbrev pub order_entry : (a b : ℕ) → Section
order_entry a b = record { kind = order_kind; start = table_size 2 + a; size = b }

-- the words of an entry, and those of the table
abbrev pub entry_words : Section → List ℕ
entry_words s = s.kind ∷ s.start ∷ s.size ∷ []

abbrev pub table : (a b : ℕ) → List ℕ
table a b = 2 ∷ entry_words (roads_entry a) ++ entry_words (order_entry a b)

-- the bytes of that card
abbrev pub size_with : (a b : ℕ) → ℕ
size_with a b = table_size 2 + a + b

-- the same of n junctions and m roads
abbrev pub card_size : (n m : ℕ) → ℕ
card_size n m = size_with (road_size * m) (place_size * n)
