-- An entry as the code has it, and the place of the next one. Definitions only.
use Rattle.std.specs.Prelude.{cond, List, ◌+◌, ℕ}
use Rattle.model.specs.Layout as layout
use Rattle.model.specs.Layout.{has_entry}
use Rattle.card_layout.specs.declared.Section.{Section}

abbrev pub section_in : Section → layout.Section
section_in s = record { kind = s.kind; start = s.start; size = s.size }

-- the entry after entry i; i again where the table has no entry i
unfoldable pub entry_after : (card : List ℕ) → (i : ℕ) → ℕ
entry_after card i = cond (has_entry card i) (i + 1) i
