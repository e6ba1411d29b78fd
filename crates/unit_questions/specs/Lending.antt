-- The areas that a function is lent beside the unit's, and the lengths of the unit's. Definitions only.
use Rattle.std.specs.Prelude.{Bool, ◌&&◌, List, ℕ, length}
use Rattle.std.specs.Borrow.{MutBor}
use denote.MutBor.{as_bor}
use denote.Triple.Both.{Both}
use Rattle.model.specs.Types.{Header}
use Rattle.model.specs.Areas.{Areas, Each, areas_of}
use Rattle.model.specs.State.{Lent, question9, usable}
use Rattle.network.specs.Lending.{Slice}
use Rattle.unit_questions.specs.declared.Lengths.{Lengths}
use Rattle.unit_questions.specs.declared.Prepared.{Prepared}

-- a slice that is lent to be altered, as a lent slice
abbrev pub mut : Both (MutBor (List ℕ)) (MutBor (List ℕ)) → Slice
mut x = record { entry = as_bor x.entry; exit = as_bor x.exit }

-- go's two lent areas
abbrev pub lent_of : (route log : List ℕ) → Lent
lent_of route log = record { route = route; log = log }

abbrev pub lent : (route log : Slice) → Both Lent Lent
lent r l = record { entry = lent_of r.entry.now l.entry.now; exit = lent_of r.exit.now l.exit.now }

-- areas that are lent beside those of a call, and that it does not touch
abbrev pub untouched : Lent → Both Lent Lent
untouched l = record { entry = l; exit = l }

-- ---- what preparing leaves, in one struct

-- the unit's nine areas, of which five are the struct's
abbrev pub areas_with : Both Prepared Prepared → (live down estimates elapsed : Slice) → Both Areas Areas
areas_with p l d e t = record {
  entry = areas_of p.entry.ranks.now p.entry.pairs.now p.entry.times.now l.entry.now d.entry.now e.entry.now t.entry.now
      p.entry.leaving.now p.entry.groups.now;
  exit = areas_of p.exit.ranks.now p.exit.pairs.now p.exit.times.now l.exit.now d.exit.now e.exit.now t.exit.now
      p.exit.leaving.now p.exit.groups.now;
}

-- ---- lengths

abbrev pub lengths_in : Lengths → Each ℕ
lengths_in l =
    areas_of l.ranks l.pairs l.times l.live l.down l.estimates l.elapsed l.leaving l.groups

-- 9, of a header in range and a card whose table names its bodies
abbrev pub fits_by : Header → (card : List ℕ) → Each ℕ → Bool
fits_by h card l = usable card h && question9 h.n h.m h.pairs h.card (length card) l
