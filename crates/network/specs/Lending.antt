-- Areas that a function is lent, as its clauses name them. Definitions only.
use Rattle.std.specs.Prelude.{List, ℕ}
use Rattle.std.specs.Borrow.{Bor}
use denote.Triple.Both.{Both}
use Rattle.model.specs.Areas.{Areas, areas_of}

-- a lent slice: what `requires` calls it, when the function is called; and what `ensures` calls it, then and when the function returns
abbrev pub Held : Type 0
Held = Bor (List ℕ)

abbrev pub Slice : Type 0
Slice = Both (Bor (List ℕ)) (Bor (List ℕ))

-- the unit's nine areas
abbrev pub areas : (ranks pairs times live down estimates elapsed leaving groups : Slice) → Both Areas Areas
areas r p q l d e t g h = record {
  entry = areas_of r.entry.now p.entry.now q.entry.now l.entry.now d.entry.now e.entry.now t.entry.now
      g.entry.now h.entry.now;
  exit = areas_of r.exit.now p.exit.now q.exit.now l.exit.now d.exit.now e.exit.now t.exit.now g.exit.now
      h.exit.now;
}
