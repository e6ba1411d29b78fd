-- Preparing once questions 1 to 7 have passed. Definitions only.
use Rattle.std.specs.Prelude.{◌≡◌, Err, List, Ok, Result, ℕ, length}
use Rattle.std.proofs.Math.Option.{none}
use Rattle.std.specs.Borrow.{MutBor}
use denote.Triple.Both.{Both}
use Rattle.model.specs.Types.{Absent, Accepted, Answered, Refusal, Refused}
use Rattle.model.specs.Bytes.{word_at}
use Rattle.model.specs.Layout.{base_at}
use Rattle.model.specs.Card.{map_on}
use Rattle.model.specs.Areas.{Areas, areas_of}
use Rattle.model.specs.State.{areas_refusal, zero_header}
use Rattle.model.specs.Promises.{PrepareContract}
use Rattle.network.specs.declared.Sizes.{Sizes}
use Rattle.network.specs.declared.Refusal as by
use Rattle.network.specs.Refusals.{refusal_in}
use Rattle.unit_preparing.specs.declared.Areas as code

-- the areas that a struct of lent slices holds
abbrev pub areas_in : code.Areas → Areas
areas_in a =
    areas_of a.ranks.now a.pairs.now a.times.now a.live.now a.down.now a.estimates.now a.elapsed.now a.leaving.now
    a.groups.now

-- and as a function that takes the struct leaves them: what stands behind its fields, in their order
abbrev pub Left : Type 0
Left =
    MutBor (List ℕ) × (MutBor (List ℕ) × (MutBor (List ℕ) × (MutBor (List ℕ) × (MutBor (List ℕ)
    × (MutBor (List ℕ) × (MutBor (List ℕ) × (MutBor (List ℕ) × (MutBor (List ℕ) × Unit {0}))))))))

abbrev pub areas_left : Left → Areas
areas_left (r, (p, (q, (l, (d, (e, (t, (g, (h, u))))))))) =
    areas_of r.now p.now q.now l.now d.now e.now t.now g.now h.now

-- the same of nine slices: when the function is called
abbrev pub held : (ranks pairs times live down estimates elapsed leaving groups : MutBor (List ℕ)) → Areas
held r p q l d e t g h = areas_of r.now p.now q.now l.now d.now e.now t.now g.now h.now

-- and also when it returns
abbrev pub areas_lent : (ranks pairs times live down estimates elapsed leaving groups : Both (MutBor (List ℕ)) (MutBor (List ℕ)))
    → Both Areas Areas
areas_lent r p q l d e t g h = record {
  entry = held r.entry p.entry q.entry l.entry d.entry e.entry t.entry g.entry h.entry;
  exit = held r.exit p.exit q.exit l.exit d.exit e.exit t.exit g.exit h.exit;
}

-- questions 1 to 7 pass, and the card has so many junctions, roads and bytes
pub record Accepts (card : List ℕ) (s : Sizes) (a : Areas) : Type 0 where
  pub passes : areas_refusal card a ≡ none
  pub n-is : s.n ≡ (map_on card).vertices
  pub m-is : s.m ≡ (map_on card).base.arcs
  pub card-is : s.card ≡ length card

-- the base time of road i: "tail, head, base time"
abbrev pub base_in : (roads : List ℕ) → (i : ℕ) → ℕ
base_in roads i = word_at roads (base_at i)

-- "A refused preparing hands back one of zeros and no target."
abbrev pub refused_by : Refusal → Answered
refused_by q = record { header = zero_header; answer = Refused q }

-- what is handed back: the four numbers and no target, or a refusal
abbrev pub handed_in : Result Sizes by.Refusal → Answered
handed_in (Ok s) = record { header = record { n = s.n; m = s.m; pairs = s.pairs; card = s.card; target = Absent }; answer = Accepted }
handed_in (Err q) = refused_by (refusal_in q)

-- what is handed back, and what is left in the areas, is document 01's
abbrev pub Prepares : (card : List ℕ) → Both Areas Areas → Answered → Type 0
Prepares card a r = PrepareContract card a.entry a.exit r
