-- A8 in plain sentences: what is seen where a total can only grow, or only shrink. Definitions; what is proved of them stands in
-- proofs/ReportUse.antt.
use Rattle.std.specs.Prelude.{◌≡◌, ◌+◌, ◌-◌, ◌≤◌, ℕ, neg_ℤ, pos}
use Rattle.std.proofs.Math.Option.{some}
use Rattle.model.specs.Types.{Answer, Previewed}

-- ---- what is seen of a report where a route exists before and after it

-- the later total is larger by 0 to d, and the preview shows both and how much larger
abbrev pub SeenLarger : (d T T' : ℕ) → (preview : Answer) → Type 0
SeenLarger d T T' preview = (T ≤ T') × (T' ≤ T + d) × (preview ≡ Previewed (some T) (some T') (some (pos (T' - T))))

-- it is smaller by 0 to d, and the preview shows both and how much smaller, as a number below 0, or 0
abbrev pub SeenSmaller : (d T T' : ℕ) → (preview : Answer) → Type 0
SeenSmaller d T T' preview = (T' ≤ T) × (T ≤ T' + d) × (preview ≡ Previewed (some T) (some T') (some (neg_ℤ (pos (T - T')))))
