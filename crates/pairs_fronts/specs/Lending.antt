-- What beginning a front does to the fronts that it is lent. Definitions only.
use Rattle.std.specs.Prelude.{ℕ}
use Rattle.pairs_fronts.specs.declared.Fronts.{Fronts}
use Rattle.pairs_fronts.specs.Fronts.{Begun}

-- rank r has a front
abbrev pub FrontDone : (r place high end : ℕ) (f f' : Fronts) → Type 0
FrontDone r place high end f f' = Begun r place high end f.cursor f.ahead f.ends f.soon f'.cursor f'.ahead f'.ends f'.soon
