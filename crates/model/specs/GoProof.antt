-- The plain machine that a state stands for, and lent areas of the same lengths. Definitions; what is proved of them stands in
-- proofs/GoProof.antt.
use Rattle.std.specs.Prelude.{◌≡◌, length}
use Rattle.model.specs.State.{Lent, State}
use Rattle.model.specs.Machine.{Machine}
use Rattle.model.specs.Go.{live_of}

-- ---- the machine that a state stands for

abbrev pub machine_of : State → Machine
machine_of s = record { live = live_of s.areas.live; target = s.header.target }

-- two lent areas have the lengths of two others
pub record SameLengths (a b : Lent) : Type 0 where
  pub route : length a.route ≡ length b.route
  pub log : length a.log ≡ length b.log
