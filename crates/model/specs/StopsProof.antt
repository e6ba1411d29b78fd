-- What two journeys over the same stops agree in, and how a leg ended. Definitions; what is proved of them stands in
-- proofs/StopsProof.antt.
use Rattle.std.specs.Prelude.{◌≡◌, false, true, List, ◌∷◌, suc, ℕ, length, take}
use Rattle.std.proofs.Math.Option.{some}
use Rattle.graph.specs.Total.{Total}
use Rattle.graph.specs.Stops.{whole_from}
use Rattle.graph.specs.Map.{Map, time_of}
use Rattle.model.specs.Stops.{FirstLost, FoundLogged, Journey, LegsRight, LostLogged, PlainJourney}
use Rattle.model.specs.Stops.{leg_at}
use Rattle.model.specs.Stops.{whole_of}
use Rattle.model.specs.GoProof.{machine_of}

-- ---- the machine makes the same legs

-- a journey of the unit, and one of the machine
pub record Agree (j : Journey) (p : PlainJourney) : Type 0 where
  pub legs : j.legs ≡ p.legs
  pub complete : j.complete ≡ p.complete
  pub next : p.next ≡ machine_of j.state
  pub roads : take (length p.roads) j.lent.route ≡ p.roads
  pub log : take (length p.log) j.lent.log ≡ p.log

-- ---- how a journey ends: with its last leg, or at the first one that has no chain

-- j is the journey from a by the stops; `log` is the log area that it was lent
pub data Ended (M : Map) (live : ℕ → Total) (a : ℕ) (stops log : List ℕ) (j : Journey) : Type 0 where
  arrived : j.complete ≡ true → LegsRight M live a stops j.legs j.lent.route
      → whole_from (time_of M live) a stops ≡ some (whole_of j.legs)
      → ((k : ℕ) → suc k ≡ length j.legs → FoundLogged M live (a ∷ stops) k (leg_at j.legs k).total j.lent.log)
      → (length j.legs ≡ 0 → j.lent.log ≡ log) → Ended M live a stops log j
  left-off : j.complete ≡ false → FirstLost M live (a ∷ stops) (length j.legs)
      → LostLogged M live (a ∷ stops) (length j.legs) j.lent.log → Ended M live a stops log j
