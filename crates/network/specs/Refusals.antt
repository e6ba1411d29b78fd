-- The code's refusals as document 01's. Definitions only.
use Rattle.std.specs.Prelude.{Err, Ok, Result}
use Rattle.std.proofs.Math.Option.{Option, none, some}
use Rattle.model.specs.Types as model
use Rattle.network.specs.declared.Refusal.{Refusal}
use Rattle.network.specs.declared.Refusal.TheVariants as by

-- the refusal of document 01
abbrev pub refusal_in : Refusal → model.Refusal
refusal_in by.Short = model.Short
refusal_in by.Kinds = model.Kinds
refusal_in by.Starts = model.Starts
refusal_in by.Sizes = model.Sizes
refusal_in (by.Road i) = model.Road i
refusal_in (by.Place i) = model.Place i
refusal_in by.AreaLengths = model.AreaLengths
refusal_in by.Room = model.Room
refusal_in by.Lengths = model.Lengths
refusal_in by.NoRoad = model.NoRoad
refusal_in by.NotAllowed = model.NotAllowed
refusal_in by.NoJunction = model.NoJunction
refusal_in by.NoTarget = model.NoTarget
refusal_in by.LentLengths = model.LentLengths
refusal_in (by.NoPath count) = model.NoPath count
refusal_in by.StopCount = model.StopCount
refusal_in (by.NoLeg i) = model.NoLeg i
refusal_in by.NoClass = model.NoClass

-- what questions find: the refusal, if there is one
abbrev pub verdict_in : Result Unit Refusal → Option model.Refusal
verdict_in (Ok _) = none
verdict_in (Err q) = some (refusal_in q)
