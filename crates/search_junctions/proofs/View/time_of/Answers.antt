-- The live time is read, and it is the time in force unless another one is set in its place (`seen-live`, `seen-set`, `seen_other`).
use native.Mathlib.Omega.{arith}
use mathlib.Core.Path.{refl}
use Rattle.search_junctions.proofs.Seeing.{seen_in, seen-live, seen_other, seen-set}
use Rattle.search_junctions.proofs.View.time_of.Goals as goal

pub bounds-live-i : goal.bounds-live-i
bounds-live-i c =
    let inside = seen_in c.args.live.now c.args.i c.args.self c.requires in
    omega arith

pub returns-in-Live : goal.returns-in-Live
returns-in-Live c =
    seen-live c.args.live.now c.args.i c.in-Live.is refl

pub returns-then-road-i : goal.returns-then-road-i
returns-then-road-i c =
    seen-set c.args.live.now c.args.i c.in-Set.is c.if-road-i.true c.requires

pub returns-else-road-i : goal.returns-else-road-i
returns-else-road-i c =
    seen_other c.args.live.now c.args.i c.in-Set.is c.if-road-i.false refl
