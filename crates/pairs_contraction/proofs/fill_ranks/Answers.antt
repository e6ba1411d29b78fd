-- A turn's place is one of the order's, so its junction has an entry (`junction-below`).
use Prim.Native.Nat.{◌<◌}
use mathlib.Core.Path.{◌∙◌, ◌≡◌}
use native.Mathlib.Omega.{arith}
use lib.ListN.{length}
use Rattle.network.specs.Bodies.{map-facts, map_in}
use Rattle.pairs_contraction.proofs.Places.{filled-end, filled-turn, junction-below}
use Rattle.pairs_contraction.proofs.fill_ranks.Goals as goal
use Rattle.pairs_contraction.proofs.fill_ranks.Goals.{In-loop-k, Start}

-- as many ranks as junctions
number : (c : Start) → length c.args.ranks.now ≡ (map_in c.requires.0.0 c.args.order.now).vertices
number c = omega (arith, (map-facts c.requires.0.1).order_is, c.requires.1)

pub overflow_cast-n : goal.overflow_cast-n
overflow_cast-n c =
    omega (arith, number (goal.at.overflow_cast-n c).Start, (map-facts c.requires.0.1).vertices-high)

place_in : (c : In-loop-k) → c.loop-k.k < (map_in c.requires.0.0 c.args.order.now).vertices
place_in c = omega (arith, c.loop-k-test.true, (map-facts c.requires.0.1).order_is, c.requires.1)

pub bounds-ranks-j : goal.bounds-ranks-j
bounds-ranks-j c =
    let place = goal.at.bounds-ranks-j c in
    let below = junction-below c.requires.0.1 (place_in place.In-loop-k) in
    omega (arith, c.junction_of-j.ensures, below, number place.Start, c.loop-k.auto.ranks)

pub loop-k-preserved : goal.loop-k-preserved
loop-k-preserved c =
    let place = goal.at.loop-k-preserved c in
    filled-turn c.requires.0.1 (c.loop-k.auto.ranks ∙ number place.Start) (place_in place.In-loop-k) c.junction_of-j.ensures
    c.loop-k.invariant

pub returns : goal.returns
returns c =
    let all = number (goal.at.returns c).Start in
    λ roads. filled-end c.requires.0.1 (c.loop-k.auto.ranks ∙ all) (omega (arith, c.loop-k-test.false, c.loop-k.auto.k-end, all))
    c.loop-k.invariant
