-- What the code below the calls needs of a state that a list of calls left. Assumes nothing.
use Rattle.std.proofs.Common.{◌∙◌, ap, subst, subst₂, sym, arith}
use Rattle.std.specs.Prelude.{◌≡◌, List, ℕ}
use Rattle.model.specs.Layout.{order_in, roads_in}
use Rattle.model.specs.Card.{map_on}
use Rattle.model.specs.Areas.{Aimed, times_in}
use Rattle.model.specs.State.{State}
use Rattle.model.specs.Good.{Good}
use Rattle.network.specs.Bodies.{Prepared}
use Rattle.road_groups.specs.Lending.{GroupsMade}
use Rattle.road_groups.specs.OnMap.{on_map_made}
use Rattle.pairs_descents.specs.Downs.{Descended}
use Rattle.pairs_hierarchy.specs.Estimates.{Estimated}
use Rattle.calls.specs.Roads.{good-sound}

module _ {card : List ℕ} {s : State} (g : Good card s) where
  pub good-prepared : Prepared (roads_in card) (order_in card) s.areas.built.ranks s.areas.built.pairs s.areas.built.times
      s.header.pairs
  good-prepared = record {
    sound = good-sound g;
    ranks_are = g.ranks_are;
    count-is = g.pairs_is;
    pairs_are = g.pairs_are;
    times_are = g.times_are ∙ ap (times_in (map_on card)) (sym g.lengths.times);
    room = omega (arith, g.pairs_is, g.lengths.room);
    same-room = g.lengths.times;
  }

  -- the roads by tail, as a search relies on them
  pub good-groups :
      GroupsMade (roads_in card) (map_on card).vertices (map_on card).base.arcs s.areas.built.leaving s.areas.built.groups
  good-groups = on_map_made good-prepared.sound g.leaving-is g.groups_are

-- ---- parts of the areas, as they were handed on

pub descended_at : {order there pairs pairs' times times' : List ℕ} {count : ℕ} {down : List ℕ} {j : ℕ} → order ≡ there
    → pairs' ≡ pairs → times' ≡ times → Descended order pairs times count down j → Descended there pairs' times' count down j
descended_at {there = there} {pairs = pairs} {times = times} {count = count} {down} {j} e p t d =
    subst₂ (λ (x : List ℕ) (y : List ℕ). Descended there x y count down j) (sym p) (sym t)
    (subst (λ (x : List ℕ). Descended x pairs times count down j) e d)

pub estimated-at : {order there ranks ranks' pairs pairs' times times' : List ℕ} {count : ℕ} {down e z : List ℕ} {j v : ℕ}
    {a : Aimed (List ℕ)} → order ≡ there → ranks' ≡ ranks → pairs' ≡ pairs → times' ≡ times
    → a ≡ record { down = down; estimates = e } → Estimated order ranks pairs times count down e z j v
    → Estimated there ranks' pairs' times' count a.down a.estimates z j v
estimated-at {order} {there} {ranks} {ranks'} {pairs} {times = times} {count = count} {z = z} {j} {v} {a} q r p t u d =
    subst₂ (λ (x : List ℕ) (y : List ℕ). Estimated there ranks' x y count a.down a.estimates z j v) (sym p) (sym t)
    (subst₂ (λ (x : List ℕ) (y : List ℕ). Estimated y x pairs times count a.down a.estimates z j v) (sym r) q
    (subst (λ (y : Aimed (List ℕ)). Estimated order ranks pairs times count y.down y.estimates z j v) (sym u) d))
