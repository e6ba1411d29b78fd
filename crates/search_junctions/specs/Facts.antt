-- A state that is ready, as a problem that the labels can be kept for. Assumes nothing.
use Rattle.std.specs.Prelude.{◌≡◌, refl, List, ◌*◌, ◌+◌, ◌<◌, ◌≤◌, ℕ, eqb}
use Rattle.std.proofs.Common.{sym, eq-eqb, ne_eqb, arith}
use Rattle.std.proofs.Math.Option.{none, some}
use Rattle.std.proofs.Math.ListN.{length}
use Rattle.graph.proofs.Least.{least_unique}
use Rattle.graph.specs.Network.{Arc}
use Rattle.graph.specs.Bound.{CostsAtMost}
use Rattle.graph.specs.Potential.{Slower}
use Rattle.graph.specs.Search.{Entry, time_in}
use Rattle.graph.proofs.Walk.{offer_via-some, start_at-some}
use Rattle.graph.specs.History.{Reached}
use Rattle.graph.proofs.History.{logged-least, mem-time_in}
use Rattle.graph.specs.Map.{estimate_of, live_net}
use Rattle.graph.proofs.Map.{estimate_of-bound, time_of-bound}
use Rattle.graph.specs.Go.{go_of}
use Rattle.graph.proofs.Go.{go_time_least, go_well_formed}
use Rattle.model.specs.Layout.{road_size}
use Rattle.model.specs.Limits.{most_time, most_total}
use Rattle.model.specs.Go.{by_time, live_of}
use Rattle.model.proofs.LimitLaws.{totals_fit}
use Rattle.model.proofs.Good.{settable-most, settable_slower}
use Rattle.network.specs.Bodies.{head_in, map-facts, tail_in_lem}
use Rattle.search_labels.specs.Labelled.{Searchable}
use Rattle.search_junctions.specs.State.{Given, Ready, go_given, map_given}
use Rattle.search_junctions.specs.Relaxing.{Reads}

-- what the fields of the problem are, as the code reads them
pub record Codes (g : Given) (s z : ℕ) : Type 0 where
  pub ok : Searchable (go_given g s z)
  pub reads : Reads (go_given g s z) g.sizes g.roads g.live
  pub ties : (t : ℕ) → (go_given g s z).tie t ≡ t
  pub start-here : (go_given g s z).start s ≡ some 0
  pub start_elsewhere : (v : ℕ) → (v ≡ s → ⊥) → (go_given g s z).start v ≡ none
  pub pots : (v : ℕ) → (go_given g s z).pot v ≡ estimate_of (map_given g) z v
  pub goals : (v : ℕ) → (go_given g s z).goal v ≡ eqb v z

module _ {g : Given} {s z : ℕ} (r : Ready g s z) where
  ready_slower : Slower (map_given g).base (live_of g.live)
  ready_slower = record { no_faster = λ i l. settable_slower ((map_given g).base.cost i) (live_of g.live i) (r.times i l) }

  ready-most : CostsAtMost (Arc (live_net (map_given g) (live_of g.live))) most_time
  ready-most x y c a = settable-most ((map_given g).base.cost a.index) c (rw a.at.costs at (r.times a.index a.below))

  -- no logged time is above the greatest total
  pub ready-time : {H : List Entry} → Reached (go_given g s z) H → (v t : ℕ) → time_in H v ≡ some t → t ≤ most_total
  ready-time {H} h v t e =
      let f = map-facts r.prepared.sound in
      let ls : s < (map_given g).vertices = rw r.n-is r.start in
      let lz : z < (map_given g).vertices = rw r.n-is r.target in
      let wf = go_well_formed f.valid ready_slower by_time ls lz in
      let q = mem-time_in H v t e in
      let w = logged-least wf h q.0 q.1 in
      let y = least_unique (go_time_least f.valid ready_slower by_time ls lz q.0.vertex) w in
      let b = totals_fit f.vertices-high (time_of-bound f.valid (live_of g.live) ready-most s q.0.vertex ls y) in
      omega (arith, b, q.3)

  pub codes : Codes g s z
  unfolding go_of
  codes =
      let M = map_given g in
      let f = map-facts r.prepared.sound in
      let ls : s < M.vertices = rw r.n-is r.start in
      let lz : z < M.vertices = rw r.n-is r.target in
      let wf = go_well_formed f.valid ready_slower by_time ls lz in
      let low : (i : ℕ) → i < g.sizes.m → road_size * i + road_size ≤ length g.roads = λ i l. omega (arith, l, f.roads_are, r.m-is) in
      record {
        ok = record {
          well_formed = wf;
          most = most_total + most_time;
          sums = omega arith;
          starts = λ v t l h. omega (arith, (start_at-some s v t h).1);
          pots = λ v p l e. omega (arith, totals_fit f.vertices-high (estimate_of-bound f.valid z lz f.most v l e));
          offers = λ {H} h v i t l e. (
              let o = offer_via-some (go_given g s z).net H v i t e in
              let d = settable-most (M.base.cost i) o.1.1 (rw o.1.3 at (r.times i l)) in
              omega (arith, d, ready-time h ((go_given g s z).net.tail i) o.1.0 o.1.2, o.1.4));
        };
        reads = record {
          size_is = r.n-is;
          arcs_are = r.m-is;
          tails = λ i l. tail_in_lem g.roads g.order i (low i l);
          heads = λ i l. head_in g.roads g.order i (low i l);
          costs = λ i. refl;
        };
        ties = λ t. refl;
        start-here = rw (eq-eqb s s refl);
        start_elsewhere = λ v ne. rw (ne_eqb s v (λ q. ne (sym q)));
        pots = λ v. refl;
        goals = λ v. refl;
      }
