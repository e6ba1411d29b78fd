-- All rows of the contraction: the roads and ranks are those of the map, so the rows are its pairs (`pairs_are`). They begin with none
-- (`ready-start`), and end with all records in the two areas (`contract_end`) or with too many (`contract_overflow`). Assumes nothing.
use mathlib.Core.Path.{◌∙◌, ◌≡◌, ap, ap₂, fun_ext, refl, sym}
use mathlib.Core.Option.{some}
use mathlib.Core.List.{List}
use Prim.Native.Nat.{◌*◌, ◌+◌, ◌/◌, ◌<◌, ◌≤◌, suc, ℕ}
use lib.ListN.{get_or, length, replicate}
use native.Mathlib.Nat.{not-suc-le-zero}
use native.Mathlib.Numerals.{add-one}
use native.Mathlib.Omega.{arith}
use Rattle.graph.proofs.Total.{some-some}
use Rattle.graph.specs.Least.{min_below}
use Rattle.graph.proofs.Least.{min_below_cong}
use Rattle.graph.specs.Path.{EndsBelow, Weighs, Weights}
use Rattle.graph.specs.Network.{Arc, Network, arc_of, cost_between, direct}
use Rattle.graph.proofs.Network.{direct-least, ends-below}
use Rattle.graph.specs.Records.{rows}
use Rattle.graph.proofs.Records.{begins-length, rows-begins}
use Rattle.graph.specs.Bound.{CostsAtMost}
use Rattle.graph.proofs.Bound.{down-bound, up-bound}
use Rattle.graph.specs.Ranks.{renamed}
use Rattle.graph.proofs.Ranks.{rank_below, ranks_rename, renamed-inside}
use Rattle.graph.specs.Map.{Map, pairs_of, rank, weights}
use Rattle.model.specs.Limits.{most_junctions, most_pairs, most_time}
use Rattle.model.proofs.LimitLaws.{totals_fit}
use Rattle.model.specs.Word.{none_word}
use Rattle.model.specs.Bytes.{word_at}
use Rattle.model.specs.Areas.{rank_words, record_size, time_words, zeros_after}
use Rattle.model.proofs.Laws.{listed_at, listed-length}
use Rattle.network.specs.Bodies.{MapFacts, Sound, base_in_lem, head_in, map-facts, map_in, tail_in_lem}
use Rattle.std.specs.Prelude.{None, Some}
use Rattle.pairs_rows.specs.Links.{Ranked, net_in}
use Rattle.pairs_rows.specs.Rows.{most_blocks}
use Rattle.pairs_fronts.specs.Fronts.{Narrow}
use Rattle.pairs_storing.specs.Storing.{cleared}
use Rattle.pairs_contraction.specs.Contraction.{Contraction, Ready, ranks_in}
use Rattle.pairs_contraction.proofs.OneRow.{blocks, long, none_row}

-- the roads and ranks that the code holds are the map's
pub record Given (roads order ranks : List ℕ) : Type 0 where
  pub sound : Sound roads order
  pub ranks_are : ranks ≡ ranks_in roads order

module _ {roads order ranks : List ℕ} (g : Given roads order ranks) where
  abbrev M : Map
  M = map_in roads order

  abbrev N : Network
  N = net_in roads ranks

  facts : MapFacts roads order
  facts = map-facts g.sound

  pub ranks-length : length ranks ≡ M.vertices
  ranks-length = ap length g.ranks_are ∙ listed-length M.vertices (rank M)

  pub ranks-number : length order / 4 ≡ length ranks
  ranks-number = omega (arith, facts.order_is, ranks-length)

  pub ranks-most : length ranks ≤ most_junctions
  ranks-most = omega (arith, facts.vertices-high, ranks-length)

  arcs_are : length roads / 12 ≡ M.base.arcs
  arcs_are = omega (arith, facts.roads_are)

  rank-at : (j : ℕ) → j < M.vertices → get_or ranks j 0 ≡ rank M j
  rank-at j h = ap (λ (x : List ℕ). get_or x j 0) g.ranks_are ∙ listed_at M.vertices (rank M) j h

  module _ (i : ℕ) (h : i < length roads / 12) where
    tail-is : M.base.tail i ≡ word_at roads (12 * i)
    tail-is = tail_in_lem roads order i (omega arith)

    head-is : M.base.head i ≡ word_at roads (12 * i + 4)
    head-is = head_in roads order i (omega arith)

    cost-is : M.base.cost i ≡ some (word_at roads (12 * i + 8))
    cost-is = base_in_lem roads order i (omega arith)

    tail-below : word_at roads (12 * i) < M.vertices
    tail-below = rw tail-is at (facts.valid.inside.tails i (omega (arith, arcs_are)))

    head-below : word_at roads (12 * i + 4) < M.vertices
    head-below = rw head-is at (facts.valid.inside.heads i (omega (arith, arcs_are)))

    tail-rank : N.tail i ≡ rank M (M.base.tail i)
    tail-rank = rank-at (word_at roads (12 * i)) tail-below ∙ ap (rank M) (sym tail-is)

    head-rank : N.head i ≡ rank M (M.base.head i)
    head-rank = rank-at (word_at roads (12 * i + 4)) head-below ∙ ap (rank M) (sym head-is)

    base-below : word_at roads (12 * i + 8) ≤ most_time
    base-below = rw (some-some refl cost-is) at (facts.road i (omega (arith, arcs_are))).high

  pub ranked : Ranked roads ranks
  ranked = record {
    tails = λ i h. omega (arith, tail-below i h, ranks-length);
    heads = λ i h. omega (arith, head-below i h, ranks-length);
    named = λ j h.
        let l : j < M.vertices = omega (arith, ranks-length) in
        omega (arith, rank-at j l, rank_below facts.valid.orders j l, ranks-length);
    bases = base-below;
    most = omega (arith, arcs_are, facts.arcs-high);
  }

  -- the same weights
  weight_is : (a b : ℕ) → direct N a b ≡ weights M a b
  unfolding direct
  weight_is a b =
      ap (λ (k : ℕ). min_below k (cost_between N a b)) arcs_are
      ∙ min_below_cong M.base.arcs (cost_between N a b)
      (cost_between (renamed (rank M) M.base) a b)
      (λ i h. let k : i < length roads / 12 = omega (arith, arcs_are) in
      rw (tail-rank i k, head-rank i k, cost-is i k))

  pub weights_are : direct N ≡ weights M
  weights_are = fun_ext (λ a. fun_ext (λ b. weight_is a b))

  -- and so the same pairs
  pub pairs_are : rows (direct N) (length ranks) (length ranks) ≡ pairs_of M
  pairs_are = ap₂ (λ (w : Weights) (n : ℕ). rows w n n) weights_are ranks-length

  pub times-narrow : Narrow (direct N) (length ranks)
  times-narrow = rw (weights_are, ranks-length) (record {
    ups = λ l h t ln hn e. omega (arith, totals_fit facts.vertices-high (up-bound least inside most l h ln e));
    downs = λ l h t ln hn e. omega (arith, totals_fit facts.vertices-high (down-bound least inside most l h hn e));
  })
    where
      least : Weighs (Arc (renamed (rank M) M.base)) (weights M)
      least = direct-least (renamed (rank M) M.base)

      inside : EndsBelow (Arc (renamed (rank M) M.base)) M.vertices
      inside = ends-below (renamed-inside (ranks_rename facts.valid.orders) facts.valid.inside)

      most : CostsAtMost (Arc (renamed (rank M) M.base)) most_time
      most x y k o = facts.most _ _ k (arc_of o.index o.below refl refl o.at.costs)

  -- no row is made, in the areas as they are at first
  pub ready-start : {pairs times : List ℕ} → length pairs ≤ record_size * most_pairs → length times ≡ length pairs
      → Ready (direct N) (length ranks) 0 0 pairs times
      (replicate most_junctions 0) (replicate most_junctions 0) (replicate most_junctions 0) (replicate most_blocks most_junctions)
      (replicate most_junctions none_word) (replicate most_junctions none_word)
  ready-start area same = record {
    wide = record {
      cursors = long most_junctions 0 ranks-most;
      aheads = long most_junctions 0 ranks-most;
      ends_too = long most_junctions 0 ranks-most;
    };
    area = area;
    narrow = times-narrow;
    holds = record { count-is = refl; room = omega arith; same-room = same; ranks_are = refl; times_are = refl };
    fronts = λ v h. absurd (not-suc-le-zero h);
    sooner = record { wide = blocks most_blocks most_junctions ranks-most; before = λ v h. absurd (not-suc-le-zero h) };
    ups-none = none_row most_junctions 0 ranks-most;
    downs-none = none_row most_junctions 0 ranks-most;
  }

  -- the pairs up to those of r do not fit, so all do not
  pub contract_overflow : {r room : ℕ} {pairs times : List ℕ} → r < length ranks → length pairs ≡ room
      → length pairs < record_size * length (rows (direct N) (length ranks) (suc r))
      → Contraction M room pairs times None
  contract_overflow {r} {room} {pairs} h e l = record {
    kept = λ k. absurd (omega (
      arith,
      begins-length (rows-begins (direct N) (length ranks) (suc r) (length ranks) h),
      ap length pairs_are,
    ));
    overflow = λ k. refl;
  }

  -- all rows are made, and the rest of both areas is cleared
  pub contract_end : {r count room : ℕ} {pairs times cursor ahead ends soon ups downs pairs' times' : List ℕ} → r ≡ length ranks
      → length pairs ≡ room → Ready (direct N) (length ranks) r count pairs times cursor ahead ends soon ups downs
      → pairs' ≡ cleared count pairs → times' ≡ cleared count times → Contraction M room pairs' times' (Some count)
  contract_end {r} {count} e pairs-long y pairs-cleared times-cleared =
      let same : rows (direct N) (length ranks) r ≡ pairs_of M =
      ap (rows (direct N) (length ranks)) e ∙ pairs_are in
      let k : count ≡ length (pairs_of M) = y.holds.count-is ∙ ap length same in
      record {
        kept = λ h. (
          ap Some k,
          pairs-cleared ∙ ap₂ zeros_after (y.holds.ranks_are ∙ ap rank_words same) pairs-long,
          times-cleared ∙ ap₂ zeros_after (y.holds.times_are ∙ ap time_words same) (y.holds.same-room ∙ pairs-long),
        );
        overflow = λ h. absurd (omega (arith, k, y.holds.room));
      }

pub next-ready : {w : Weights} {n r count : ℕ} {pairs times cursor ahead ends soon ups downs : List ℕ}
    → Ready w n (suc r) count pairs times cursor ahead ends soon ups downs
    → Ready w n (r + 1) count pairs times cursor ahead ends soon ups downs
next-ready {r} y = rw (add-one r) y
