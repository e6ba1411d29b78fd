-- A map of n junctions, as the order and the records hold it; what they give of it, and that preparing leaves them so. Assumes nothing.
use Rattle.std.proofs.Common.{◌∙◌, ap, ap₂, subst₂, sym, arith}
use Rattle.std.specs.Prelude.{◌≡◌, refl, List, ◌*◌, ◌<◌, ◌≤◌, ℕ, length}
use Rattle.std.proofs.Math.Option.{some}
use Rattle.graph.specs.Network.{Arc}
use Rattle.graph.specs.Bound.{CostsAtMost}
use Rattle.graph.specs.Pairs.{down, up}
use Rattle.graph.specs.Records.{Kept, Pair}
use Rattle.graph.proofs.Records.{rows_member}
use Rattle.graph.specs.Estimate.{down_total}
use Rattle.graph.proofs.Ranks.{rank_of-vertex}
use Rattle.graph.specs.Map.{Map, Valid, pairs_of, rank, weights}
use Rattle.graph.proofs.Rows.{ranked-down_total}
use Rattle.model.specs.Limits.{most_junctions, most_time}
use Rattle.model.proofs.LimitLaws.{totals_fit}
use Rattle.model.specs.Bytes.{word_at}
use Rattle.model.specs.Word.{unasked}
use Rattle.model.specs.Use.{RecordAt, pair_in}
use Rattle.model.proofs.Use.{pair_in-mem, words-at}
use Rattle.network.specs.Bodies.{Prepared, junction_in, map-facts, map_in}

pub record Holds (M : Map) (n : ℕ) (order pairs times : List ℕ) (count : ℕ) : Type 0 where
  pub valid : Valid M
  pub most : CostsAtMost (Arc M.base) most_time
  pub vertices_are : M.vertices ≡ n
  pub vertices-high : M.vertices ≤ most_junctions
  pub junction : (r : ℕ) → r < M.vertices → word_at order (4 * r) ≡ M.order r
  pub count-is : count ≡ length (pairs_of M)
  pub records : (i : ℕ) → i < count → RecordAt pairs times i (pair_in (pairs_of M) i)

-- record i by its two ranks
pub record Ranked (M : Map) (i low high : ℕ) : Type 0 where
  pub low-is : (pair_in (pairs_of M) i).low ≡ low
  pub high_is : (pair_in (pairs_of M) i).high ≡ high
  pub up_is : (pair_in (pairs_of M) i).up_time ≡ up (weights M) low high
  pub down_is : (pair_in (pairs_of M) i).down_time ≡ down (weights M) low high
  pub rises : low < high
  pub below : high < M.vertices

module _ {M : Map} {n : ℕ} {order pairs times : List ℕ} {count : ℕ} (o : Holds M n order pairs times count) where
  pub ranked : (i : ℕ) → i < count → Ranked M i (pair_in (pairs_of M) i).low (pair_in (pairs_of M) i).high
  ranked i l = go (rows_member (weights M) M.vertices M.vertices (pair_in-mem (pairs_of M) i (omega (arith, l, o.count-is))))
    where
      go : Kept (weights M) M.vertices M.vertices (pair_in (pairs_of M) i)
          → Ranked M i (pair_in (pairs_of M) i).low (pair_in (pairs_of M) i).high
      go k =
          let a = ap (λ (p : Pair). p.low) k.is in
          let b = ap (λ (p : Pair). p.high) k.is in
          record {
            low-is = refl;
            high_is = refl;
            up_is = ap (λ (p : Pair). p.up_time) k.is ∙ sym (ap₂ (up (weights M)) a b);
            down_is = ap (λ (p : Pair). p.down_time) k.is ∙ sym (ap₂ (down (weights M)) a b);
            rises = omega (arith, a, b, k.less);
            below = omega (arith, b, k.highs);
          }

  -- a down total is below the marks
  pub down-small : (t r u : ℕ) → r < M.vertices → down_total (weights M) (rank M t) r ≡ some u → u < unasked
  down-small t r u lr e =
      let b = totals_fit o.vertices-high (ranked-down_total o.valid o.most (rank M t) r lr e) in
      omega (arith, b)

  -- junctions and ranks
  pub order-rank : (r : ℕ) → r < M.vertices → rank M (M.order r) ≡ r
  order-rank r l = rank_of-vertex o.valid.orders r l

module _ {roads order ranks pairs times : List ℕ} {count : ℕ} (p : Prepared roads order ranks pairs times count) where
  pub prepared-holds : (n : ℕ) → length order ≡ 4 * n → Holds (map_in roads order) n order pairs times count
  prepared-holds n l =
      let f = map-facts p.sound in
      record {
        valid = f.valid;
        most = f.most;
        vertices_are = omega (arith, f.order_is, l);
        vertices-high = f.vertices-high;
        junction = λ r lr. sym (junction_in roads order r (omega (arith, f.order_is, lr)));
        count-is = p.count-is;
        records = λ i li. let l = pairs_of (map_in roads order) in
            subst₂ (λ (x : List ℕ) (y : List ℕ). RecordAt x y i (pair_in l i)) (sym p.pairs_are) (sym p.times_are)
            (words-at l _ _ i (omega (arith, li, p.count-is)));
      }
