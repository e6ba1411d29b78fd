-- Ranks as preparing leaves them, and the ways in which an estimate meets its contract.
use mathlib.Core.Path.{◌∙◌, ◌≡◌, ap, subst}
use mathlib.Core.List.{List}
use Prim.Native.Nat.{◌*◌, ◌<◌, ◌≤◌, ℕ}
use lib.ListN.{get_or, length}
use native.Mathlib.Omega.{arith}
use Rattle.graph.proofs.Ranks.{rank_below}
use Rattle.graph.specs.Map.{rank}
use Rattle.model.specs.Word.{none_word}
use Rattle.model.proofs.Laws.{kept_refl, listed_at}
use Rattle.network.specs.Bodies.{Prepared, map_in}
use Rattle.pairs_hierarchy.specs.Estimates.{Estimated}
use Rattle.pairs_hierarchy.specs.Walks.{Climbed}
use Rattle.pairs_records.specs.Holds.{prepared-holds}

module _ {roads order ranks pairs times : List ℕ} {count : ℕ} (p : Prepared roads order ranks pairs times count) where
  pub rank_in : (j : ℕ) → j < (map_in roads order).vertices → get_or ranks j 0 ≡ rank (map_in roads order) j
  rank_in j l = ap (λ (x : List ℕ). get_or x j 0) p.ranks_are ∙ listed_at (map_in roads order).vertices (rank (map_in roads order)) j l

module _ {n count j r : ℕ} {order ranks pairs times down e : List ℕ} (lj : j < n) (lo : length order ≡ 4 * n)
    (r-is : r ≡ get_or ranks j 0) where
  -- a junction without a rank: this is no area of ranks
  pub unranked : n ≤ r → Estimated order ranks pairs times count down e e j none_word
  unranked h = record {
    kept = kept_refl;
    answered = λ q. omega arith;
    exact = λ roads p t a.
        let o = prepared-holds p n lo in
        let k = rank_in p j (omega (arith, lj, o.vertices_are)) in
        let b = rank_below o.valid.orders j (omega (arith, lj, o.vertices_are)) in
        absurd (omega (arith, r-is, k, b, h, o.vertices_are));
  }

  pub estimated : {v : ℕ} {z : List ℕ} → Climbed n order pairs times count down e z r v
      → Estimated order ranks pairs times count down e z j v
  estimated {v} {z} c = record {
    kept = c.kept;
    answered = c.answered;
    exact = λ roads p t a.
        let o = prepared-holds p n lo in
        let k : r ≡ rank (map_in roads order) j = r-is ∙ rank_in p j (omega (arith, lj, o.vertices_are)) in
        (subst (λ (y : ℕ). Climbed n order pairs times count down e z y v) k c).exact (map_in roads order) o t a;
  }
