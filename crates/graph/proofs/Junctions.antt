-- Proves of a map's terms what document 01 says of them, junction by junction: the down total is the least over chains of down times,
-- an estimate fills what up times reach, and estimates obey the rule of algorithm 3. Assumes nothing.
use Rattle.std.proofs.Common.{◌∙◌, ap, sym, arith}
use Rattle.std.specs.Prelude.{◌≡◌, refl, true, ◌<◌, ℕ}
use Rattle.std.proofs.Math.Option.{some}
use Rattle.graph.specs.Total.{Total, ◌⊓◌, ◌⊕◌}
use Rattle.graph.specs.Least.{IsLeast, SomeBelow, min_below}
use Rattle.graph.proofs.Least.{least-below, least-map, least_self, least_unique}
use Rattle.graph.specs.Path.{Arcs, Path, empty, link}
use Rattle.graph.specs.Pairs.{up}
use Rattle.graph.proofs.Pairs.{down_lt}
use Rattle.graph.specs.Estimate.{Downs, estimate}
use Rattle.graph.proofs.Estimate.{down_total-least, estimate_law}
use Rattle.graph.specs.Reach.{Ups}
use Rattle.graph.proofs.Reach.{path-reaches, reaches-path}
use Rattle.graph.proofs.Ranks.{rank_below, rank_of-vertex, ranks_rename}
use Rattle.graph.specs.Map.{Map, Valid, down_total_of, estimate_of, fills, rank, up_of, weights}
use Rattle.graph.specs.Junctions.{DownArc, UpArc}

-- the arcs of F, between junctions, are those of E between their ranks
record Named (M : Map) (E F : Arcs) : Type 0 where
  by_rank : (a b c : ℕ) → F a b c → E (rank M a) (rank M b) c
  by-junction : (a r c : ℕ) → a < M.vertices → E (rank M a) r c → (b : ℕ) × (b < M.vertices) × (rank M b ≡ r) × F a b c

module _ {M : Map} (ok : Valid M) where
  -- ---- paths by rank are paths by junction

  module _ (E F : Arcs) (n : Named M E F) where
    ranked : {a b t : ℕ} → Path F a b t → Path E (rank M a) (rank M b) t
    ranked empty = empty
    ranked (link {a} {v} {c = c} e p) = link (n.by_rank a v c e) (ranked p)

    unranked : {x y t : ℕ} → Path E x y t → (a b : ℕ) → a < M.vertices → b < M.vertices → x ≡ rank M a → y ≡ rank M b → Path F a b t
    unranked empty a b ha hb ea eb = rw ((ranks_rename ok.orders).once a b ha hb (sym ea ∙ eb)) empty
    unranked (link {v} {c = c} e p) a b ha hb ea eb =
        let (u, below, ranks, e') = n.by-junction a v c ha (rw ea at e) in
        link e' (unranked p u b below hb (sym ranks) eb)

  -- ---- down totals

  downs : Named M (Downs (weights M)) (DownArc M)
  downs = record { by_rank = λ a b c e. e.1; by-junction = down }
    where
      down : (a r c : ℕ) → a < M.vertices → Downs (weights M) (rank M a) r c
          → (b : ℕ) × (b < M.vertices) × (rank M b ≡ r) × DownArc M a b c
      down a r c ha e =
          let l : r < M.vertices = omega (arith, down_lt (weights M) r (rank M a) c e, rank_below ok.orders a ha) in
          let q = rank_of-vertex ok.orders r l in
          (M.order r, ok.orders.below r l, q, (ok.orders.below r l, rw q e))

  -- "the least totals over chains of down times, descending in rank to the target"
  pub down_total_of_chains : (z v : ℕ) → z < M.vertices → v < M.vertices → IsLeast (Path (DownArc M) v z) (down_total_of M z v)
  down_total_of_chains z v lz lv =
      least-map (λ t p. unranked (Downs (weights M)) (DownArc M) downs p v z lv lz refl refl)
      (λ t p. ranked (Downs (weights M)) (DownArc M) downs p)
      (down_total-least (weights M) (rank M z) (rank M v))

  -- ---- what an estimate fills

  ups : Named M (Ups (weights M) M.vertices) (UpArc M)
  ups = record { by_rank = λ a b c e. (e.1, rank_below ok.orders b e.0); by-junction = climb }
    where
      climb : (a r c : ℕ) → a < M.vertices → Ups (weights M) M.vertices (rank M a) r c
          → (b : ℕ) × (b < M.vertices) × (rank M b ≡ r) × UpArc M a b c
      climb a r c ha e =
          let q = rank_of-vertex ok.orders r e.1 in
          (M.order r, ok.orders.below r e.1, q, (ok.orders.below r e.1, rw q e.0))

  -- "that junction and all reached from it through up times", and no other
  pub fills-reached : (a v : ℕ) → a < M.vertices → v < M.vertices → fills M a v ≡ true → (t : ℕ) × Path (UpArc M) a v t
  fills-reached a v la lv e =
      let r = reaches-path (weights M) M.vertices (rank M a) (rank M v) e in
      (r.0, unranked (Ups (weights M) M.vertices) (UpArc M) ups r.1 a v la lv refl refl)

  pub reached-fills : (a v : ℕ) {t : ℕ} → Path (UpArc M) a v t → fills M a v ≡ true
  reached-fills a v p =
      path-reaches (weights M) M.vertices (rank M a) (rank M v) (ranked (Ups (weights M) M.vertices) (UpArc M) ups p)

  -- ---- algorithm 3

  min_by_junction : (f : ℕ → Total) → min_below M.vertices f ≡ min_below M.vertices (λ v. f (rank M v))
  min_by_junction f =
      least_unique (least-below M.vertices (λ i hi. least_self (f i)))
      (least-map to from (least-below M.vertices (λ i hi. least_self (f (rank M i)))))
    where
      ByRank : ℕ → Type 0
      ByRank = SomeBelow M.vertices (λ i t. f i ≡ some t)

      ByJunction : ℕ → Type 0
      ByJunction = SomeBelow M.vertices (λ i t. f (rank M i) ≡ some t)

      to : (t : ℕ) → ByJunction t → ByRank t
      to t s = record { index = rank M s.index; below = rank_below ok.orders s.index s.below; at = s.at }

      from : (t : ℕ) → ByRank t → ByJunction t
      from t s = record {
        index = M.order s.index;
        below = ok.orders.below s.index s.below;
        at = ap f (rank_of-vertex ok.orders s.index s.below) ∙ s.at;
      }

  -- "the least of its own down total and, for each higher junction with an up time, that time plus the higher one's estimate"
  pub estimate_of_law : (z v : ℕ) → estimate_of M z v ≡ down_total_of M z v ⊓ min_below M.vertices (λ h. up_of M v h ⊕ estimate_of M z h)
  estimate_of_law z v =
      estimate_law (weights M) M.vertices (rank M z) (rank M v)
      ∙ ap (◌⊓◌ (down_total_of M z v)) (min_by_junction (λ r. up (weights M) (rank M v) r ⊕ estimate (weights M) M.vertices (rank M z) r))
