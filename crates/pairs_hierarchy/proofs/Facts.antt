-- What the records give of the estimates of the map that they hold: the least over the records of a rank is its estimate (`over-all`).
use mathlib.Core.Path.{◌∙◌, ◌≡◌, ap, refl, sym}
use mathlib.Core.Logic.{◌⊎◌, inl, inr}
use mathlib.Core.Bool.{cond, false, true}
use mathlib.Core.Option.{none, some}
use mathlib.Core.List.{List}
use Prim.Native.Nat.{◌<◌, ℕ}
use borrow.Author.Tests.{eq-eqb, ne_eqb}
use lib.Dec.{eqb}
use native.Mathlib.Decide.{ℕ_discrete}
use native.Mathlib.Omega.{arith}
use Rattle.graph.specs.Total.{Total, ◌⊓◌, ◌⊕◌}
use Rattle.graph.proofs.Total.{cond_no, cond_yes, decide_option, true_false}
use Rattle.graph.specs.Least.{min_below}
use Rattle.graph.specs.Path.{Path, Weights, empty, link}
use Rattle.graph.proofs.Path.{path_join}
use Rattle.graph.specs.Pairs.{up}
use Rattle.graph.specs.Records.{pair_of}
use Rattle.graph.proofs.Estimate.{estimate_law}
use Rattle.graph.specs.Reach.{Ups, reaches}
use Rattle.graph.proofs.Reach.{path-reaches, reaches-path}
use Rattle.graph.specs.Map.{Map, pairs_of, rank, weights}
use Rattle.graph.proofs.Rows.{ranked-estimate, ranked-up, rows_ascend, rows_has, ups-rows}
use Rattle.model.proofs.LimitLaws.{totals_fit}
use Rattle.model.specs.Word.{none_word, unasked, word}
use Rattle.model.specs.Good.{UpClosed}
use Rattle.network.specs.Width.{fit, fit_is}
use Rattle.pairs_hierarchy.specs.Walks.{above, down_at, estimate_at, least_below, over, pair_at}
use Rattle.pairs_records.specs.Holds.{Holds, Ranked, ranked}
use Rattle.pairs_records.specs.Words.{Ascending, high_in, leads, low_in, up_in}
use Rattle.pairs_records.specs.Tests.{leads-by}
use Rattle.pairs_hierarchy.proofs.Places.{ascend_places, min_over-places, place_of}

-- ---- reached through up times

-- what is reached is the rank itself, or is reached from a higher one with an up time
pub climbs : (w : Weights) (n : ℕ) {a h s : ℕ} → Path (Ups w n) a h s → (a ≡ h)
    ⊎ ((g c : ℕ) × (up w a g ≡ some c) × (g < n) × (reaches w n g h ≡ true))
climbs w n empty = inl refl
climbs w n (link {v = g} {b = h} {c = c} e p) = inr (g, c, e.0, e.1, path-reaches w n g h p)

module _ (M : Map) where
  pub above-here : (r v : ℕ) → rank M v ≡ r → above M r v ≡ true
  above-here r v e = rw e (path-reaches (weights M) M.vertices r r empty)

  pub above-closed : (r : ℕ) → UpClosed M (above M r)
  above-closed r v u p q =
      let w = weights M in
      let n = M.vertices in
      path-reaches w n r (rank M u) (path_join (reaches-path w n r (rank M v) p).1 (reaches-path w n (rank M v) (rank M u) q).1)

  pub above-link : (r g c v : ℕ) → up (weights M) r g ≡ some c → g < M.vertices → above M g v ≡ true → above M r v ≡ true
  above-link r g c v e gn p =
      let w = weights M in
      let n = M.vertices in
      path-reaches w n r (rank M v) (link {v = g} (e, gn) (reaches-path w n g (rank M v) p).1)

-- ---- the records

module _ {M : Map} {n : ℕ} {order pairs times : List ℕ} {count : ℕ} (o : Holds M n order pairs times count) where
  pub ascending : Ascending pairs count
  ascending i k ik kc =
      let a = (o.records i (omega arith)).low in
      let b = (o.records k kc).low in
      let c = ascend_places (rows_ascend (weights M) M.vertices M.vertices) i k ik (omega (arith, kc, o.count-is)) in
      omega (arith, a, b, c)

  -- the record of a pair with an up time
  pub placed : (r g c : ℕ) → r < M.vertices → g < M.vertices → up (weights M) r g ≡ some c
      → (i : ℕ) × (i < count) × (pair_at M i ≡ pair_of (weights M) r g)
  placed r g c rn gn e =
      let p = place_of (rows_has (weights M) r g c M.vertices M.vertices rn gn e) in
      (p.0, omega (arith, p.1, o.count-is), p.2)

  -- ---- every number is below the marks

  pub up_small : {i u : ℕ} → i < count → (pair_at M i).up_time ≡ some u → u < unasked
  up_small {i} {u} l e =
      let k = ranked o i l in
      let b = totals_fit o.vertices-high (ranked-up o.valid o.most (pair_at M i).low (pair_at M i).high
      (omega (arith, k.rises, k.below)) (sym k.up_is ∙ e)) in
      omega (arith, b)

  pub estimate-small : {r u : ℕ} (t : ℕ) → rank M t < M.vertices → r < M.vertices → estimate_at M t r ≡ some u → u < unasked
  estimate-small {r} {u} t lt lr e = let b = totals_fit o.vertices-high (ranked-estimate o.valid o.most (rank M t) r lt lr e) in
      omega (arith, b)

  -- ---- a record of rank r that does not lead up has no up time

  pub idle : {r i : ℕ} → i < count → leads n r (low_in pairs i) (high_in pairs i) (up_in times i) ≡ false → (pair_at M i).low ≡ r
      → (pair_at M i).up_time ≡ none
  idle {r} {i} l f e = go (decide_option (pair_at M i).up_time)
    where
      k : Ranked M i (pair_at M i).low (pair_at M i).high
      k = ranked o i l

      go : ((pair_at M i).up_time ≡ none) ⊎ ((c : ℕ) × ((pair_at M i).up_time ≡ some c)) → (pair_at M i).up_time ≡ none
      go (inl q) = q
      go (inr (c, q)) =
          let w = o.records i l in
          let up_is : up_in times i ≡ c = w.ups ∙ ap word q in
          let small = up_small l q in
          let there : eqb (up_in times i) none_word ≡ false = ne_eqb (up_in times i) none_word (λ z. omega (arith, up_is, small, z)) in
          let rises : r < high_in pairs i = omega (arith, w.high, e, k.rises) in
          let below : high_in pairs i < n = omega (arith, w.high, k.below, o.vertices_are) in
          let leads-up = leads-by n r (low_in pairs i) (high_in pairs i) (up_in times i) (w.low ∙ e) rises below false (sym there) in
          absurd (true_false (sym leads-up) f)

  -- ---- what record i gives to the estimate of rank r

  pub over-here : (t r i : ℕ) → (pair_at M i).low ≡ r → over M t r i ≡ (pair_at M i).up_time ⊕ estimate_at M t (pair_at M i).high
  over-here t r i e = cond_yes (eqb (pair_at M i).low r) ((pair_at M i).up_time ⊕ estimate_at M t (pair_at M i).high) none
      (eq-eqb (pair_at M i).low r e)

  pub over-other : (t r i : ℕ) → ((pair_at M i).low ≡ r → ⊥) → over M t r i ≡ none
  over-other t r i ne = cond_no (eqb (pair_at M i).low r) ((pair_at M i).up_time ⊕ estimate_at M t (pair_at M i).high) none
      (ne_eqb (pair_at M i).low r ne)

  pub over-idle : (t r i : ℕ) → i < count → leads n r (low_in pairs i) (high_in pairs i) (up_in times i) ≡ false → over M t r i ≡ none
  over-idle t r i l f = go (ℕ_discrete (pair_at M i).low r)
    where
      go : Dec ((pair_at M i).low ≡ r) → over M t r i ≡ none
      go (yes e) = over-here t r i e ∙ ap (λ (x : Total). x ⊕ estimate_at M t (pair_at M i).high) (idle l f e)
      go (no ne) = over-other t r i ne

  -- document 01: the estimate is the least of the own down total and, for each higher junction with an up time, that time plus its estimate
  pub over-all : (t r : ℕ) → rank M t < M.vertices → r < M.vertices
      → word (fit (least_below M t r count)) ≡ word (estimate_at M t r)
  over-all t r lt lr =
      let w = weights M in
      let v = M.vertices in
      let a : min_below count (over M t r) ≡ min_below v (λ h. up w r h ⊕ estimate_at M t h) =
      ap (λ (k : ℕ). min_below k (over M t r)) o.count-is
      ∙ sym (min_over-places (λ p. cond (eqb p.low r) (p.up_time ⊕ estimate_at M t p.high) none) (pairs_of M))
      ∙ ups-rows w (estimate_at M t) v v r lr in
      ap (λ (x : Total). word (fit (down_at M t r ⊓ x))) a
      ∙ ap (λ (x : Total). word (fit x)) (sym (estimate_law w v (rank M t) r))
      ∙ ap word (fit_is (estimate_at M t r) (λ u e. estimate-small t lt lr e))
