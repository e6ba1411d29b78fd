-- The area of ranks, filled in the order's sequence: each junction gets its place (`Filled`), which is its rank. Assumes nothing.
use mathlib.Core.Path.{◌∙◌, ◌≡◌, ap, sym}
use mathlib.Core.List.{List}
use Prim.Native.Nat.{◌*◌, ◌+◌, ◌<◌, ℕ}
use lib.ListN.{get_or, length, set}
use lib.Seq.{ext_get_or, get_or-set_other, get_or-set_same}
use native.Mathlib.Decide.{ℕ_discrete}
use native.Mathlib.Omega.{arith}
use Rattle.graph.specs.Map.{Map, rank}
use Rattle.graph.specs.Ranks.{Orders}
use Rattle.graph.proofs.Ranks.{rank_below, vertex_of_rank}
use Rattle.model.specs.Bytes.{word_at}
use Rattle.model.proofs.Laws.{listed_at, listed-length}
use Rattle.network.specs.Bodies.{Sound, junction_in, map-facts, map_in}
use Rattle.pairs_contraction.specs.Contraction.{ranks_in}

-- the junctions of the first k places hold their ranks
pub record Filled (order : List ℕ) (k : ℕ) (ranks : List ℕ) : Type 0 where
  pub at : (i : ℕ) → i < k → get_or ranks (word_at order (4 * i)) 0 ≡ i

module _ {roads order : List ℕ} (s : Sound roads order) where
  abbrev M : Map
  M = map_in roads order

  o : Orders M.vertices M.order
  o = (map-facts s).valid.orders

  place : (i : ℕ) → i < M.vertices → M.order i ≡ word_at order (4 * i)
  place i h = junction_in roads order i (omega (arith, (map-facts s).order_is))

  pub junction-below : {i : ℕ} → i < M.vertices → word_at order (4 * i) < M.vertices
  junction-below {i} h = rw (place i h) at (o.below i h)

  pub filled-turn : {k j : ℕ} {ranks : List ℕ} → length ranks ≡ M.vertices → k < M.vertices
      → j ≡ word_at order (4 * k) → Filled order k ranks → Filled order (k + 1) (set ranks j k)
  filled-turn {k} {j} {ranks} l h e f = record { at = λ i hi. go i hi (ℕ_discrete i k) }
    where
      go : (i : ℕ) → i < k + 1 → Dec (i ≡ k) → get_or (set ranks j k) (word_at order (4 * i)) 0 ≡ i
      go i hi (yes p) =
          let q : word_at order (4 * i) ≡ j = ap (λ (x : ℕ). word_at order (4 * x)) p ∙ sym e in
          let b : j < length ranks = omega (arith, e, junction-below h) in
          rw (q, get_or-set_same ranks j k 0 b) (sym p)
      go i hi (no p) =
          let q : word_at order (4 * i) ≡ j → ⊥ = λ c. p (o.new i k (omega arith) h (place i (omega arith) ∙ c ∙ e ∙ sym (place k h))) in
          rw (get_or-set_other ranks j (word_at order (4 * i)) k 0 q) (f.at i (omega arith))

  pub filled-end : {k : ℕ} {ranks : List ℕ} → length ranks ≡ M.vertices → k ≡ M.vertices
      → Filled order k ranks → ranks ≡ ranks_in roads order
  filled-end {k} {ranks} l e f = ext_get_or 0 ranks (ranks_in roads order)
      (l ∙ sym (listed-length M.vertices (rank M))) (λ a h. at a (omega arith))
    where
      at : (a : ℕ) → a < M.vertices
          → get_or ranks a 0 ≡ get_or (ranks_in roads order) a 0
      at a h =
          let r = rank M a in
          let b = rank_below o a h in
          let q : word_at order (4 * rank M a) ≡ a = sym (place r b) ∙ vertex_of_rank o a h in
          sym (ap (λ (x : ℕ). get_or ranks x 0) q) ∙ f.at r (omega arith)
          ∙ sym (listed_at M.vertices (rank M) a h)
