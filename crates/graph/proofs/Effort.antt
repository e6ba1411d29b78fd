-- The search effort of a go as an exact figure (document 02, A5). Proves it for every valid map whose arcs cost something, all live
-- costs that are not below the base costs, every start and every target, where equal keys go by time (`go-effort`). Assumes nothing.
use Rattle.std.proofs.Common.{◌∙◌, arith}
use Rattle.std.specs.Prelude.{◌≡◌, refl, Bool, ◌&&◌, ◌<◌, ℕ, length}
use Rattle.std.proofs.Math.Path.{ap, sym}
use Rattle.std.proofs.Math.Option.{none, some}
use borrow.Author.Tests.{eq-eqb, eqb-true}
use Rattle.graph.specs.Total.{Total, ◌⊕◌, is_number, no_more}
use Rattle.graph.proofs.Total.{is_number-⊕}
use Rattle.graph.specs.Lists.{count_below}
use Rattle.graph.specs.Path.{Arcs, Path, empty, link}
use Rattle.graph.specs.Network.{Arc, Network, at_costs}
use Rattle.graph.specs.Potential.{Slower}
use Rattle.graph.proofs.Potential.{base-arc}
use Rattle.graph.specs.Search.{Problem, count_of, log_of, total_of, vertices}
use Rattle.graph.proofs.Complete.{length-vertices}
use Rattle.graph.specs.LogOrder.{in_order, key_of}
use Rattle.graph.proofs.LogOrder.{in_order-length, in_order-same}
use Rattle.graph.specs.Exact.{Positive}
use Rattle.graph.proofs.Exact.{log-found, log-lost}
use Rattle.graph.specs.Map.{Map, Valid, estimate_of, time_of}
use Rattle.graph.proofs.Map.{estimate_of-least}
use Rattle.graph.specs.Go.{go_of}
use Rattle.graph.proofs.Go.{go_time_least, go_well_formed}
use Rattle.graph.specs.Effort.{Effort}

-- ---- roads take time

-- a path that takes no time is empty
path-zero : {E : Arcs} {a b t : ℕ} → Positive E → Path E a b t → t ≡ 0 → a ≡ b
path-zero positive empty e = refl
path-zero positive (link {a} {v} {c = c} x p) e = absurd (omega (arith, positive a v c x))

-- base costs of at least 1 make live costs so
live-positive : {N : Network} {live : ℕ → Total} → Positive (Arc N) → Slower N live → Positive (Arc (at_costs N live))
live-positive positive slower a b c e = let r = base-arc slower e in omega (arith, r.le, positive a b r.total r.holds)

-- only the target has the estimate 0
estimate-zero : {M : Map} → Valid M → Positive (Arc M.base) → {z v : ℕ} → z < M.vertices → v < M.vertices
    → estimate_of M z v ≡ some 0 → v ≡ z
estimate-zero ok positive {z} {v} lz lv e = path-zero positive ((estimate_of-least ok z lz v lv).attained 0 e) refl

-- ---- the request

-- a log in order has as many entries as pass the test
count_of_lem : (G : Problem) (time est : ℕ → Total) (p : ℕ → Bool) (n : ℕ) → vertices (log_of G) ≡ in_order time est p n
    → count_of G ≡ count_below p n
unfolding count_of
count_of_lem G time est p n e = sym (length-vertices (log_of G)) ∙ ap length e ∙ in_order-length time est p n

module _ {M : Map} (ok : Valid M) (positive : Positive (Arc M.base)) {live : ℕ → Total} (slower : Slower M.base live) {s z : ℕ}
    (ls : s < M.vertices) (lz : z < M.vertices) (tie : ℕ → ℕ) (by-time : (t : ℕ) → tie t ≡ t) (est : ℕ → Total)
    (estimates : (v : ℕ) → v < M.vertices → estimate_of M z v ≡ est v) where
  go-found : (T : ℕ) → total_of (go_of M live tie s z) ≡ some T
      → vertices (log_of (go_of M live tie s z))
      ≡ in_order (time_of M live s) est (λ v. no_more (key_of (time_of M live s) est v) (some T)) M.vertices
  unfolding go_of
  go-found T q =
      log-found (go_well_formed ok slower tie ls lz) (go_time_least ok slower tie ls lz) (live-positive positive slower) by-time
      (λ v lv e. eq-eqb v z (estimate-zero ok positive lz lv e)) (λ u v p q. eqb-true u z p ∙ sym (eqb-true v z q)) T q
      ∙ in_order-same (time_of M live s) M.vertices estimates
      (λ v lv. ap (λ (x : Total). no_more (time_of M live s v ⊕ x) (some T)) (estimates v lv))

  go-lost : total_of (go_of M live tie s z) ≡ none
      → vertices (log_of (go_of M live tie s z))
      ≡ in_order (time_of M live s) est (λ v. is_number (time_of M live s v) && is_number (est v)) M.vertices
  unfolding go_of
  go-lost q =
      log-lost (go_well_formed ok slower tie ls lz) (go_time_least ok slower tie ls lz) (live-positive positive slower) by-time q
      ∙ in_order-same (time_of M live s) M.vertices estimates
      (λ v lv. ap (λ (x : Total). is_number (time_of M live s v ⊕ x)) (estimates v lv) ∙ is_number-⊕ (time_of M live s v) (est v))

  pub go-effort : Effort M.vertices (time_of M live s) est (go_of M live tie s z)
  go-effort = record {
    count = λ T q. count_of_lem (go_of M live tie s z) (time_of M live s) est _ M.vertices (go-found T q);
    log = go-found;
    lost-count = λ q. count_of_lem (go_of M live tie s z) (time_of M live s) est _ M.vertices (go-lost q);
    lost-log = go-lost;
  }
