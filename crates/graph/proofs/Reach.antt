-- Proves that it is reached exactly by the paths of up times (`reaches-path`, `path-reaches`). Assumes nothing.
use Rattle.std.specs.Prelude.{◌≡◌, refl, cond, false, true, ◌+◌, ◌-◌, ◌<◌, suc, zero, ℕ, eqb}
use Rattle.std.proofs.Math.Path.{ap}
use Rattle.std.proofs.Math.Option.{some}
use Rattle.std.proofs.Common.{zero-le, eqb-true, not-suc-le-zero, arith}
use Rattle.std.proofs.lemmas.Bool.{eqb-false}
use Rattle.graph.specs.Total.{◌⊕◌}
use Rattle.graph.proofs.Total.{is_number_true, true_is_number, within}
use Rattle.graph.specs.Least.{AtMost, IsLeast, SomeBelow, Sum}
use Rattle.graph.proofs.Least.{exactly, least_cond}
use Rattle.graph.specs.Least.{min_below}
use Rattle.graph.proofs.Least.{least-cover, least-number, measured_law}
use Rattle.graph.specs.Path.{Path, Weights, empty, link}
use Rattle.graph.specs.Pairs.{up}
use Rattle.graph.proofs.Estimate.{rises, ups_cong}
use Rattle.graph.specs.Reach.{Ups, up_step, up_total, reaches}

module _ (w : Weights) (n : ℕ) where
  pub up_total_law : (h a : ℕ) → up_total w n h a ≡ cond (eqb a h) (some 0) (min_below n (λ g. up w a g ⊕ up_total w n h g))
  unfolding up_total
  up_total_law h a =
      measured_law {step = up_step w n h} {μ = λ a. n - a} (λ f g a same. ap (cond (eqb a h) (some 0)) (ups_cong w n a f g same)) a

  pub up_total-least : (h a : ℕ) → IsLeast (Path (Ups w n) a h) (up_total w n h a)
  up_total-least h a = below (suc (n - a)) a (omega arith)
    where
      climb : {a h u : ℕ} → Path (Ups w n) a h u → eqb a h ≡ false
          → AtMost (SomeBelow n (λ g. Sum (λ c. up w a g ≡ some c) (Path (Ups w n) g h))) u
      climb (empty {a}) other = absurd (eqb-false a a other refl)
      climb (link {v} {c} {t = s} e p) other = exactly (record {
        index = v;
        below = e.1;
        at = record { one = c; two = s; first = e.0; second = p; adds = refl };
      })

      below : (d a : ℕ) → n - a < d → IsLeast (Path (Ups w n) a h) (up_total w n h a)
      below zero a lt = absurd (not-suc-le-zero lt)
      below (suc d) a lt =
          rw (up_total_law h a)
          (least_cond (eqb a h)
          (λ same. rw (eqb-true a h same) (least-number empty (λ u p. zero-le)))
          (λ other. least-cover (rises w n a (λ g ag gn. below d g (omega arith)))
          (λ u s. (let q : Path (Ups w n) a h (s.at.one + s.at.two) = link (s.at.first, s.below) s.at.second in
          rw s.at.adds at q))
          (λ u p. climb p other)))

  -- to be reached is to have a path of up times
  pub reaches-path : (a h : ℕ) → reaches w n a h ≡ true → (u : ℕ) × Path (Ups w n) a h u
  unfolding reaches
  reaches-path a h e = let k = is_number_true (up_total w n h a) e in (k.0, (up_total-least h a).attained k.0 k.1)

  pub path-reaches : (a h : ℕ) {u : ℕ} → Path (Ups w n) a h u → reaches w n a h ≡ true
  unfolding reaches
  path-reaches a h {u} p =
      let k = within (up_total w n h a) u ((up_total-least h a).bound u p) in true_is_number (up_total w n h a) k.0 k.1
