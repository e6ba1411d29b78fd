-- Proves that the first is the least total of a path of at least one arc whose inner vertices are below k (`level-least`), and the
-- second that of all paths (`dist-least`). Assumes nothing.
use Rattle.std.specs.Prelude.{◌≡◌, ◌⊎◌, eqb}
use Rattle.std.proofs.Math.Path.{refl}
use Rattle.std.proofs.Math.Logic.{inl, inr}
use Prim.Native.Nat.{◌+◌, ◌<◌, ◌≤◌, suc, zero, zero-le, ℕ}
use Rattle.std.proofs.lemmas.Bool.{eqb-false}
use Rattle.std.proofs.Common.{eqb-true, not-suc-le-zero, arith}
use Rattle.std.proofs.Math.Decide.{dec_lt}
use Rattle.graph.proofs.Total.{some-some}
use Rattle.graph.specs.Least.{AtMost, IsLeast, Sum}
use Rattle.graph.proofs.Least.{exactly, least_cond, least-cover, least-⊓, least-⊕}
use Rattle.graph.specs.Path.{Arcs, EndsBelow, Inner, Path, Via, Weighs, Weights}
use Rattle.graph.specs.Path.{arc, step}
use Rattle.graph.proofs.Path.{inner_join, inner_wider, path-via, via-path}
use Rattle.graph.specs.Level.{level, dist}

-- an inner path below suc k is, or is no shorter than, one below k, or two that meet at k
abbrev Split : Arcs → ℕ → ℕ → ℕ → ℕ → Type 0
Split E k a b t = Inner E k a b t ⊎ Sum (Inner E k a k) (Inner E k k b) t

module _ (E : Arcs) where
  split_inner : {k a b t : ℕ} → Split E k a b t → Inner E (suc k) a b t
  split_inner {k} (inl p) = inner_wider (omega arith) p
  split_inner {k} (inr s) =
      let h : k ≤ suc k = omega arith in
      rw s.adds at (inner_join (inner_wider h s.first) (omega arith) (inner_wider h s.second))

  -- an arc before: to k itself, where a loop at k is dropped, or to a vertex below
  after : {k a v b c t : ℕ} → E a v c → v < suc k → AtMost (Split E k v b) t → AtMost (Split E k a b) (c + t)
  after {k} {a} {v} {b} {c} {t} e h r = go (dec_lt v k) r.total r.le r.holds
    where
      go : Dec (v < k) → (u : ℕ) → u ≤ t → Split E k v b u → AtMost (Split E k a b) (c + t)
      go (yes below) u le (inl p) = record { total = c + u; le = omega arith; holds = inl (step e below p) }
      go (yes below) u le (inr s) =
          record {
            total = c + u;
            le = omega arith;
            holds = inr (record {
              one = c + s.one;
              two = s.two;
              first = step e below s.first;
              second = s.second;
              adds = omega (arith, s.adds);
            });
          }
      go (no above) u le (inl p) =
          let at : v ≡ k = omega arith in
          record {
            total = c + u;
            le = omega arith;
            holds = inr (record {
              one = c;
              two = u;
              first = arc (rw at at e);
              second = rw at at p;
              adds = refl;
            });
          }
      go (no above) u le (inr s) =
          let at : v ≡ k = omega arith in
          record {
            total = c + s.two;
            le = omega (arith, s.adds);
            holds = inr (record {
              one = c;
              two = s.two;
              first = arc (rw at at e);
              second = s.second;
              adds = refl;
            });
          }

  inner_split : {k a b t : ℕ} → Inner E (suc k) a b t → AtMost (Split E k a b) t
  inner_split (arc e) = exactly (inl (arc e))
  inner_split (step e h p) = after e h (inner_split p)

module _ {E : Arcs} {w : Weights} (least : Weighs E w) where
  pub level-least : (k a b : ℕ) → IsLeast (Inner E k a b) (level w k a b)
  level-least zero a b = least-cover (least a b) (λ t e. arc e) cover
    where
      cover : (t : ℕ) → Inner E 0 a b t → AtMost (E a b) t
      cover t (arc e) = exactly e
      cover t (step e h p) = absurd (not-suc-le-zero h)
  level-least (suc k) a b =
      least-cover
      (least-⊓ (level-least k a b) (least-⊕ (level-least k a k) (level-least k k b)))
      (λ t s. split_inner E s) (λ t p. inner_split E p)

module _ {E : Arcs} {w : Weights} (least : Weighs E w) where
  pub dist-via : (n a b : ℕ) → IsLeast (Via E n a b) (dist w n a b)
  unfolding dist
  dist-via n a b =
      least_cond (eqb a b)
      (λ same. record { attained = λ t e. inl (eqb-true a b same, omega (arith, some-some refl e)); bound = λ u r. zero-le })
      (λ other. least-cover (level-least least n a b) (λ t p. inr p) (λ t. elim [
        | inl q ↦ absurd (eqb-false a b other q.0)
        | inr p ↦ exactly p
      ]))

  -- the least total of all paths, where the arcs' ends are below n
  pub dist-least : {n : ℕ} → EndsBelow E n → (a b : ℕ) → IsLeast (Path E a b) (dist w n a b)
  dist-least {n} ends a b = least-cover (dist-via n a b) (λ t r. via-path r) (λ t p. exactly (path-via ends p))
