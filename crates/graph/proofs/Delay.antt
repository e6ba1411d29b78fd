-- How far one arc can move a least total (document 02, A8). Proves that no least total grows by more than d then (`total-delays`), and
-- that none shrinks where no arc gets faster (`total-grows`); and both of a go, one of whose arcs changes its live cost (`go-delays`,
-- `go-grows`). Assumes nothing.
use Rattle.std.proofs.Common.{◌∙◌, sym, arith}
use Rattle.std.specs.Prelude.{◌≡◌, refl, ◌⊎◌, ◌+◌, ◌<◌, ◌≤◌, ℕ}
use Rattle.std.proofs.Math.Path.{ap, subst}
use Rattle.std.proofs.Math.Logic.{inl, inr}
use Rattle.std.proofs.Math.Option.{none, some}
use Rattle.std.proofs.Math.Decide.{ℕ_discrete}
use Rattle.graph.specs.Total.{Total, ◌≼◌}
use Rattle.graph.proofs.Total.{some-some, within}
use Rattle.graph.specs.Least.{AtMost, IsLeast}
use Rattle.graph.proofs.Least.{least_anti}
use Rattle.graph.specs.Network.{Arc, arc_of}
use Rattle.graph.specs.Potential.{Slower}
use Rattle.graph.specs.Search.{Problem, total_of}
use Rattle.graph.specs.Walk.{Walk, begin, follow}
use Rattle.graph.specs.Answer.{GoalWalk}
use Rattle.graph.proofs.Answer.{total-least}
use Rattle.graph.specs.Map.{Map, Valid, live_net}
use Rattle.graph.specs.Go.{go_of}
use Rattle.graph.proofs.Go.{go_well_formed}
use Rattle.graph.specs.Delay.{Delays, Late, Delayed, Grown, Raised}

-- ---- walks: the delay is met once, since a walk may as well begin anew where it last comes into x

-- a walk as long as t, with any delay
later : {P : ℕ → Type 0} {t : ℕ} (u : ℕ) → t ≤ u → AtMost P t → AtMost P u
later u l k = record { total = k.total; le = omega (arith, l, k.le); holds = k.holds }

module _ {G G' : Problem} {x d : ℕ} (h : Delayed G G' x d) where
  -- a walk of G is one of G' with no delay; or its end and x are both reached with a delay of at most d
  Carried : (v t : ℕ) → Type 0
  Carried v t = AtMost (Walk G' v) t ⊎ (AtMost (Walk G' v) (t + d) × AtMost (Walk G' x) (t + d))

  -- the delay is met at v, which is x
  met : {v : ℕ} (t : ℕ) → v ≡ x → AtMost (Walk G' v) (t + d) → Carried v t
  unfolding Carried
  met t e k = inr (k, subst (λ (u : ℕ). AtMost (Walk G' u) (t + d)) e k)

  carry : {v t : ℕ} → Walk G v t → Carried v t
  unfolding Carried
  carry (begin {v} {t} q) = let w = h.starts v t q in go w.0 (begin w.1) w.2
    where
      go : (y : ℕ) → Walk G' v y → Late x d v t y → Carried v t
      go y w (inl l) = inl (record { total = y; holds = w; le = l })
      go y w (inr l) = met t l.0 (record { total = y; holds = w; le = l.1 })
  carry (follow {u} {v} {s} {c} {t} w a e) = let b = h.arcs u v c a in go b.0 b.1 b.2 (carry w)
    where
      on : {n y : ℕ} → Arc G'.net u v y → (k : AtMost (Walk G' u) n) (p : ℕ) → k.total + y ≤ p → AtMost (Walk G' v) p
      on {y = y} b k p l = record { total = k.total + y; holds = follow k.holds b refl; le = l }

      go : (y : ℕ) → Arc G'.net u v y → Late x d v c y → Carried u s → Carried v t
      go y b (inl l) (inl k) = inl (on b k t (omega (arith, k.le)))
      go y b (inr l) (inl k) = met t l.0 (on b k (t + d) (omega (arith, k.le, l.1)))
      go y b (inl l) (inr k) = inr (on b k.0 (t + d) (omega (arith, k.0.le)), later (t + d) (omega arith) k.1)
      go y b (inr l) (inr k) =
          let there = later (t + d) (omega arith) k.1 in
          inr (subst (λ (u : ℕ). AtMost (Walk G' u) (t + d)) (sym l.0) there, there)

  delayed : {v t : ℕ} → Walk G v t → AtMost (Walk G' v) (t + d)
  unfolding Carried
  delayed {v} {t} w = go (carry w)
    where
      go : Carried v t → AtMost (Walk G' v) (t + d)
      go (inl k) = later (t + d) (omega arith) k
      go (inr k) = k.0

  to-goal : (t : ℕ) → GoalWalk G t → AtMost (GoalWalk G') (t + d)
  to-goal t w =
      let k = delayed w.2 in
      record { total = k.total; le = k.le; holds = (w.0, h.goals w.0 w.1, k.holds) }

-- ---- least totals

-- where no arc is slower in G than in G', no least total is larger
pub total-grows : {G G' : Problem} {x : ℕ} → Delayed G' G x 0 → {X Y : Total} → IsLeast (GoalWalk G) X → IsLeast (GoalWalk G') Y → X ≼ Y
total-grows h p q = least_anti p q (λ t w. later t (omega arith) (to-goal h t w))

pub total-delays : {G G' : Problem} {x y d : ℕ} → Delayed G G' x d → Delayed G' G y 0 → {X Y : Total} → IsLeast (GoalWalk G) X
    → IsLeast (GoalWalk G') Y → Delays d X Y
total-delays {G} {G'} {d = d} f b {X} {Y} p q = go X Y (total-grows b p q) p q
  where
    -- a walk to a goal of G gives one of G'
    bound : {X Y : Total} (T : ℕ) → X ≡ some T → IsLeast (GoalWalk G) X → IsLeast (GoalWalk G') Y → Y ≼ some (T + d)
    bound {Y = Y} T e p q =
        let k = to-goal f T (p.attained T e) in
        let r = within Y k.total (q.bound k.total k.holds) in
        rw r.1 (omega (arith, r.2, k.le))

    go : (X Y : Total) → X ≼ Y → IsLeast (GoalWalk G) X → IsLeast (GoalWalk G') Y → Delays d X Y
    go none none le p q = tt
    go none (some b) le p q = absurd le
    go (some a) none le p q = absurd (bound a refl p q)
    go (some a) (some b) le p q = (le, bound a refl p q)

-- ---- a go, one of whose arcs changes its live cost

module _ {live live' : ℕ → Total} {i c d : ℕ} (r : Raised live live' i c d) where
  pub raised_up : Grown live live' i d
  raised_up j t q = go (ℕ_discrete j i)
    where
      go : Dec (j ≡ i) → (y : ℕ) × (live' j ≡ some y) × Late i d j t y
      go (yes e) =
          let z : t ≡ c = some-some q (ap live e ∙ r.old) in
          (c + d, ap live' e ∙ r.new, inr (e, omega (arith, z)))
      go (no e) = (t, r.others j e ∙ q, inl (omega arith))

  pub raised_down : Grown live' live i 0
  raised_down j t q = go (ℕ_discrete j i)
    where
      go : Dec (j ≡ i) → (y : ℕ) × (live j ≡ some y) × Late i 0 j t y
      go (yes e) =
          let z : t ≡ c + d = some-some q (ap live' e ∙ r.new) in
          (c, ap live e ∙ r.old, inl (omega (arith, z)))
      go (no e) = (t, sym (r.others j e) ∙ q, inl (omega arith))

module _ (M : Map) (tie : ℕ → ℕ) (s z : ℕ) {live live' : ℕ → Total} {i d : ℕ} (g : Grown live live' i d) where
  go-delayed : Delayed (go_of M live tie s z) (go_of M live' tie s z) (M.base.head i) d
  unfolding go_of
  go-delayed = record { starts = λ v t q. (t, q, inl (omega arith)); arcs = arc; goals = λ v q. q }
    where
      arc : (a b c : ℕ) → Arc (live_net M live) a b c → (y : ℕ) × Arc (live_net M live') a b y × Late (M.base.head i) d b c y
      arc a b c e =
          let w = g e.index c e.at.costs in
          (w.0, arc_of e.index e.below e.at.from e.at.to w.1, late w.0 w.2)
        where
          late : (y : ℕ) → Late i d e.index c y → Late (M.base.head i) d b c y
          late y (inl l) = inl l
          late y (inr l) = inr (sym e.at.to ∙ ap M.base.head l.0, l.1)

module _ {M : Map} (ok : Valid M) {live live' : ℕ → Total} (slower : Slower M.base live) (slower' : Slower M.base live')
    (tie : ℕ → ℕ) {s z : ℕ} (ls : s < M.vertices) (lz : z < M.vertices) where
  pub go-grows : {i : ℕ} → Grown live' live i 0 → total_of (go_of M live tie s z) ≼ total_of (go_of M live' tie s z)
  go-grows down =
      total-grows (go-delayed M tie s z down) (total-least (go_well_formed ok slower tie ls lz))
      (total-least (go_well_formed ok slower' tie ls lz))

  pub go-delays : {i : ℕ} (d : ℕ) → Grown live live' i d → Grown live' live i 0
      → Delays d (total_of (go_of M live tie s z)) (total_of (go_of M live' tie s z))
  go-delays d up down =
      total-delays (go-delayed M tie s z up) (go-delayed M tie s z down) (total-least (go_well_formed ok slower tie ls lz))
      (total-least (go_well_formed ok slower' tie ls lz))
