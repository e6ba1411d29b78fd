-- Proves that `size` steps suffice (`history-complete`), that no vertex is logged twice (`distinct_vertices`), that a logged goal has
-- the least time of all walks to goals (`goal-least`), and that without one there is no such walk (`no_goal_no_walk`). Assumes nothing.
use Rattle.std.proofs.Common.{◌∙◌, sym, arith}
use Rattle.std.specs.Prelude.{◌≡◌, ◌⊎◌}
use Rattle.std.proofs.Math.Path.{ap, refl}
use Rattle.std.proofs.Math.Logic.{inl, inr}
use Rattle.std.proofs.Math.Bool.{cond, false, true}
use Rattle.std.proofs.Math.Option.{Option, none, some}
use mathlib.Core.List.Memᴰ
use mathlib.Core.List.{List, Memᴰ, [], ◌∷◌, map}
use Prim.Native.Nat.{◌+◌, ◌≤◌, suc, zero, ℕ}
use Rattle.std.proofs.Math.ListN.{length}
use Rattle.std.proofs.lemmas.List.{length-map}
use Rattle.std.proofs.Math.Nat.{suc-add, zero-add}
use Rattle.graph.specs.Total.{Tested}
use Rattle.graph.proofs.Total.{decide, none-some, true_false}
use Rattle.graph.specs.Lists.{Distinct, distinct_cons, distinct_nil}
use Rattle.graph.proofs.Lists.{distinct_length, map-mem}
use Rattle.graph.specs.Lists.{range}
use Rattle.graph.proofs.Lists.{mem-map, range_length, range-mem}
use Rattle.graph.specs.Search.{Entry, Problem, extend, has_goal, history, next, push, run, time_in, vertices}
use Rattle.graph.specs.Walk.{TimeIs, Walk, WellFormed}
use Rattle.graph.proofs.Walk.{time_in-cases}
use Rattle.graph.specs.Choice.{NextIs, chosen, finished}
use Rattle.graph.proofs.Choice.{next-is}
use Rattle.graph.specs.History.{Ahead, Logged, Reached, fresh, grow}
use Rattle.graph.proofs.History.{frontier, keyed, time_in-mem, walk_no_sooner}
use Rattle.graph.specs.Complete.{Complete, GoalIn}

module _ (G : Problem) where
  pub has_goal_in : (H : List Entry) → has_goal G H ≡ true → GoalIn G H
  unfolding has_goal
  has_goal_in [] h = absurd (true_false h refl)
  has_goal_in (e ∷ H) h = go (has_goal_in H) (decide (G.goal e.vertex))
    where
      go : (has_goal G H ≡ true → GoalIn G H) → Tested (G.goal e.vertex) → GoalIn G (e ∷ H)
      go ih (inl q) = record { entry = e; mem = Memᴰ.head refl; goal-is = q }
      go ih (inr q) = let r = ih (rw q at h) in record { entry = r.entry; mem = Memᴰ.tail r.mem; goal-is = r.goal-is }

  -- A vertex that is logged where no goal is, is none.
  pub no-goal : (H : List Entry) → has_goal G H ≡ false → (v t : ℕ) → time_in H v ≡ some t → G.goal v ≡ false
  unfolding has_goal time_in
  no-goal [] h v t l = absurd (none-some refl l)
  no-goal (e ∷ H) h v t l = go (no-goal H) (decide (G.goal e.vertex)) (time_in-cases e H v t l)
    where
      go : (has_goal G H ≡ false → (v t : ℕ) → time_in H v ≡ some t → G.goal v ≡ false) → Tested (G.goal e.vertex)
          → TimeIs e H v t → G.goal v ≡ false
      go ih (inl q) c = absurd (true_false refl (rw q at h))
      go ih (inr q) (inl c) = ap G.goal (sym c.0) ∙ q
      go ih (inr q) (inr c) = ih (rw q at h) v t c.1

  -- One step: the history stays, being complete, or grows.
  pub extend-complete : (H : List Entry) → Complete G H → extend G H ≡ H
  unfolding extend push
  extend-complete H (inl g) = rw g
  extend-complete H (inr n) = go (decide (has_goal G H)) (next G H) (next-is G H) n
    where
      go : Tested (has_goal G H) → (o : Option Entry) → NextIs G H o → NextIs G H none → cond (has_goal G H) H (push H o) ≡ H
      go (inl g) o a b = rw g
      go (inr g) none a b = rw g
      go (inr g) (some c) (chosen k p) (finished n) = absurd (n c k)

  pub extend-grows : (H : List Entry) → Reached G H → Complete G H ⊎ ((c : Entry) × (extend G H ≡ c ∷ H) × Reached G (c ∷ H))
  unfolding extend push
  extend-grows H r = go (decide (has_goal G H)) (next G H) (next-is G H)
    where
      go : Tested (has_goal G H) → (o : Option Entry) → NextIs G H o
          → Complete G H ⊎ ((c : Entry) × (cond (has_goal G H) H (push H o) ≡ c ∷ H) × Reached G (c ∷ H))
      go (inl g) o n = inl (inl g)
      go (inr g) none n = inl (inr n)
      go (inr g) (some c) n = inr (c, rw g, grow r g n)

  pub run_complete_stays : (k : ℕ) (H : List Entry) → Complete G H → run G k H ≡ H
  unfolding run
  run_complete_stays zero H c = refl
  run_complete_stays (suc k) H c = ap (run G k) (extend-complete H c) ∙ run_complete_stays k H c

  -- A search in parts: budgets add up.
  pub run_add : (j k : ℕ) (H : List Entry) → run G (k + j) H ≡ run G j (run G k H)
  unfolding run
  run_add j zero H = rw zero-add
  run_add j (suc k) H = rw suc-add (run_add j k (extend G H))

  extend-reached : (H : List Entry) → Reached G H → Reached G (extend G H)
  extend-reached H r = go (extend-grows H r)
    where
      go : Complete G H ⊎ ((c : Entry) × (extend G H ≡ c ∷ H) × Reached G (c ∷ H)) → Reached G (extend G H)
      go (inl c) = rw (extend-complete H c) r
      go (inr s) = rw s.1 s.2

  pub run-reached : (k : ℕ) (H : List Entry) → Reached G H → Reached G (run G k H)
  unfolding run
  run-reached zero H r = r
  run-reached (suc k) H r = run-reached k (extend G H) (extend-reached H r)

  pub history-reached : Reached G (history G)
  unfolding history
  history-reached = run-reached G.size [] fresh

pub length-vertices : (H : List Entry) → length (vertices H) ≡ length H
unfolding vertices
length-vertices H = length-map H (λ (e : Entry). e.vertex)

pub vertices-mem : (H : List Entry) (v : ℕ) → Memᴰ v (vertices H) → (e : Entry) × Memᴰ e H × (v ≡ e.vertex)
unfolding vertices
vertices-mem H v m = map-mem (λ (e : Entry). e.vertex) H m

pub mem-vertices : (H : List Entry) (e : Entry) → Memᴰ e H → Memᴰ e.vertex (vertices H)
unfolding vertices
mem-vertices H e m = mem-map (λ (e : Entry). e.vertex) m

module _ {G : Problem} (wf : WellFormed G) where
  -- No vertex is logged twice.
  pub distinct_vertices : {H : List Entry} → Reached G H → Distinct (vertices H)
  unfolding vertices
  distinct_vertices fresh = distinct_nil
  distinct_vertices (grow {c} {H} r g (chosen k p)) = distinct_cons new (distinct_vertices r)
    where
      new : Memᴰ c.vertex (map (λ (e : Entry). e.vertex) H) → ⊥
      new m =
          let e = map-mem (λ (e : Entry). e.vertex) H m in
          none-some k.unlogged (ap (time_in H) e.2 ∙ time_in-mem wf r e.0 e.1)

  pub length-le : {H : List Entry} → Reached G H → length H ≤ G.size
  length-le {H} r = omega (arith, distinct_length (distinct_vertices r) (range G.size) inside, length-vertices H, range_length G.size)
    where
      inside : (v : ℕ) → Memᴰ v (vertices H) → Memᴰ v (range G.size)
      inside v m =
          let e = vertices-mem H v m in
          range-mem G.size v (omega (arith, e.2, (keyed wf r e.0 e.1).below))

  run-complete : (k : ℕ) (H : List Entry) → Reached G H → G.size ≤ length H + k → Complete G (run G k H)
  unfolding run
  run-complete zero H r le = go (extend-grows G H r)
    where
      go : Complete G H ⊎ ((c : Entry) × (extend G H ≡ c ∷ H) × Reached G (c ∷ H)) → Complete G H
      go (inl c) = c
      go (inr s) = absurd (omega (arith, length-le s.2, le))
  run-complete (suc k) H r le = go (λ L rl ll. run-complete k L rl ll) (extend-grows G H r)
    where
      go : ((L : List Entry) → Reached G L → G.size ≤ length L + k → Complete G (run G k L))
          → Complete G H ⊎ ((c : Entry) × (extend G H ≡ c ∷ H) × Reached G (c ∷ H)) → Complete G (run G k (extend G H))
      go ih (inl c) = rw (extend-complete G H c, run_complete_stays G k H c) c
      go ih (inr s) = rw s.1 (ih (s.0 ∷ H) s.2 (omega (arith, le)))

  -- The fuel suffices.
  pub history-complete : Complete G (history G)
  unfolding history
  history-complete = run-complete G.size [] fresh (omega arith)

  -- A logged goal has the least time of all walks to goals.
  pub goal-least : {H : List Entry} → Reached G H → (e : Entry) → Memᴰ e H → G.goal e.vertex ≡ true
      → (g s : ℕ) → G.goal g ≡ true → Walk G g s → e.time ≤ s
  goal-least fresh e m q g s goal w = absurd (Memᴰ.not-nil m)
  goal-least (grow {c} {H} r h (chosen k p)) e m q g s goal w = go (Memᴰ.cases_cons m)
    where
      meet : Logged H g s ⊎ Ahead G H g s 0 → c.time ≤ s
      meet (inl l) = absurd (true_false goal (no-goal G H h g l.at l.time-is))
      meet (inr a) = omega (arith, (p a.entry a.candidate).keys, a.key-le, k.key-is)

      go : (e ≡ c) ⊎ Memᴰ e H → e.time ≤ s
      go (inl i) = omega (arith, ap (λ (d : Entry). d.time) i, meet (frontier wf H (walk_no_sooner wf r) w 0 (wf.goals g goal)))
      go (inr n) = absurd (true_false q (no-goal G H h e.vertex e.time (time_in-mem wf r e n)))

  -- Where the complete history has no goal, no walk leads to one.
  pub no_goal_no_walk : {H : List Entry} → Reached G H → Complete G H → has_goal G H ≡ false → (g s : ℕ) → G.goal g ≡ true → Walk G g s → ⊥
  no_goal_no_walk r (inl c) f g s goal w = true_false c f
  no_goal_no_walk {H} r (inr (finished n)) f g s goal w = meet (frontier wf H (walk_no_sooner wf r) w 0 (wf.goals g goal))
    where
      meet : Logged H g s ⊎ Ahead G H g s 0 → ⊥
      meet (inl l) = true_false goal (no-goal G H f g l.at l.time-is)
      meet (inr a) = n a.entry a.candidate
