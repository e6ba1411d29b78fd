-- Proves what the complete search of a well_formed problem gives: least times (`times-least`), the least total, none exactly if no walk
-- leads to a goal (`total-least`), a route of that total (`route-total`) by document 01's rule (`route-smallest`). Assumes nothing.
use Rattle.std.proofs.Common.{◌∙◌, ap, inl, inr, arith}
use Rattle.std.specs.Prelude.{◌≡◌, cond, ℕ, length}
use Rattle.std.proofs.Math.Path.{refl, sym}
use Rattle.std.proofs.Math.Option.{none, some}
use mathlib.Core.List.{List, Memᴰ, [], ◌∷◌}
use Rattle.std.proofs.lemmas.List.{length-reverse}
use Rattle.graph.specs.Total.{Tested, Total}
use Rattle.graph.proofs.Total.{decide, none-some, true_false}
use Rattle.graph.specs.Least.{IsLeast}
use Rattle.graph.proofs.Least.{least-empty, least-number}
use Rattle.graph.proofs.Lists.{mem-reverse}
use Rattle.graph.specs.Search.{Entry, Problem, count_of, has_goal, history, log_of, route_of, total_in, total_of, way_in}
use Rattle.graph.specs.Walk.{Walk, WellFormed}
use Rattle.graph.proofs.Walk.{time_in-here}
use Rattle.graph.specs.History.{Keyed, Reached}
use Rattle.graph.proofs.History.{keyed, logged-least, logged_walk}
use Rattle.graph.specs.Complete.{Complete}
use Rattle.graph.proofs.Complete.{goal-least, has_goal_in, history-complete, history-reached, no_goal_no_walk}
use Rattle.graph.proofs.Within.{goal_newest}
use Rattle.graph.specs.Back.{SmallestInto}
use Rattle.graph.proofs.Back.{back-route, back-smallest}
use Rattle.graph.specs.Answer.{GoalWalk, Ended, found, lost, GoalRoute}

module _ {G : Problem} (wf : WellFormed G) where
  ended : (H : List Entry) → Reached G H → Complete G H → Ended G H (total_in G H)
  unfolding total_in has_goal
  ended [] r (inl h) = absurd (true_false h refl)
  ended [] r (inr n) = lost r refl n
  ended (c ∷ H) r e = go (decide (G.goal c.vertex)) (decide (has_goal G (c ∷ H))) e
    where
      go : Tested (G.goal c.vertex) → Tested (has_goal G (c ∷ H)) → Complete G (c ∷ H)
          → Ended G (c ∷ H) (cond (G.goal c.vertex) (some c.time) none)
      go (inl q) f e = rw q (found r q)
      go (inr q) (inl h) e =
          let k = has_goal_in G (c ∷ H) h in
          let i = goal_newest wf r k.entry k.mem k.goal-is in
          absurd (true_false (ap (λ (d : Entry). G.goal d.vertex) (sym i) ∙ k.goal-is) q)
      go (inr q) (inr f) (inl h) = absurd (true_false h f)
      go (inr q) (inr f) (inr n) = rw q (lost r f n)

  pub end : Ended G (history G) (total_of G)
  unfolding total_of
  end = ended (history G) (history-reached G) (history-complete wf)

  -- Every logged vertex has its least time.
  pub times-least : (e : Entry) → Memᴰ e (log_of G) → IsLeast (Walk G e.vertex) (some e.time)
  unfolding log_of
  times-least e m = logged-least wf (history-reached G) e (mem-reverse (history G) m)

  -- Its key is its time plus its potential.
  pub log-keyed : (e : Entry) → Memᴰ e (log_of G) → Keyed G e
  unfolding log_of
  log-keyed e m = keyed wf (history-reached G) e (mem-reverse (history G) m)

  -- The total is the least over all walks to goals, and none exactly if there is none.
  total_of_lem : {H : List Entry} {T : Total} → Ended G H T → IsLeast (GoalWalk G) T
  total_of_lem (found {c} {H} r q) =
      least-number (c.vertex, q, logged_walk wf r c.vertex c.time (time_in-here c H c.vertex refl))
      (λ s w. goal-least wf r c (Memᴰ.head refl) q w.0 s w.1 w.2)
  total_of_lem (lost r f n) = least-empty (λ s w. no_goal_no_walk wf r (inr n) f w.0 s w.1 w.2)

  pub total-least : IsLeast (GoalWalk G) (total_of G)
  total-least = total_of_lem end

  pub count-is : length (history G) ≡ count_of G
  unfolding count_of log_of
  count-is = sym (length-reverse (history G))

  -- The route leads to a goal, takes the total, and has fewer arcs than the log has entries.
  found-way : {H : List Entry} {X : Total} → Ended G H X → (T : ℕ) → X ≡ some T → GoalRoute G T (length H) (way_in G H)
  unfolding way_in
  found-way (lost r f n) T q = absurd (none-some refl q)
  found-way (found {c} {H} r g) T q =
      let b = back-route G r c.vertex T (time_in-here c H c.vertex refl ∙ q) in
      rw g (record { at = c.vertex; at-goal = g; route = b.0; short = b.1 })

  pub route-total : (T : ℕ) → total_of G ≡ some T → GoalRoute G T (count_of G) (route_of G)
  unfolding route_of
  route-total T q =
      let w = found-way end T q in
      record { at = w.at; at-goal = w.at-goal; route = w.route; short = omega (arith, w.short, count-is) }

  -- Each of its arcs is the smallest-numbered open one, from a vertex logged before its head, that gives the head its time.
  found-smallest : {H : List Entry} {X : Total} → Ended G H X → (T : ℕ) → X ≡ some T → (i : ℕ) → Memᴰ i (way_in G H)
      → SmallestInto G H i
  unfolding way_in
  found-smallest (lost r f n) T q i m = absurd (none-some refl q)
  found-smallest (found {c} {H} r g) T q i m = back-smallest G r c.vertex c.time (time_in-here c H c.vertex refl) i (rw g at m)

  pub route-smallest : (T : ℕ) → total_of G ≡ some T → (i : ℕ) → Memᴰ i (route_of G) → SmallestInto G (history G) i
  unfolding route_of
  route-smallest = found-smallest end
