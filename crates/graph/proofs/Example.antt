-- Two small maps, computed through the definitions. One has parallel arcs, a dead end, keys that tie, up times that a path over higher
-- ranks would undercut, and a target that is a candidate long before it is logged; the other has vertices whose keys and times tie. Every
-- fact here is proved by computing. Assumes nothing.
use Rattle.std.specs.Prelude.{◌≡◌, refl, Bool, cond, false, true, List, [], ◌∷◌, map, ℕ, eqb, get_or, length}
use Rattle.std.proofs.Math.Option.{none, some}
use Rattle.graph.specs.Total.{Total, ◌⊕◌, is_number, no_more}
use Rattle.graph.specs.Least.{first_below}
use Rattle.graph.specs.Lists.{count_below, filter, range}
use Rattle.graph.specs.Network.{direct}
use Rattle.graph.specs.Level.{dist}
use Rattle.graph.specs.Pairs.{down, up}
use Rattle.graph.specs.Records.{Pair}
use Rattle.graph.specs.Estimate.{down_total, estimate}
use Rattle.graph.specs.Reach.{reaches}
use Rattle.graph.specs.Search.{Entry, back, back_step, before, below_or, best_below, better, consider, count_of}
use Rattle.graph.specs.Search.{extend, first_via, has_goal, history, is, log_of, next, offer_via, offered}
use Rattle.graph.specs.Search.{push, route_of, run, time_in, total_in, total_of, vertices, way_in}
use Rattle.graph.specs.Sorted.{insert, sorted}
use Rattle.graph.specs.LogOrder.{in_order, smaller_or, sooner}
use Rattle.graph.specs.Map.{Map, down_total_of, estimate_of, fills, pairs_of, rank, time_of, weights}
use Rattle.graph.specs.Go.{go_of}
use Rattle.graph.specs.Example.{Shown}

-- ---- the map

-- tail, head and cost of the arcs 0 to 10; no arc leaves 4
abbrev arcs : List (ℕ × ℕ × ℕ)
arcs =
    (1, 0, 1) ∷ (3, 0, 2) ∷ (3, 1, 1) ∷ (0, 2, 1) ∷ (3, 2, 5) ∷ (3, 4, 5)
    ∷ (0, 2, 1) ∷ (2, 3, 10) ∷ (0, 3, 30) ∷ (0, 3, 20) ∷ (1, 4, 1) ∷ []

abbrev arc : ℕ → ℕ × ℕ × ℕ
arc i = get_or arcs i (0, 0, 0)

abbrev costs : ℕ → Total
costs i = some (arc i).2

abbrev M : Map
M = record {
  vertices = 5;
  order = λ i. get_or (0 ∷ 4 ∷ 1 ∷ 2 ∷ 3 ∷ []) i 0;
  base = record { arcs = length arcs; tail = λ i. (arc i).0; head = λ i. (arc i).1; cost = costs };
}

-- the values at 0 to 4
abbrev all : {A : Type 0} → (ℕ → A) → List A
all f = f 0 ∷ f 1 ∷ f 2 ∷ f 3 ∷ f 4 ∷ []

-- ---- the hierarchy

pub ranks_are : all (rank M) ≡ 0 ∷ 2 ∷ 3 ∷ 4 ∷ 1 ∷ []
ranks_are = refl

-- by ranks: the row of low, the column of high. From rank 2 to rank 4 the least total is 12, over rank 3; the up time is 21.
pub ups_are : all (λ low. all (λ high. up (weights M) low high))
    ≡ (none ∷ none ∷ none ∷ some 1 ∷ some 20 ∷ [])
    ∷ (none ∷ none ∷ none ∷ none ∷ none ∷ [])
    ∷ (none ∷ none ∷ none ∷ some 2 ∷ some 21 ∷ [])
    ∷ (none ∷ none ∷ none ∷ none ∷ some 10 ∷ [])
    ∷ (none ∷ none ∷ none ∷ none ∷ none ∷ [])
    ∷ []
unfolding up direct
ups_are = refl

-- From rank 4 to rank 1 the least total is 2, over rank 2; the down time is 5.
pub downs_are : all (λ low. all (λ high. down (weights M) low high))
    ≡ (none ∷ none ∷ some 1 ∷ none ∷ some 2 ∷ [])
    ∷ (none ∷ none ∷ some 1 ∷ none ∷ some 5 ∷ [])
    ∷ (none ∷ none ∷ none ∷ none ∷ some 1 ∷ [])
    ∷ (none ∷ none ∷ none ∷ none ∷ some 3 ∷ [])
    ∷ (none ∷ none ∷ none ∷ none ∷ none ∷ [])
    ∷ []
unfolding down direct
downs_are = refl

-- the kept pairs: low, high, up, down
pub pairs_are : map {B = ℕ × ℕ × Total × Total} (λ (p : Pair). (p.low, p.high, p.up_time, p.down_time)) (pairs_of M)
    ≡ (0, 2, none, some 1)
    ∷ (0, 3, some 1, none)
    ∷ (0, 4, some 20, some 2)
    ∷ (1, 2, none, some 1)
    ∷ (1, 4, none, some 5)
    ∷ (2, 3, some 2, none)
    ∷ (2, 4, some 21, some 1)
    ∷ (3, 4, some 10, some 3)
    ∷ []
unfolding up down direct
pairs_are = refl

-- for the targets 2, 0 and 4: vertex 2 has no down total for target 0, but an estimate, over 3
pub down_totals_are : map (λ (z : ℕ). all (down_total_of M z)) (2 ∷ 0 ∷ 4 ∷ [])
    ≡ (none ∷ none ∷ some 0 ∷ some 3 ∷ none ∷ [])
    ∷ (some 0 ∷ some 1 ∷ none ∷ some 2 ∷ none ∷ [])
    ∷ (none ∷ some 1 ∷ none ∷ some 2 ∷ some 0 ∷ [])
    ∷ []
unfolding down_total direct
down_totals_are = refl

pub estimates_are : map (λ (z : ℕ). all (estimate_of M z)) (2 ∷ 0 ∷ 4 ∷ [])
    ≡ (some 1 ∷ some 2 ∷ some 0 ∷ some 3 ∷ none ∷ [])
    ∷ (some 0 ∷ some 1 ∷ some 12 ∷ some 2 ∷ none ∷ [])
    ∷ (some 13 ∷ some 1 ∷ some 12 ∷ some 2 ∷ some 0 ∷ [])
    ∷ []
unfolding estimate direct
estimates_are = refl

-- the row of the vertex that is asked, the column of the one that it fills
pub fills_are : all (λ a. all (fills M a))
    ≡ (true ∷ false ∷ true ∷ true ∷ false ∷ [])
    ∷ (false ∷ true ∷ true ∷ true ∷ false ∷ [])
    ∷ (false ∷ false ∷ true ∷ true ∷ false ∷ [])
    ∷ (false ∷ false ∷ false ∷ true ∷ false ∷ [])
    ∷ (false ∷ false ∷ false ∷ false ∷ true ∷ [])
    ∷ []
unfolding reaches direct
fills_are = refl

-- the go from s to z at live costs, equal keys by time
abbrev shown_on : Map → (live : ℕ → Total) (s z : ℕ) → Shown
shown_on N live s z =
    let G = go_of N live (λ t. t) s z in
    record {
      log = vertices (log_of G);
      times = map (λ (e : Entry). e.time) (log_of G);
      keys = map (λ (e : Entry). e.key) (log_of G);
      elapsed = all (time_in (history G));
      total = total_of G;
      route = route_of G;
      count = count_of G;
    }

abbrev shown : (live : ℕ → Total) (s z : ℕ) → Shown
shown = shown_on M

-- the costs f, but x for arc i
abbrev but : ℕ → Total → (ℕ → Total) → ℕ → Total
but i x f j = cond (eqb j i) x (f j)

-- arcs into 2 are closed, all three
abbrev shut : ℕ → Total
shut = but 3 none (but 4 none (but 6 none costs))

pub searches_are :
    shown costs 3 2
    ∷ shown (but 1 none costs) 3 2
    ∷ shown (but 3 (some 4) (but 6 (some 2) costs)) 3 2
    ∷ shown costs 3 0
    ∷ shown costs 0 4
    ∷ shown costs 2 2
    ∷ shown shut 3 2
    ∷ shown costs 4 2
    ∷ []
    -- All keys are 3, and the smaller time goes first: 1 before 0, and at last 2. Arc 4 makes 2 a candidate at once, with time 5. Arc 0
    -- gives vertex 0 its time as arc 1 does, from 1, and has the smaller number. Arc 6 gives the same as 3. Vertex 4 has no estimate.
    ≡ record {
      log = 3 ∷ 1 ∷ 0 ∷ 2 ∷ [];
      times = 0 ∷ 1 ∷ 2 ∷ 3 ∷ [];
      keys = 3 ∷ 3 ∷ 3 ∷ 3 ∷ [];
      elapsed = some 2 ∷ some 1 ∷ some 3 ∷ some 0 ∷ none ∷ [];
      total = some 3;
      route = 2 ∷ 0 ∷ 3 ∷ [];
      count = 4;
    }
    -- arc 1 closed: the same
    ∷ record {
      log = 3 ∷ 1 ∷ 0 ∷ 2 ∷ [];
      times = 0 ∷ 1 ∷ 2 ∷ 3 ∷ [];
      keys = 3 ∷ 3 ∷ 3 ∷ 3 ∷ [];
      elapsed = some 2 ∷ some 1 ∷ some 3 ∷ some 0 ∷ none ∷ [];
      total = some 3;
      route = 2 ∷ 0 ∷ 3 ∷ [];
      count = 4;
    }
    -- arcs 3 and 6 delayed
    ∷ record {
      log = 3 ∷ 1 ∷ 0 ∷ 2 ∷ [];
      times = 0 ∷ 1 ∷ 2 ∷ 4 ∷ [];
      keys = 3 ∷ 3 ∷ 3 ∷ 4 ∷ [];
      elapsed = some 2 ∷ some 1 ∷ some 4 ∷ some 0 ∷ none ∷ [];
      total = some 4;
      route = 2 ∷ 0 ∷ 6 ∷ [];
      count = 4;
    }
    -- to 0, which ties with 1 and goes last
    ∷ record {
      log = 3 ∷ 1 ∷ 0 ∷ [];
      times = 0 ∷ 1 ∷ 2 ∷ [];
      keys = 2 ∷ 2 ∷ 2 ∷ [];
      elapsed = some 2 ∷ some 1 ∷ none ∷ some 0 ∷ none ∷ [];
      total = some 2;
      route = 2 ∷ 0 ∷ [];
      count = 3;
    }
    -- over all five vertices, with an end that was first a candidate at 16
    ∷ record {
      log = 0 ∷ 2 ∷ 3 ∷ 1 ∷ 4 ∷ [];
      times = 0 ∷ 1 ∷ 11 ∷ 12 ∷ 13 ∷ [];
      keys = 13 ∷ 13 ∷ 13 ∷ 13 ∷ 13 ∷ [];
      elapsed = some 0 ∷ some 12 ∷ some 1 ∷ some 11 ∷ some 13 ∷ [];
      total = some 13;
      route = 3 ∷ 7 ∷ 2 ∷ 10 ∷ [];
      count = 5;
    }
    -- from the target itself
    ∷ record {
      log = 2 ∷ [];
      times = 0 ∷ [];
      keys = 0 ∷ [];
      elapsed = none ∷ none ∷ some 0 ∷ none ∷ none ∷ [];
      total = some 0;
      route = [];
      count = 1;
    }
    -- no path is open
    ∷ record {
      log = 3 ∷ 1 ∷ 0 ∷ [];
      times = 0 ∷ 1 ∷ 2 ∷ [];
      keys = 3 ∷ 3 ∷ 3 ∷ [];
      elapsed = some 2 ∷ some 1 ∷ none ∷ some 0 ∷ none ∷ [];
      total = none;
      route = [];
      count = 3;
    }
    -- from a start without an estimate
    ∷ record { log = []; times = []; keys = []; elapsed = none ∷ none ∷ none ∷ none ∷ none ∷ []; total = none; route = []; count = 0 }
    ∷ []
unfolding go_of estimate direct vertices log_of total_of route_of count_of history run extend has_goal push next best_below consider
    better before
    below_or offered offer_via time_in total_in way_in back back_step first_via first_below is
searches_are = refl

-- A5's figures, with these vertices in their order: within the total 3, or 2 of the search to 0; and what open arcs reach and an estimate
-- has
abbrev figure : (live : ℕ → Total) (s z : ℕ) → (Total → Bool) → ℕ × List ℕ
figure live s z p =
    let passes : ℕ → Bool = λ v. p (time_of M live s v ⊕ estimate_of M z v) in
    (count_below passes 5, in_order (time_of M live s) (estimate_of M z) passes 5)

pub figures_are :
    figure costs 3 2 (λ x. no_more x (some 3))
    ∷ figure costs 3 0 (λ x. no_more x (some 2))
    ∷ figure shut 3 2 is_number
    ∷ []
    ≡ (4, 3 ∷ 1 ∷ 0 ∷ 2 ∷ [])
    ∷ (3, 3 ∷ 1 ∷ 0 ∷ [])
    ∷ (3, 3 ∷ 1 ∷ 0 ∷ [])
    ∷ []
unfolding estimate direct dist count_below filter range no_more is_number in_order sorted insert sooner smaller_or
figures_are = refl

-- ---- ties

-- 2–1–1, 0–1–2, 0–2–1, 1–3–1, 0–4–1, 4–1–1: on the way from 0 to 3 all keys are 3. 2 and 4 tie in time too; 1, of a smaller number, is
-- later. Into 1 lead the arcs 0, 1 and 5 at its time.
abbrev tied_arcs : List (ℕ × ℕ × ℕ)
tied_arcs = (2, 1, 1) ∷ (0, 1, 2) ∷ (0, 2, 1) ∷ (1, 3, 1) ∷ (0, 4, 1) ∷ (4, 1, 1) ∷ []

abbrev tied_arc : ℕ → ℕ × ℕ × ℕ
tied_arc i = get_or tied_arcs i (0, 0, 0)

abbrev tied : Map
tied = record {
  vertices = 5;
  order = λ i. i;
  base = record { arcs = length tied_arcs; tail = λ i. (tied_arc i).0; head = λ i. (tied_arc i).1; cost = λ i. some (tied_arc i).2 };
}

pub ties_are : shown_on tied tied.base.cost 0 3
    ≡ record {
      log = 0 ∷ 2 ∷ 4 ∷ 1 ∷ 3 ∷ [];
      times = 0 ∷ 1 ∷ 1 ∷ 2 ∷ 3 ∷ [];
      keys = 3 ∷ 3 ∷ 3 ∷ 3 ∷ 3 ∷ [];
      elapsed = some 0 ∷ some 2 ∷ some 1 ∷ some 3 ∷ some 1 ∷ [];
      total = some 3;
      route = 2 ∷ 0 ∷ 3 ∷ [];
      count = 5;
    }
unfolding go_of estimate direct vertices log_of total_of route_of count_of history run extend has_goal push next best_below consider
    better before
    below_or offered offer_via time_in total_in way_in back back_step first_via first_below is
ties_are = refl
