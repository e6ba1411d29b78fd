-- What a run is lent, and what it leaves (document 01: the search log). Definitions only.
use Rattle.std.specs.Borrow.{MutBor}
use Rattle.std.specs.Prelude.{◌≡◌, Bool, false, true, List, [], reverse, ◌*◌, ◌<◌, ◌≤◌, min, suc, ℕ, get_or, length}
use Rattle.std.proofs.Math.Option.{some}
use Rattle.graph.specs.Search.{Entry, run, time_in, vertices}
use Rattle.graph.specs.Complete.{Complete}
use Rattle.model.specs.Word.{word}
use Rattle.model.specs.Bytes.{listed}
use Rattle.model.specs.State.{first}
use Rattle.model.specs.Estimate.{Kept}
use Rattle.model.specs.Good.{AimFacts}
use Rattle.road_groups.specs.Lending.{GroupsMade}
use Rattle.search_queue.specs.Order.{blank_word}
use Rattle.search_queue.specs.Sums.{SumsKept}
use Rattle.search_labels.specs.Labelling.{labels_in, order_of}
use Rattle.search_labels.specs.Labelled.{Way}
use Rattle.search_junctions.specs.State.{Given, Ready, SizedIn, go_given, map_given}
use Rattle.search_junctions.specs.Asking.{Asked, Filling}
use Rattle.search_junctions.specs.Ways.{step_back}

-- What a search writes in the areas lent to it. Ways are the room of a run, which has the arcs that gave the nodes their times, or the
-- route.
pub record Written : Type 0 where
  pub estimates : List ℕ
  pub elapsed : List ℕ
  pub ways : List ℕ
  pub log : List ℕ

abbrev pub written_of : (estimates elapsed ways log : List ℕ) → Written
written_of a b c d = record { estimates = a; elapsed = b; ways = c; log = d }

-- the same of what is lent to a function
abbrev pub written : (estimates elapsed ways log : MutBor (List ℕ)) → Written
written a b c d = written_of a.now b.now c.now d.now

-- start and target are junctions; the roads by tail have an entry for each road, their groups one for each junction and one more; what is
-- given, estimates and elapsed have their lengths
pub record Within (g : Given) (leaving groups : List ℕ) (s z : ℕ) (estimates elapsed : ℕ) : Type 0 where
  pub start_in : s < g.sizes.n
  pub target_in : z < g.sizes.n
  pub leaving-is : length leaving ≡ g.sizes.m
  pub groups_are : length groups ≡ suc g.sizes.n
  pub sized : SizedIn g estimates elapsed

-- and there is room for route and log
pub record Lends (g : Given) (leaving groups : List ℕ) (s z : ℕ) (l : Written) : Type 0 where
  pub within : Within g leaving groups s z (length l.estimates) (length l.elapsed)
  pub ways-long : g.sizes.n ≤ length l.ways
  pub log-long : g.sizes.n ≤ length l.log

-- a room for the labels of n nodes, all of them blank
pub record BlankRoom (n : ℕ) (room : List ℕ) : Type 0 where
  pub words : 3 * n ≤ length room
  pub blank : (p : ℕ) → p < 3 * n → get_or room p 0 ≡ blank_word

-- or there is room for the log and for the labels
pub record LendsRoom (g : Given) (leaving groups : List ℕ) (s z : ℕ) (l : Written) : Type 0 where
  pub within : Within g leaving groups s z (length l.estimates) (length l.elapsed)
  pub log-long : g.sizes.n ≤ length l.log
  pub fresh : BlankRoom g.sizes.n l.ways

-- ---- what a run leaves

-- one step back by the arcs of a room
abbrev pub back_in : (roads room : List ℕ) (n m v : ℕ) → ℕ
back_in roads room n m = step_back roads (labels_in n room).vias n m

-- what a flag tells
pub record Tells (b : Bool) (P : Type 0) : Type 0 where
  pub yes_is : b ≡ true → P
  pub no-is : b ≡ false → P → ⊥

-- After the history H: count, log, elapsed and estimates, the last arc to each logged node, and whether the log is complete.
pub record Advanced (g : Given) (s z : ℕ) (H : List Entry) (l l' : Written) (c : ℕ) (complete : Bool) : Type 0 where
  pub count-is : c ≡ length H
  pub log_is : l'.log ≡ first (vertices (reverse H)) l.log
  pub elapsed-is : l'.elapsed ≡ listed g.sizes.n (λ v. word (time_in H v))
  pub filling : Filling (map_given g) z (Asked (go_given g s z) s z H) g.down l.estimates l'.estimates
  pub ways : (v t : ℕ) → v < (go_given g s z).size → time_in H v ≡ some t → Way (go_given g s z) H v ((labels_in g.sizes.n l'.ways).vias v)
  pub complete-is : Tells complete (Complete (go_given g s z) H)
  -- document 02, A4: "each kept sum is proved to be its candidate's key at every choice": after any number of steps, which a budget may be
  pub sums : complete ≡ false → SumsKept (go_given g s z) H (labels_in g.sizes.n l'.ways).times (order_of g.sizes.n l'.ways)

-- From the beginning, as many nodes as the budget allows. A larger budget logs further ones behind these (`run_add`).
pub record Advances (g : Given) (leaving groups : List ℕ) (s z budget : ℕ) (l l' : Written) (c : ℕ) (complete : Bool) : Type 0 where
  -- on any contents: what is filled stays, and the budget is kept
  pub kept : Kept l.estimates l'.estimates
  pub count-le : c ≤ min budget g.sizes.n
  -- in a state that is ready, with the roads by tail as the card has them: so many steps of the definition as the budget allows
  pub exact : Ready g s z → GroupsMade g.roads g.sizes.n g.sizes.m leaving groups
      → AimFacts (map_given g) z g.down l.estimates
      → Advanced g s z (run (go_given g s z) budget []) l l' c complete
