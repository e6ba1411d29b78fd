-- What a search answers and leaves (document 01: the search log), and the two searches of a preview (document 02, A2). Definitions only.
use Rattle.std.specs.Prelude.{◌≡◌, true, List, None, Option, Some, ◌<◌, ◌≤◌, ℕ, length}
use Rattle.std.proofs.Math.Option.{none, some}
use Rattle.graph.specs.Total.{Total}
use Rattle.graph.specs.Search.{count_of, history, log_of, route_of, time_in, total_of, vertices}
use Rattle.graph.specs.Map.{Map}
use Rattle.model.specs.Limits.{most_total}
use Rattle.model.specs.Word.{word}
use Rattle.model.specs.Bytes.{listed}
use Rattle.model.specs.State.{first}
use Rattle.model.specs.Set.{settable}
use Rattle.model.specs.Estimate.{Kept, filled}
use Rattle.model.specs.Go.{asks, go_route, live_of}
use Rattle.model.specs.Preview.{either_asks, work_size}
use Rattle.model.specs.Good.{AimFacts}
use Rattle.network.specs.Bodies.{Prepared}
use Rattle.road_groups.specs.Lending.{GroupsMade}
use Rattle.search_junctions.specs.declared.Trip.{Trip}
use Rattle.search_junctions.specs.declared.View.{View}
use Rattle.search_junctions.specs.State.{Given, given_of, go_given, map_given}
use Rattle.search_run.specs.Runs.{BlankRoom, Lends, Within, Written}

-- ---- what a search relies on

-- each time is one that set allows
abbrev pub Settable : Map → (live : List ℕ) → Type 0
Settable M live = (i : ℕ) → i < M.base.arcs → settable (M.base.cost i) (live_of live i) ≡ true

-- preparing and aim left the areas, and set the times
pub record AsLeft (g : Given) (leaving groups : List ℕ) (z : ℕ) (estimates : List ℕ) : Type 0 where
  pub prepared : Prepared g.roads g.order g.ranks g.pairs g.times g.sizes.pairs
  pub grouped : GroupsMade g.roads (map_given g).vertices (map_given g).base.arcs leaving groups
  pub aims : AimFacts (map_given g) z g.down estimates
  pub times : Settable (map_given g) g.live

-- ---- the total alone

-- a total, or none
abbrev pub total_in : Option ℕ → Total
total_in (Some t) = some t
total_in None = none

-- Total or none, and the estimates that the search fills. e₀ are those before, e those after.
pub record FoundTotal (g : Given) (s z : ℕ) (e₀ e : List ℕ) (total : Total) : Type 0 where
  pub total-is : total ≡ total_of (go_given g s z)
  -- a total stays below the marks
  pub fits : (t : ℕ) → total_of (go_given g s z) ≡ some t → t ≤ most_total
  pub estimates_are : e ≡ filled (map_given g) z (asks (map_given g) g.live s z) e₀

pub record FindsTotal (g : Given) (leaving groups : List ℕ) (s z : ℕ) (e₀ e : List ℕ) (total : Total) : Type 0 where
  -- on any contents: what is filled stays
  pub kept : Kept e₀ e
  -- where the areas are as they were left
  pub exact : AsLeft g leaving groups z e₀ → FoundTotal g s z e₀ e total

-- ---- the search of a go

-- areas that it writes, and a blank room
pub record LendsIn (g : Given) (leaving groups : List ℕ) (s z : ℕ) (l : Written) (room : List ℕ) : Type 0 where
  pub lends : Lends g leaving groups s z l
  pub fresh : BlankRoom g.sizes.n room

-- Total, count, number of roads; estimates, elapsed, route and log as go leaves them. l are the areas before, l' those after; ways are the
-- route's.
pub record Found (g : Given) (s z : ℕ) (l l' : Written) (total : Total) (count number : ℕ) : Type 0 where
  pub least : FoundTotal g s z l.estimates l'.estimates total
  pub count-is : count ≡ count_of (go_given g s z)
  pub number_is : number ≡ length (route_of (go_given g s z))
  pub elapsed-is : l'.elapsed ≡ listed (map_given g).vertices (λ v. word (time_in (history (go_given g s z)) v))
  pub route-is : l'.ways ≡ go_route (total_of (go_given g s z)) (route_of (go_given g s z)) l.ways
  pub log_is : l'.log ≡ first (vertices (log_of (go_given g s z))) l.log

pub record Searches (g : Given) (leaving groups : List ℕ) (s z : ℕ) (l l' : Written) (total : Total) (count number : ℕ) : Type 0 where
  pub kept : Kept l.estimates l'.estimates
  pub exact : AsLeft g leaving groups z l.estimates → Found g s z l l' total count number

-- ---- the two searches of a preview

-- the same trip by another view
abbrev pub seen_by : Trip → View → Trip
seen_by t v = record { sizes = t.sizes; start = t.start; target = t.target; class = t.class; view = v }

-- the same at other times
abbrev pub at_times : Given → (live : List ℕ) → Given
at_times g live = given_of g.sizes g.roads g.order g.ranks g.pairs g.times live g.down

-- Both are given the same but for the times; each has half of the work area in elapsed's place.
pub record LendsBoth (g : Given) (leaving groups : List ℕ) (s z : ℕ) (estimates work : List ℕ) : Type 0 where
  pub within : Within g leaving groups s z (length estimates) g.sizes.n
  pub work-is : length work ≡ work_size g.sizes.n

-- The totals at the times given and at the times live', and the estimates that either fills.
pub record FoundBoth (g : Given) (live' : List ℕ) (s z : ℕ) (e₀ e : List ℕ) (present new : Total) : Type 0 where
  pub present_is : present ≡ total_of (go_given g s z)
  pub present_fits : (t : ℕ) → total_of (go_given g s z) ≡ some t → t ≤ most_total
  pub new_is : new ≡ total_of (go_given (at_times g live') s z)
  pub new-fits : (t : ℕ) → total_of (go_given (at_times g live') s z) ≡ some t → t ≤ most_total
  pub estimates_are : e ≡ filled (map_given g) z (either_asks (map_given g) g.live live' s z) e₀

pub record FindsBoth (g : Given) (live' leaving groups : List ℕ) (s z : ℕ) (e₀ e : List ℕ) (present new : Total) : Type 0 where
  pub kept : Kept e₀ e
  pub exact : AsLeft g leaving groups z e₀ → Settable (map_given g) live' → FoundBoth g live' s z e₀ e present new
