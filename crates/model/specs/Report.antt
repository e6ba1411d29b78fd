-- One radio report (document 02, A8): how far a set of one road's live time can move a trip. Stated of the unit's own answers: to a go
-- before the set, to a go after it, and to a preview of it. Definitions only; `ReportProof` proves it of every state that calls left.
use Rattle.std.specs.Prelude.{◌≡◌, true, List, ◌+◌, ◌-◌, ◌<◌, ◌≤◌, ℕ, neg_ℤ, pos, ℤ, length}
use Rattle.std.proofs.Math.Option.{Option, none, some}
use Rattle.graph.specs.Total.{Total}
use Rattle.model.specs.Word.{none_word, of_word}
use Rattle.model.specs.Types.{Accepted, Answer, At, Gone, NoPath, Previewed, Refused}
use Rattle.model.specs.Limits.{classes}
use Rattle.model.specs.Card.{map_on}
use Rattle.model.specs.Areas.{Areas}
use Rattle.model.specs.State.{Lent, State, Step, prepare}
use Rattle.model.specs.Set.{settable}
use Rattle.model.specs.Go.{live_of}
use Rattle.model.specs.Preview.{work_size}
use Rattle.model.specs.Calls.{Asked, Call, Go, Preview, Set, calling, run}
use Rattle.model.specs.Promises.{CallContract}

-- ---- where: "every map .. and state reached by any list of calls"

-- a list of calls left s, after an accepted preparing of the card
pub record LeftAccepted (card : List ℕ) (s : State) : Type 0 where
  pub areas : Areas
  pub accepted : (prepare card areas).answer ≡ Accepted
  pub calls : List Call
  pub leaves : run card (prepare card areas).state calls ≡ s

-- x, left so too, has the live times and the target of s: it is s, or goes, estimates and previews came between
pub record Like (card : List ℕ) (s x : State) : Type 0 where
  pub reached : LeftAccepted card x
  pub live : x.areas.live ≡ s.areas.live
  pub target : x.header.target ≡ s.header.target

-- ---- what is asked

-- a class from a start, with a target in force: 18, 12 and 13 pass
pub record CanGo (s : State) (class start : ℕ) : Type 0 where
  pub class_in : class < classes
  pub start_in : start < s.header.n
  pub target : ℕ
  pub aimed : s.header.target ≡ At target

-- and 14, of what a go is lent
pub record Room (s : State) (l : Lent) : Type 0 where
  pub route : s.header.n ≤ length l.route
  pub log : s.header.n ≤ length l.log

-- a road, and a time that it may have: 10 and 11 pass
pub record CanSet (card : List ℕ) (s : State) (road time : ℕ) : Type 0 where
  pub road_in : road < s.header.m
  pub time_in : settable ((map_on card).base.cost road) (of_word time) ≡ true

-- a call that the unit makes in a state like s, and what it answers and leaves
pub record Makes (card : List ℕ) (s : State) (asked : Asked) : Type 0 where
  pub from : State
  pub like : Like card s from
  pub lent : Lent
  pub done : Step
  pub meets : CallContract card from (calling asked lent) done

-- a go, the report, a go after it; and a preview of the report
pub record Calls (card : List ℕ) (s : State) (class road time start : ℕ) : Type 0 where
  pub go : Makes card s (Go class start)
  pub room : Room s go.lent
  pub set : Makes card s (Set road time)
  pub then : Makes card set.done.state (Go class start)
  pub room-then : Room s then.lent
  pub preview : Makes card s (Preview class road time start (work_size s.header.n))

-- ---- what is answered

-- a go's total; none where it says that there is no route
abbrev pub TellsTotal : Answer → Total → Type 0
TellsTotal x none = (c : ℕ) × (x ≡ Refused (NoPath c))
TellsTotal x (some T) = (c : ℕ) × (k : ℕ) × (x ≡ Gone T c k)

-- the two goes tell totals, the preview the same two and a change, and R holds of them
pub record Reported (R : (now new : Total) → (change : Option ℤ) → Type 0) (before after preview : Answer) : Type 0 where
  pub now : Total
  pub new : Total
  pub change : Option ℤ
  pub goes_before : TellsTotal before now
  pub goes_after : TellsTotal after new
  pub previews : preview ≡ Previewed now new change
  pub holds : R now new change

-- ---- how far a report moves a total, from T to T'

-- "larger by 0 to d", and the change is so much
abbrev pub Larger : (d T T' : ℕ) → (change : Option ℤ) → Type 0
Larger d T T' change = (e : ℕ) × (e ≤ d) × (T' ≡ T + e) × (change ≡ some (pos e))

-- "smaller by 0 to d", and the change is so much below 0
abbrev pub Smaller : (d T T' : ℕ) → (change : Option ℤ) → Type 0
Smaller d T T' change = (e : ℕ) × (e ≤ d) × (T ≡ T' + e) × (change ≡ some (neg_ℤ (pos e)))

-- "a route existed": one exists then, and R holds of the two totals; or none did, and none does
abbrev pub Persists : (R : (T T' : ℕ) → Option ℤ → Type 0) → (now new : Total) → (change : Option ℤ) → Type 0
Persists R none none change = change ≡ none
Persists R none (some T') change = ⊥
Persists R (some T) none change = ⊥
Persists R (some T) (some T') change = R T T' change

-- "one open road's live time", t before and u after the report, "and stays open"
pub record Moves (t u : ℕ) (now new : Total) (change : Option ℤ) : Type 0 where
  -- "goes up by d .., the new least total is larger by 0 to d"
  pub up : (d : ℕ) → u ≡ t + d → Persists (Larger d) now new change
  -- "If it goes down by d, it is smaller by 0 to d."
  pub down : (d : ℕ) → t ≡ u + d → Persists (Smaller d) now new change

-- an open road is closed: no total gets smaller; a route may be lost, and none is found
abbrev pub Closes : (now new : Total) → (change : Option ℤ) → Type 0
Closes none none change = change ≡ none
Closes none (some T') change = ⊥
Closes (some T) none change = change ≡ none
Closes (some T) (some T') change = (d : ℕ) × Larger d T T' change

-- a closed road is opened: no total gets larger; a route may be found, and none is lost
abbrev pub Opens : (now new : Total) → (change : Option ℤ) → Type 0
Opens none none change = change ≡ none
Opens none (some T') change = change ≡ none
Opens (some T) none change = ⊥
Opens (some T) (some T') change = (d : ℕ) × Smaller d T T' change

-- ---- several reports

-- Reports one after the other that led from s to x, each of a road that was open, at t, and stayed open; goes, estimates and previews may
-- come between. What went up adds up to `up`, what went down to `down`.
pub data Reports (card : List ℕ) : (s x : State) → (up down : ℕ) → Type 0 where
  no_report : {s x : State} → Like card s x → Reports card s x 0 0
  one_more : {s x y : State} {up down road t time : ℕ} → Reports card s x up down → CanSet card x road time
      → live_of x.areas.live road ≡ some t → time < none_word → (m : Makes card x (Set road time)) → Like card m.done.state y
      → Reports card s y (up + (time - t)) (down + (t - time))

-- a route exists exactly if one did, and its total is larger by at most `up`, smaller by at most `down`
abbrev pub Within : (up down : ℕ) → (now new : Total) → Type 0
Within up down none none = Unit {0}
Within up down none (some T') = ⊥
Within up down (some T) none = ⊥
Within up down (some T) (some T') = (T' ≤ T + up) × (T ≤ T' + down)
