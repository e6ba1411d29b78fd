-- How the cases are written. Of the definitions under test it cites the types, and functions only in `writes`, `prepares`, `answers`,
-- `figures` and `played`. Definitions only.
use Rattle.std.specs.Prelude.{◌≡◌, Bool, cond, List, [], ◌++◌, ◌∷◌, map, ◌%◌, ◌*◌, ◌+◌, ◌-◌, ◌/◌, suc, zero, ℕ, eqb, neg_ℤ, pos, ℤ, drop}
use Rattle.std.specs.Prelude.{get_or, length, replicate, take}
use Rattle.std.proofs.Math.Option.{Option, some}
use Rattle.graph.specs.Total.{Total, is_number, no_more}
use Rattle.graph.specs.Least.{measured}
use Rattle.graph.specs.Lists.{filter, range}
use Rattle.graph.specs.Network.{direct}
use Rattle.graph.specs.Level.{dist}
use Rattle.graph.specs.Pairs.{down, up}
use Rattle.graph.specs.Reach.{up_total}
use Rattle.graph.specs.Search.{back, back_step, before, below_or, best_below, better, consider, extend, first_via, has_goal, is, next}
use Rattle.graph.specs.Search.{offer_via, offered, push, run, total_in, way_in}
use Rattle.graph.specs.Sorted.{insert, sorted}
use Rattle.graph.specs.LogOrder.{in_order, smaller_or, sooner}
use Rattle.model.specs.Word.{of_word}
use Rattle.model.specs.Types.{Absent, Accepted, Answer, At, Estimated, Gone, Header, Leg, NoLeg, NoPath, Previewed, Refusal, Refused}
use Rattle.model.specs.Types.{Stopped, Target}
use Rattle.model.specs.Bytes.{word_at}
use Rattle.model.specs.Layout.{body_at}
use Rattle.model.specs.Card.{CardMap, Rows, Written, map_of, write_card, write_refusal}
use Rattle.model.specs.Classes.{access_of, admits, class_live}
use Rattle.model.specs.Areas.{Areas, areas_of}
use Rattle.model.specs.State.{Lent, State, Step, prepare}
use Rattle.model.specs.Machine.{target_of}
use Rattle.model.specs.Go.{effort_log, live_of, reached_estimated, within_total}
use Rattle.model.specs.Calls.{Aim, Asked, Call, Estimate, Go, Preview, Set, Stops, aim_call, estimate_call, go_call, preview_call, set_call}
use Rattle.model.specs.Calls.{step, steps, stops_call}

-- ---- words and cards

-- the marks: none and closed; unasked
abbrev pub ∞ : ℕ
∞ = 18446744073709551615

abbrev pub □ : ℕ
□ = 18446744073709551614

-- the largest word of a card, which is no mark of a time (document 02, A7)
abbrev pub largest : ℕ
largest = 4294967295

-- a road as document 01 writes it: tail – head – base time
infix 70 ◌–◌–◌
abbrev pub ◌–◌–◌ : ℕ → ℕ → ℕ → List ℕ
a – b – t = a ∷ b ∷ t ∷ []

-- the record of a pair: rank of low, rank of high, up, down
abbrev pub pair : ℕ → ℕ → ℕ → ℕ → List ℕ
pair low high up down = low ∷ high ∷ up ∷ down ∷ []

abbrev row : List (List ℕ) → List ℕ
row [] = []
row (l ∷ r) = l ++ row r

-- what stands of the records in the one area and in the other, with room for so many pairs; unused records are 0
abbrev ranks_of : List (List ℕ) → (room : ℕ) → List ℕ
ranks_of l room = row (map (take 2) l) ++ replicate (2 * (room - length l)) 0

abbrev times_of : List (List ℕ) → (room : ℕ) → List ℕ
times_of l room = row (map (drop 2) l) ++ replicate (2 * (room - length l)) 0

-- words as bytes, lowest byte first
abbrev pub bytes : List ℕ → List ℕ
bytes [] = []
bytes (w ∷ l) = w % 256 ∷ w / 256 % 256 ∷ w / 65536 % 256 ∷ w / 16777216 ∷ bytes l

-- the table of contents for bodies of so many bytes
abbrev contents : (roads order : ℕ) → List ℕ
contents a b = bytes (2 ∷ 1 ∷ 28 ∷ a ∷ 2 ∷ (28 + a) ∷ b ∷ [])

abbrev pub card : (roads : List (List ℕ)) (order : List ℕ) → List ℕ
card roads order = contents (12 * length roads) (4 * length order) ++ bytes (row roads ++ order)

-- the same with a byte for each road in a third section; without it where there are none
abbrev pub card_with : (roads : List (List ℕ)) (order access : List ℕ) → List ℕ
card_with roads order [] = card roads order
card_with roads order (b ∷ l) =
    let a = 12 * length roads in
    let o = 4 * length order in
    bytes (3 ∷ 1 ∷ 40 ∷ a ∷ 2 ∷ (40 + a) ∷ o ∷ 3 ∷ (40 + a + o) ∷ length (b ∷ l) ∷ []) ++ bytes (row roads ++ order) ++ b ∷ l

-- a card with bodies of zeros, of so many bytes
abbrev pub blank : (roads order : ℕ) → List ℕ
blank a b = contents a b ++ replicate (a + b) 0

-- the card with w as its word k
abbrev pub put : (k w : ℕ) → List ℕ → List ℕ
put k w c = take (4 * k) c ++ bytes (w ∷ []) ++ drop (4 * k + 4) c

-- ---- tables: what is given, and what is due

pub record Case (A B : Type 0) : Type 0 where
  pub given : A
  pub due : B

infix 68 ◌⇒◌
abbrev pub ◌⇒◌ : {A B : Type 0} → A → B → Case A B
a ⇒ b = record { given = a; due = b }

-- what f answers to each that is given is what is due
abbrev pub Agree : {A B : Type 0} → (A → B) → List (Case A B) → Type 0
Agree {A} {B} f l = map (λ (c : Case A B). f c.given) l ≡ map (λ (c : Case A B). c.due) l

-- for a test that stands written out as what is given
abbrev pub same : Bool → Bool
same b = b

-- rows to write into an area
pub record Writing : Type 0 where
  pub rows : Rows
  pub area : List ℕ

unfoldable pub writes : Writing → Written
unfolding write_refusal
writes w = write_card w.rows w.area

abbrev writing : (roads order : List ℕ) (bytes : ℕ) → Writing
writing roads order k = record { rows = record { roads = roads; order = order }; area = replicate k 7 }

abbrev pub written : (roads : List (List ℕ)) (order : List ℕ) → Case Writing Written
written roads order = let c = card roads order in writing (row roads) order (length c) ⇒ record { answer = Accepted; area = c }

-- a refused writing leaves the area as it was
abbrev pub unwritten : (roads order : List ℕ) (bytes : ℕ) → Refusal → Case Writing Written
unwritten roads order k q = writing roads order k ⇒ record { answer = Refused q; area = replicate k 7 }

-- areas of these lengths, full of w
abbrev full : (w ranks pairs times live down estimates elapsed leaving groups : ℕ) → Areas
full w r p q l d e t g h =
    areas_of
    (replicate r w) (replicate p w) (replicate q w) (replicate l w) (replicate d w) (replicate e w) (replicate t w) (replicate g w)
    (replicate h w)

abbrev pub header_of : (n m pairs card : ℕ) → Target → Header
header_of n m p c z = record { n = n; m = m; pairs = p; card = c; target = z }

abbrev nothing : Lent
nothing = record { route = []; log = [] }

pub record Preparing : Type 0 where
  pub card : List ℕ
  pub areas : Areas

unfoldable pub prepares : Preparing → Step
unfolding prepare word_at body_at measured up down
prepares p = prepare p.card p.areas

-- a refused preparing leaves w in each area, and a header of zeros
abbrev pub unprepared : Refusal → (w : ℕ) → (card : List ℕ) (ranks pairs times live down estimates elapsed leaving groups : ℕ)
    → Case Preparing Step
unprepared why w c r p q l d e t g h =
    record { card = c; areas = full 7 r p q l d e t g h }
    ⇒ record {
      answer = Refused why;
      state = record { header = header_of 0 0 0 0 Absent; areas = full w r p q l d e t g h };
      lent =
          nothing;
    }

-- ---- calls

-- k, k + 1, .., of the given length
abbrev counted : (k length : ℕ) → List ℕ
counted k zero = []
counted k (suc n) = k ∷ counted (suc k) n

-- what go and stops are lent: a route and a log area of so many entries
abbrev pub lent : (route log : ℕ) → Lent
lent r l = record { route = counted 60 r; log = counted 80 l }

-- calls that are each made on the same card and state
pub record Calling : Type 0 where
  pub card : List ℕ
  pub state : State
  pub calls : List Call

unfoldable pub answers : Calling → List Step
unfolding step
answers g = map (λ (c : Call). step g.card g.state c) g.calls

-- Each is refused and leaves everything as it was: a card of so many bytes, a header of these numbers, areas of these lengths.
abbrev pub refused : Refusal → List Call → (n m pairs card : ℕ) → Target
    → (bytes ranks pairs times live down estimates elapsed leaving groups : ℕ) → Case Calling (List Step)
refused why calls n m k c z b r p q l d e t g h =
    let s : State = record { header = header_of n m k c z; areas = full 7 r p q l d e t g h } in
    record { card = replicate b 7; state = s; calls = calls }
    ⇒ map (λ (c : Call). record { answer = Refused why; state = s; lent = c.lent }) calls

-- ---- scripts

-- a call, its answer, what it makes of the state, what the two lent areas then hold, and the junctions that demand 3 counts for a go that
-- searched
pub record Turn : Type 0 where
  pub call : Call
  pub answer : Answer
  pub after : State → State
  pub holds : Lent
  pub figure : List ℕ

-- a call that is refused and alters nothing
abbrev pub no : Refusal → Call → Turn
no q c = record { call = c; answer = Refused q; after = λ s. s; holds = c.lent; figure = [] }

-- another target, live times, down totals, estimates, elapsed
abbrev becoming : State → Target → (live down estimates elapsed : List ℕ) → State
becoming s z l d e t = record {
  header = header_of s.header.n s.header.m s.header.pairs s.header.card z;
  areas =
      areas_of
      s.areas.built.ranks s.areas.built.pairs s.areas.built.times
      l d e t
      s.areas.built.leaving s.areas.built.groups;
}

-- an accepted set, with the live times after it
abbrev pub set : (road time : ℕ) → (live : List ℕ) → Turn
set i t live = record {
  call = set_call i t;
  answer = Accepted;
  after = λ s. becoming s s.header.target live s.areas.aimed.down s.areas.aimed.estimates s.areas.trip.elapsed;
  holds = nothing;
  figure = [];
}

-- an accepted aim, with the down totals after it; each estimate becomes unasked
abbrev pub aim : (junction : ℕ) → (down : List ℕ) → Turn
aim j down = record {
  call = aim_call j;
  answer = Accepted;
  after = λ s. becoming s (At j) s.areas.live down (replicate (length down) □) s.areas.trip.elapsed;
  holds = nothing;
  figure = [];
}

-- an estimate and its answer, with the estimates after it
abbrev pub est : (junction time : ℕ) → (estimates : List ℕ) → Turn
est j t estimates = record {
  call = estimate_call j;
  answer = Estimated t;
  after = λ s. becoming s s.header.target s.areas.live s.areas.aimed.down estimates s.areas.trip.elapsed;
  holds = nothing;
  figure = [];
}

-- a change of so many tenths of a second
abbrev pub more : ℕ → Option ℤ
more k = some (pos k)

abbrev pub less : ℕ → Option ℤ
less k = some (neg_ℤ (pos k))

-- an accepted preview, lent twice n words: its totals now and with that time set and their change, with the estimates after it
abbrev pub preview : (class road time start : ℕ) → (present new : Total) → (change : Option ℤ) → (estimates : List ℕ) → Turn
preview v i t j present new change estimates = record {
  call = preview_call v i t j (2 * length estimates);
  answer = Previewed present new change;
  after = λ s. becoming s s.header.target s.areas.live s.areas.aimed.down estimates s.areas.trip.elapsed;
  holds = nothing;
  figure = [];
}

-- the words stand first, the rest is untouched
abbrev first : List ℕ → List ℕ → List ℕ
first l area = l ++ drop (length l) area

abbrev went : Answer → (class start : ℕ) → Lent → (roads log estimates elapsed : List ℕ) → Turn
went a v j l roads log estimates elapsed = record {
  call = go_call v j l;
  answer = a;
  after = λ s. becoming s s.header.target s.areas.live s.areas.aimed.down estimates elapsed;
  holds = record { route = first roads l.route; log = first log l.log };
  figure = log;
}

-- a go and its total, roads and log, with the estimates and elapsed after it
abbrev pub go : (class start : ℕ) → Lent → (total : ℕ) → (roads log estimates elapsed : List ℕ) → Turn
go v j l total roads log = went (Gone total (length log) (length roads)) v j l roads log

-- the same where no chain exists
abbrev pub lost : (class start : ℕ) → Lent → (log estimates elapsed : List ℕ) → Turn
lost v j l log = went (Refused (NoPath (length log))) v j l [] log

-- a leg of a list of stops: its total, and its number of roads
infix 70 ◌over◌
abbrev pub ◌over◌ : (total roads : ℕ) → Leg
t over k = record { total = t; roads = k }

abbrev called : Answer → (target class : ℕ) → (stops : List ℕ) → Lent → (roads log down estimates elapsed : List ℕ) → Turn
called a z v stops l roads log down estimates elapsed = record {
  call = stops_call v stops l;
  answer = a;
  after = λ s. becoming s (At z) s.areas.live down estimates elapsed;
  holds = record { route = first roads l.route; log = first log l.log };
  figure = [];
}

-- A list of stops, its legs and the whole total; the roads of all legs, what stands first in the log area, which may be more than the last
-- leg's log, and the down totals, estimates and elapsed after it. Its last stop is the target.
abbrev pub stops : (class : ℕ) → (stops : List ℕ) → Lent → (legs : List Leg) → (whole : ℕ)
    → (roads log down estimates elapsed : List ℕ) → Turn
stops v s l legs whole = called (Stopped legs whole) (get_or s (length s - 1) 0) v s l

-- the same where leg k, from 0, is the first that has no chain: its end is the target, the roads are those of the legs before it
abbrev pub stranded : (class : ℕ) → (stops : List ℕ) → Lent → (k : ℕ) → (roads log down estimates elapsed : List ℕ) → Turn
stranded v s l k = called (Refused (NoLeg k)) (get_or s (suc k) 0) v s l

-- A map that is prepared with room for so many pairs, the ranks, records and roads by tail that this leaves, and the turns that follow.
-- Where there are bytes for the roads, the card has a third section.
pub record Script : Type 0 where
  pub roads : List (List ℕ)
  pub order : List ℕ
  pub access : List ℕ
  pub room : ℕ
  pub ranks : List ℕ
  pub pairs : List (List ℕ)
  pub leaving : List ℕ
  pub groups : List ℕ
  pub turns : List Turn

-- Demand 3's figure for a go that was answered so, in the state before it: the junctions counted, in their order.
abbrev figure_of : CardMap → State → (class start : ℕ) → Answer → List ℕ
figure_of C s v j (Gone t c k) =
    let live = class_live C.access v (live_of s.areas.live) in
    let z = target_of s.header.target in
    effort_log C.map live j z (within_total C.map live j z t)
figure_of C s v j (Refused q) =
    let live = class_live C.access v (live_of s.areas.live) in
    let z = target_of s.header.target in
    cond (eqb q.question 15) (effort_log C.map live j z (reached_estimated C.map live j z)) []
figure_of C s v j Accepted = []
figure_of C s v j (Estimated t) = []
figure_of C s v j (Previewed a b d) = []
figure_of C s v j (Stopped legs t) = []

-- the same of any call; one that is no go has none
abbrev figure_after : CardMap → State → Asked → Answer → List ℕ
figure_after C s (Go v j) a = figure_of C s v j a
figure_after C s (Set i t) a = []
figure_after C s (Aim j) a = []
figure_after C s (Estimate j) a = []
figure_after C s (Preview v i t j w) a = []
figure_after C s (Stops v l) a = []

-- of each turn, in the states that the turns say
abbrev figures_of : CardMap → State → List Turn → List (List ℕ)
figures_of C s [] = []
figures_of C s (t ∷ l) = figure_after C s t.call.asked t.answer ∷ figures_of C (t.after s) l

-- what the definitions answer and leave: preparing, then each call
unfoldable pub played : Script → List Step
unfolding word_at body_at prepare step admits measured up_total offer_via offered below_or before better consider best_below next has_goal
    push
    extend run is first_via back_step back total_in way_in up down
played c =
    let k = card_with c.roads c.order c.access in
    let n = length c.order in
    let m = length c.roads in
    let p = prepare k (full 7 n (2 * c.room) (2 * c.room) m n n n m (suc n)) in
    p ∷ steps k p.state (map (λ (t : Turn). t.call) c.turns)

-- the state that an accepted preparing leaves
abbrev prepared : Script → State
prepared c =
    let n = length c.order in
    record {
      header = header_of n (length c.roads) (length c.pairs) (length (card_with c.roads c.order c.access)) Absent;
      areas =
          areas_of
          c.ranks (ranks_of c.pairs c.room) (times_of c.pairs c.room)
          (map (λ (r : List ℕ). get_or r 2 0) c.roads)
          (replicate n ∞) (replicate n □)
          (replicate n ∞)
          c.leaving c.groups;
    }

-- what the turns say, each going on from the state that the one before leaves
abbrev after : State → List Turn → List Step
after s [] = []
after s (t ∷ l) = let s' = t.after s in record { answer = t.answer; state = s'; lent = t.holds } ∷ after s' l

abbrev pub told : Script → List Step
told c = record { answer = Accepted; state = prepared c; lent = nothing } ∷ after (prepared c) c.turns

-- demand 3's figures of the turns
unfoldable pub figures : Script → List (List ℕ)
unfolding of_word dist direct filter range no_more is_number in_order sorted insert sooner smaller_or admits
figures c =
    let M = map_of (record { roads = row c.roads; order = c.order }) in
    figures_of (record { map = M; access = access_of c.access }) (prepared c) c.turns

-- The calls answer and leave what the turns say, and demand 3's figures are the logs that they say.
pub record Holds (c : Script) : Type 0 where
  pub plays : played c ≡ told c
  pub counts : figures c ≡ map (λ (t : Turn). t.figure) c.turns
