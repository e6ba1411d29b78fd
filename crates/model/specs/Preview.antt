-- Preview (document 02, A2): "What if that road took longer?" Definitions only.
use Rattle.std.specs.Prelude.{◌≡◌, ◌⊎◌, Bool, ◌||◌, List, ◌*◌, ℕ, eqb, ◌+ℤ◌, ◌-ℤ◌, pos, ℤ, length, set}
use Rattle.std.proofs.Math.Option.{Option, none, some}
use Rattle.graph.specs.Total.{Total}
use Rattle.graph.specs.Least.{IsLeast}
use Rattle.graph.specs.Search.{total_of}
use Rattle.graph.specs.Map.{Map, time_of}
use Rattle.model.specs.Word.{of_word}
use Rattle.model.specs.Types.{Answer, At, Lengths, Previewed, Refusal, Refused}
use Rattle.model.specs.Classes.{class_live, class_times}
use Rattle.model.specs.Card.{CardMap, and_then, ask}
use Rattle.model.specs.State.{Lent, State, Step, answering, leaving}
use Rattle.model.specs.Machine.{Known, LivePath, Machine, Told, target_of, telling}
use Rattle.model.specs.Set.{changed, set_refusal}
use Rattle.model.specs.Estimate.{Kept, estimate_refusal, filled, with_estimates}
use Rattle.model.specs.Go.{ask_class, asks, search_of}

-- ---- what is asked: a class, a road, a time and a start; a work area is lent with it

-- "Its work area of twice elapsed's entries"
abbrev pub work_size : (n : ℕ) → ℕ
work_size n = 2 * n

-- "Questions 9 to 13 apply": 9, of the work area; 18 (document 02, A6); 10 and 11, as a set asks them; 12 and 13, as an estimate does
unfoldable pub preview_refusal : Known → (class road time start work : ℕ) → Option Refusal
unfolding set_refusal estimate_refusal
preview_refusal k c i t j w = ask (eqb w (work_size k.n)) Lengths (ask_class c (and_then (set_refusal k i t) (estimate_refusal k j)))

-- ---- what it answers and leaves

-- "Where both exist, the change is a signed number of seconds, new total minus present total."; since A7 of tenths
abbrev pub change_of : (present new : Total) → Option ℤ
change_of none new = none
change_of (some a) none = none
change_of (some a) (some b) = some (pos b -ℤ pos a)

-- "a missing chain is an outcome here"
abbrev pub preview_answer : (present new : Total) → Answer
preview_answer a b = Previewed a b (change_of a b)

-- what either of two searches from the same start fills: at the live times, and with that time set
abbrev pub either_asks : Map → (live live' : List ℕ) → (start target : ℕ) → ℕ → Bool
either_asks M live live' s z v = asks M live s z v || asks M live' s z v

-- by two searches, at these times: "exactly the estimates that the two searches fill are added"; "Live times, target and elapsed stay"
abbrev pub preview_at : Map → State → (live live' : List ℕ) → (start : ℕ) → Lent → Step
preview_at M s live live' j l =
    let z = target_of s.header.target in
    let a = s.areas.aimed in
    answering (preview_answer (total_of (search_of M live j z)) (total_of (search_of M live' j z)))
    (leaving s s.header.target s.areas.live
    (with_estimates a (filled M z (either_asks M live live' j z) a.estimates)) s.areas.trip) l

-- "go's total now and with that time set"; document 02, A6: both of the class
abbrev pub preview_made : CardMap → State → (class road time start : ℕ) → Lent → Step
preview_made C s c i t j l =
    let live = s.areas.live in
    preview_at C.map s (class_times C.access c live) (class_times C.access c (set live i t)) j l

-- ---- what the plain machine does: the least total at the times in force, and at these with that one replaced; neither part changes

abbrev pub preview_told : CardMap → Machine → (class road time start : ℕ) → Told
preview_told C m c i t j =
    let z = target_of m.target in
    let live = class_live C.access c m.live in
    let live' = class_live C.access c (changed m.live i (of_word t)) in
    telling (preview_answer (time_of C.map live j z) (time_of C.map live' j z)) m

-- ---- what is right about it

-- both totals, from the start to the target in force, and their change
pub record TotalsRight (M : Map) (live live' : ℕ → Total) (start target : ℕ) (present new : Total) (change : Option ℤ) : Type 0 where
  -- least over the chains of open roads at the times in force, and none exactly if there is no such chain
  pub present_least : IsLeast (LivePath M live start target) present
  -- the same at the times with that one replaced
  pub new-least : IsLeast (LivePath M live' start target) new
  -- change and present total add up to the new one
  pub adds-up : (a b : ℕ) → present ≡ some a → new ≡ some b → (d : ℤ) × (change ≡ some d) × (d +ℤ pos a ≡ pos b)
  -- where a total is missing there is no change, not even 0
  pub absent : (present ≡ none) ⊎ (new ≡ none) → change ≡ none

abbrev pub PreviewRight : CardMap → Machine → (class road time start : ℕ) → Step → Type 0
PreviewRight C m c i t j u = (z : ℕ) → m.target ≡ At z → (a b : Total) (d : Option ℤ) → u.answer ≡ Previewed a b d
    → TotalsRight C.map (class_live C.access c m.live) (class_live C.access c (changed m.live i (of_word t))) j z a b d

-- ---- what it leaves in any state whose lengths fit: estimates, none that is filled; and the change is that of the totals answered

pub record PreviewWrites (s : State) (l : Lent) (r : Step) : Type 0 where
  pub leaves : r.state
      ≡ leaving s s.header.target s.areas.live
      (with_estimates s.areas.aimed r.state.areas.aimed.estimates) s.areas.trip
  pub lent : r.lent ≡ l
  pub kept : Kept s.areas.aimed.estimates r.state.areas.aimed.estimates
  pub change : (a b : Total) (c : Option ℤ) → r.answer ≡ Previewed a b c → c ≡ change_of a b

-- Its work area is no part of a step: what it holds before is not read, and "has free content afterwards". Its length stays, and a refused
-- preview leaves it as it was.
pub record WorkLeft (work work' : List ℕ) (answer : Answer) : Type 0 where
  pub length-stays : length work' ≡ length work
  pub refused : (q : Refusal) → answer ≡ Refused q → work' ≡ work
