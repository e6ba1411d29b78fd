-- A8 on map P: reports of several kinds, with what the unit answers, each shown to obey the theorem by citing it. Assumes nothing.
use Rattle.std.specs.Prelude.{◌≡◌, refl, true, List, [], ◌∷◌, ◌+◌, ◌<◌, ◌≤◌, ℕ, negsuc, pos, ℤ, length}
use Rattle.std.proofs.Math.Option.{Option, none, some}
use Rattle.std.proofs.Common.{arith}
use Rattle.graph.specs.Total.{Total}
use Rattle.model.specs.Word.{closed_word, none_word, of_word, unasked}
use Rattle.model.specs.Types.{Accepted, Answer, At, Gone, NoPath, Previewed, Refused}
use Rattle.model.specs.Limits.{classes}
use Rattle.model.specs.Card.{map_on}
use Rattle.model.specs.State.{State, prepare}
use Rattle.model.specs.Set.{settable}
use Rattle.model.specs.Go.{live_of}
use Rattle.model.specs.Calls.{aim_call, go_call, set_call}
use Rattle.model.specs.MapP.{areas_p, card_a, card_p, lent_p}
use Rattle.model.proofs.MapP.{accepted_p}
use Rattle.model.specs.Report.{Calls, CanGo, CanSet, Closes, LeftAccepted, Like, Moves, Opens, Reported, Reports, Room, no_report}
use Rattle.model.specs.Report.{one_more}
use Rattle.model.proofs.ReportProof.{report_closes, report_moves, report_opens}
use Rattle.model.proofs.ReportUse.{add_up}
use Rattle.model.proofs.ReportTurn.{like_self, turned}
use Rattle.model.specs.ReportP.{answers_to}

abbrev aimed_at : (card live estimates elapsed : List ℕ) → State
aimed_at card live e x = record {
  header = record { n = 4; m = 5; pairs = 5; card = length card; target = At 3 };
  areas = record {
    built = (prepare card (areas_p 5)).state.areas.built;
    live = live;
    aimed = record { down = none_word ∷ none_word ∷ none_word ∷ 0 ∷ []; estimates = e };
    trip = record { elapsed = x };
  };
}

-- road 2 takes 17 for 15: the trip takes 20 over road 1, and would take 27 over road 2
abbrev delayed : State
delayed = aimed_at card_p (10 ∷ 10 ∷ 17 ∷ 10 ∷ 20 ∷ []) (20 ∷ 10 ∷ 10 ∷ 0 ∷ []) (0 ∷ 10 ∷ none_word ∷ 20 ∷ [])

delayed-left : LeftAccepted card_p delayed
unfolding answers_to
delayed-left =
    let calls = aim_call 3 ∷ set_call 2 17 ∷ go_call 0 0 lent_p ∷ [] in
    record { areas = areas_p 5; accepted = accepted_p; calls = calls; leaves = refl }

-- then road 1 takes 14 for 10: the trip takes 24
abbrev again : State
again = aimed_at card_p (10 ∷ 14 ∷ 17 ∷ 10 ∷ 20 ∷ []) (20 ∷ 10 ∷ 10 ∷ 0 ∷ []) (0 ∷ 10 ∷ none_word ∷ 24 ∷ [])

again-left : LeftAccepted card_p again
unfolding answers_to
again-left =
    let calls = aim_call 3 ∷ set_call 2 17 ∷ set_call 1 14 ∷ go_call 0 0 lent_p ∷ [] in
    record { areas = areas_p 5; accepted = accepted_p; calls = calls; leaves = refl }

-- road 1 takes 30: the trip goes over road 2
abbrev jammed : State
jammed = aimed_at card_p (10 ∷ 30 ∷ 17 ∷ 10 ∷ 20 ∷ []) (20 ∷ 10 ∷ 10 ∷ 0 ∷ []) (0 ∷ 10 ∷ 17 ∷ 27 ∷ [])

jammed-left : LeftAccepted card_p jammed
unfolding answers_to
jammed-left =
    let calls = aim_call 3 ∷ set_call 2 17 ∷ set_call 1 30 ∷ go_call 0 0 lent_p ∷ [] in
    record { areas = areas_p 5; accepted = accepted_p; calls = calls; leaves = refl }

-- road 1 is closed
abbrev shut : State
shut = aimed_at card_p (10 ∷ closed_word ∷ 17 ∷ 10 ∷ 20 ∷ []) (20 ∷ 10 ∷ 10 ∷ 0 ∷ []) (0 ∷ 10 ∷ 17 ∷ 27 ∷ [])

shut-left : LeftAccepted card_p shut
unfolding answers_to
shut-left =
    let calls = aim_call 3 ∷ set_call 2 17 ∷ set_call 1 closed_word ∷ go_call 0 0 lent_p ∷ [] in
    record { areas = areas_p 5; accepted = accepted_p; calls = calls; leaves = refl }

-- both ways are closed
abbrev cut : State
cut = aimed_at card_p (10 ∷ closed_word ∷ closed_word ∷ 10 ∷ 20 ∷ []) (20 ∷ 10 ∷ unasked ∷ 0 ∷ []) (0 ∷ 10 ∷ none_word ∷ none_word ∷ [])

cut_left : LeftAccepted card_p cut
unfolding answers_to
cut_left =
    let calls = aim_call 3 ∷ set_call 2 closed_word ∷ set_call 1 closed_word ∷ go_call 0 0 lent_p ∷ [] in
    record { areas = areas_p 5; accepted = accepted_p; calls = calls; leaves = refl }

accepted_a : (prepare card_a (areas_p 5)).answer ≡ Accepted
unfolding answers_to
accepted_a = refl

-- as `delayed`, and road 1 bars class 0
abbrev barred : State
barred = aimed_at card_a (10 ∷ 10 ∷ 17 ∷ 10 ∷ 20 ∷ []) (20 ∷ 10 ∷ 10 ∷ 0 ∷ []) (0 ∷ 10 ∷ 17 ∷ 27 ∷ [])

barred-left : LeftAccepted card_a barred
unfolding answers_to
barred-left =
    let calls = aim_call 3 ∷ set_call 2 17 ∷ go_call 0 0 lent_p ∷ [] in
    record { areas = areas_p 5; accepted = accepted_a; calls = calls; leaves = refl }

-- areas of 4 entries have room
room_p : (s : State) → s.header.n ≡ 4 → Room s lent_p
room_p s e = record { route = omega (arith, e); log = omega (arith, e) }

-- a report on a map of 4 junctions, aimed at 3: a class from 0, road i set to u; the four calls are made in turn, and the theorem cited
module _ {card : List ℕ} {s : State} (left : LeftAccepted card s) (n-is : s.header.n ≡ 4) (aimed : s.header.target ≡ At 3) (c i u : ℕ)
    (lc : c < classes) (li : i < s.header.m) (time_in : settable ((map_on card).base.cost i) (of_word u) ≡ true) where
  can : CanGo s c 0
  can = record { class_in = lc; start_in = omega (arith, n-is); target = 3; aimed = aimed }

  may : CanSet card s i u
  may = record { road_in = li; time_in = time_in }

  abbrev made : Calls card s c i u 0
  made = turned left can may (room_p s n-is)

  abbrev Obeys : ((now new : Total) → Option ℤ → Type 0) → Type 0
  Obeys R = Reported R made.go.done.answer made.then.done.answer made.preview.done.answer

  moved : (t : ℕ) → live_of s.areas.live i ≡ some t → u < none_word → Obeys (Moves t u)
  moved = report_moves left can may made

  closed : u ≡ closed_word → Obeys Closes
  closed = report_closes left can may made

  opened : live_of s.areas.live i ≡ none → Obeys Opens
  opened = report_opens left can may made

-- ---- the reports

-- what the unit answers to the four calls, in turn, and that it obeys R
abbrev Example : (R : (now new : Total) → Option ℤ → Type 0) → (card : List ℕ) → State → (class road time : ℕ)
    → (before preview after : Answer) → Type 0
Example R card s c i u b p a = (answers_to card s c i u ≡ b ∷ p ∷ Accepted ∷ a ∷ []) × Reported R b a p

-- road 1 up by 4: the trip takes 4 more
pub all_of_it : Example (Moves 10 14) card_p delayed 0 1 14 (Gone 20 3 2) (Previewed (some 20) (some 24) (some (pos 4))) (Gone 24 3 2)
unfolding answers_to
all_of_it = (refl, moved delayed-left refl refl 0 1 14 (omega arith) (omega arith) refl 10 refl (omega arith))

-- road 1 up by 10: 7 more, over road 2
pub part_of_it : Example (Moves 10 20) card_p delayed 0 1 20 (Gone 20 3 2) (Previewed (some 20) (some 27) (some (pos 7))) (Gone 27 4 2)
unfolding answers_to
part_of_it = (refl, moved delayed-left refl refl 0 1 20 (omega arith) (omega arith) refl 10 refl (omega arith))

-- road 4, which is not on the way, up by 10
pub none_of_it : Example (Moves 20 30) card_p delayed 0 4 30 (Gone 20 3 2) (Previewed (some 20) (some 20) (some (pos 0))) (Gone 20 3 2)
unfolding answers_to
none_of_it = (refl, moved delayed-left refl refl 0 4 30 (omega arith) (omega arith) refl 20 refl (omega arith))

-- road 1 set to the time that it has
pub no_news : Example (Moves 10 10) card_p delayed 0 1 10 (Gone 20 3 2) (Previewed (some 20) (some 20) (some (pos 0))) (Gone 20 3 2)
unfolding answers_to
no_news = (refl, moved delayed-left refl refl 0 1 10 (omega arith) (omega arith) refl 10 refl (omega arith))

-- after the first of these, road 0 up by 10: 3 more
pub again_part : Example (Moves 10 20) card_p again 0 0 20 (Gone 24 3 2) (Previewed (some 24) (some 27) (some (pos 3))) (Gone 27 3 2)
unfolding answers_to
again_part = (refl, moved again-left refl refl 0 0 20 (omega arith) (omega arith) refl 10 refl (omega arith))

-- road 2 down by 2: 2 less
pub all_back : Example (Moves 17 15) card_p jammed 0 2 15 (Gone 27 4 2) (Previewed (some 27) (some 25) (some (negsuc 1))) (Gone 25 4 2)
unfolding answers_to
all_back = (refl, moved jammed-left refl refl 0 2 15 (omega arith) (omega arith) refl 17 refl (omega arith))

-- road 1 down by 20: 7 less
pub part-back : Example (Moves 30 10) card_p jammed 0 1 10 (Gone 27 4 2) (Previewed (some 27) (some 20) (some (negsuc 6))) (Gone 20 3 2)
unfolding answers_to
part-back = (refl, moved jammed-left refl refl 0 1 10 (omega arith) (omega arith) refl 30 refl (omega arith))

-- road 1 down by 5: it is not on the way
pub none-back : Example (Moves 30 25) card_p jammed 0 1 25 (Gone 27 4 2) (Previewed (some 27) (some 27) (some (pos 0))) (Gone 27 4 2)
unfolding answers_to
none-back = (refl, moved jammed-left refl refl 0 1 25 (omega arith) (omega arith) refl 30 refl (omega arith))

-- where there is no route, road 0 up by 2
pub no-route : Example (Moves 10 12) card_p cut 0 0 12 (Refused (NoPath 2)) (Previewed none none none) (Refused (NoPath 2))
unfolding answers_to
no-route = (refl, moved cut_left refl refl 0 0 12 (omega arith) (omega arith) refl 10 refl (omega arith))

-- road 1 closed: 7 more
pub closing : Example Closes card_p delayed 0 1 closed_word (Gone 20 3 2) (Previewed (some 20) (some 27) (some (pos 7))) (Gone 27 4 2)
unfolding answers_to
closing = (refl, closed delayed-left refl refl 0 1 closed_word (omega arith) (omega arith) refl refl)

-- the other way closed too: the route is lost
pub closing-both : Example Closes card_p shut 0 2 closed_word (Gone 27 4 2) (Previewed (some 27) none none) (Refused (NoPath 2))
unfolding answers_to
closing-both = (refl, closed shut-left refl refl 0 2 closed_word (omega arith) (omega arith) refl refl)

-- road 1 open again: 7 less
pub opening : Example Opens card_p shut 0 1 10 (Gone 27 4 2) (Previewed (some 27) (some 20) (some (negsuc 6))) (Gone 20 3 2)
unfolding answers_to
opening = (refl, opened shut-left refl refl 0 1 10 (omega arith) (omega arith) refl refl)

-- one of two closed ways open again: a route is found
pub opening-one : Example Opens card_p cut 0 2 17 (Refused (NoPath 2)) (Previewed none (some 27) none) (Gone 27 4 2)
unfolding answers_to
opening-one = (refl, opened cut_left refl refl 0 2 17 (omega arith) (omega arith) refl refl)

-- on the map with classes: class 1 uses road 1, which goes up by 10
pub class-one : Example (Moves 10 20) card_a barred 1 1 20 (Gone 20 3 2) (Previewed (some 20) (some 27) (some (pos 7))) (Gone 27 4 2)
unfolding answers_to
class-one = (refl, moved barred-left refl refl 1 1 20 (omega arith) (omega arith) refl 10 refl (omega arith))

-- class 0 does not: the same report moves nothing
pub class-zero : Example (Moves 10 20) card_a barred 0 1 20 (Gone 27 4 2) (Previewed (some 27) (some 27) (some (pos 0))) (Gone 27 4 2)
unfolding answers_to
class-zero = (refl, moved barred-left refl refl 0 1 20 (omega arith) (omega arith) refl 10 refl (omega arith))

-- the first of these reports, and then the one on road 0: 27 is at most 14 more than 20, and no less
pub two_reports : (T c k : ℕ) × (Gone 27 3 2 ≡ Gone T c k) × (T ≤ 20 + 14) × (20 ≤ T + 0)
unfolding answers_to
two_reports =
    let can : CanGo delayed 0 0 = record { class_in = omega arith; start_in = omega arith; target = 3; aimed = refl } in
    let can' : CanGo again 0 0 = record { class_in = omega arith; start_in = omega arith; target = 3; aimed = refl } in
    let may : CanSet card_p delayed 1 14 = record { road_in = omega arith; time_in = refl } in
    let may' : CanSet card_p again 0 20 = record { road_in = omega arith; time_in = refl } in
    let one = turned delayed-left can may (room_p delayed refl) in
    let two = turned again-left can' may' (room_p again refl) in
    let between : Like card_p one.set.done.state again = record { reached = again-left; live = refl; target = refl } in
    let first : Reports card_p delayed again 4 0 =
    one_more {t = 10} (no_report (like_self delayed-left)) may refl (omega arith) one.set between in
    let both : Reports card_p delayed two.then.from 14 0 =
    one_more {t = 10} first may' refl (omega arith) two.set two.then.like in
    add_up {T = 20} delayed-left can both one.go one.room two.then (room_p delayed refl) refl
