-- Map P of document 01 through the definitions: its card, the cases P1 to P10 as one table with one proof over it, what their answers do
-- not show, previews and lists of stops (document 02, A2 and A3); and maps whose keys tie (A5). Assumes nothing.
use Rattle.std.specs.Prelude.{◌≡◌, refl, List, [], ◌++◌, ◌∷◌, map, ℕ, negsuc, pos, ℤ, length, replicate}
use Rattle.std.proofs.Math.Option.{Option, none, some}
use Rattle.graph.specs.Total.{Total, is_number, no_more}
use Rattle.graph.specs.Least.{measured}
use Rattle.graph.specs.Lists.{count_below, filter, range}
use Rattle.graph.specs.Network.{direct}
use Rattle.graph.specs.Level.{dist}
use Rattle.graph.specs.Pairs.{down, up}
use Rattle.graph.specs.Reach.{up_total}
use Rattle.graph.specs.Search.{back, back_step, before, below_or, best_below, better, consider, extend, first_via}
use Rattle.graph.specs.Search.{has_goal, is, next, offer_via, offered, push, run, total_in, way_in}
use Rattle.graph.specs.Sorted.{insert, sorted}
use Rattle.graph.specs.LogOrder.{in_order, smaller_or, sooner}
use Rattle.model.specs.Word.{closed_word, none_word, of_word, unasked}
use Rattle.model.specs.Types.{Absent, Accepted, At, Gone, Leg, Lengths, LentLengths, NoClass, NoJunction, NoLeg}
use Rattle.model.specs.Types.{NoRoad, NoTarget, NotAllowed, Place, Previewed, Read, Refusal, Refused, StopCount}
use Rattle.model.specs.Types.{Stopped, Unreadable}
use Rattle.model.specs.Bytes.{word_at, words_at}
use Rattle.model.specs.Layout.{body_at, names}
use Rattle.model.specs.Classes.{admits}
use Rattle.model.specs.Card.{card_map, card_of, card_refusal, map_on, read_card, rows_of}
use Rattle.model.specs.Areas.{Areas, areas_of}
use Rattle.model.specs.State.{Lent, State, none_lent, prepare, zero_header}
use Rattle.model.specs.Machine.{started}
use Rattle.model.specs.Go.{effort, live_of}
use Rattle.model.specs.Calls.{Call, aim_call, estimate_call, go_call, preview_call, set_call, step, steps, stops_call}
use Rattle.model.specs.Calls as calls
use Rattle.model.specs.Demand3.{Demand3}
use Rattle.model.proofs.Proof3.{demand3}
use Rattle.model.specs.MapP.{rows_p, card_p, areas_p, lent_p, Reply, reply_of, replies_of, computed, records_p, times_p, says, ok, est}
use Rattle.model.specs.MapP.{gone, table, card_a, figured, computed_tie, tie_table}

-- "Card: 104 bytes; words 2, 1, 28, 60, 2, 88, 16, then bodies." Its map and its sizes come back.
pub card_p-is :
    (length card_p ≡ 104) × (words_at card_p 0 26 ≡ (2 ∷ 1 ∷ 28 ∷ 60 ∷ 2 ∷ 88 ∷ 16 ∷ []) ++ rows_p.roads ++ rows_p.order)
    × (rows_of card_p ≡ rows_p) × (read_card card_p ≡ Read 4 5)
unfolding word_at body_at card_refusal
card_p-is = (refl, refl, refl, refl)

-- P1 to P10: the definitions answer every case of the table as it stands
pub cases : map computed table ≡ table
unfolding word_at body_at admits prepare step measured up_total offer_via offered below_or before better consider best_below next
    has_goal push extend run is first_via back_step back total_in way_in up down
cases = refl

-- ---- what the table does not show: the header and all areas, and a list that goes on

-- the roads by the junction they leave
abbrev leaving_p : List ℕ
leaving_p = 0 ∷ 2 ∷ 1 ∷ 3 ∷ 4 ∷ []

abbrev groups_p : List ℕ
groups_p = 0 ∷ 2 ∷ 3 ∷ 4 ∷ 5 ∷ []

-- preparing with room for 6 pairs, and for 4
pub prepared_P :
    ((prepare card_p (areas_p 6)).state
    ≡ record {
      header = record { n = 4; m = 5; pairs = 5; card = 104; target = Absent };
      areas = record {
        built = record {
          ranks = 2 ∷ 0 ∷ 1 ∷ 3 ∷ [];
          pairs = records_p ++ replicate 2 0;
          times = times_p ++ replicate 2 0;
          leaving = leaving_p;
          groups = groups_p;
        };
        live = 10 ∷ 10 ∷ 15 ∷ 10 ∷ 20 ∷ [];
        aimed = record { down = replicate 4 none_word; estimates = replicate 4 unasked };
        trip = record { elapsed = replicate 4 none_word };
      };
    })
    × ((prepare card_p (areas_p 4)).state
    ≡ record {
      header = zero_header;
      areas =
          areas_of (replicate 4 0) (replicate 8 0) (replicate 8 0) (replicate 5 0) (replicate 4 0) (replicate 4 0) (replicate 4 0)
          (replicate 5 0) (replicate 5 0);
    })
unfolding word_at body_at admits prepare measured up down
prepared_P = (refl, refl)

-- a trip; then road 1 is delayed, which no estimate shows, and closed,
-- and the trip is another; then the target is another, and the trip too
abbrev trips : List Call
trips = aim_call 3 ∷ go_call 0 0 lent_p ∷ set_call 1 15 ∷ estimate_call 0 ∷ set_call 1 closed_word ∷ go_call 0 0 lent_p ∷ aim_call 1
    ∷ go_call 0 0 lent_p ∷ []

pub trips_P :
    (replies_of (prepare card_p (areas_p 5)).state trips
    ≡ ok ∷ gone (Gone 20 3 2) (0 ∷ 1 ∷ 7 ∷ 7 ∷ []) (0 ∷ 1 ∷ 3 ∷ 7 ∷ [])
    ∷ ok ∷ est 20
    ∷ ok ∷ gone (Gone 25 4 2) (2 ∷ 3 ∷ 7 ∷ 7 ∷ []) (0 ∷ 1 ∷ 2 ∷ 3 ∷ [])
    ∷ ok ∷ gone (Gone 10 2 1) (0 ∷ 7 ∷ 7 ∷ 7 ∷ []) (0 ∷ 1 ∷ 7 ∷ 7 ∷ []) ∷ [])
    × (calls.run card_p (prepare card_p (areas_p 5)).state trips
    ≡ record {
      header = record { n = 4; m = 5; pairs = 5; card = 104; target = At 1 };
      areas = record {
        built = record { ranks = 2 ∷ 0 ∷ 1 ∷ 3 ∷ []; pairs = records_p; times = times_p; leaving = leaving_p; groups = groups_p };
        live = 10 ∷ closed_word ∷ 15 ∷ 10 ∷ 20 ∷ [];
        aimed = record { down = 10 ∷ 0 ∷ none_word ∷ 30 ∷ []; estimates = 10 ∷ 0 ∷ 40 ∷ 30 ∷ [] };
        trip = record { elapsed = 0 ∷ 10 ∷ none_word ∷ none_word ∷ [] };
      };
    })
unfolding word_at body_at admits prepare step measured up_total offer_via offered below_or before better consider best_below next
    has_goal push extend run is first_via back_step back total_in way_in up down
trips_P = (refl, refl)

-- document 02, A2: previews to target 3 from 0, with a work area of 8 entries
abbrev shown : (present new : Total) → (change : Option ℤ) → Reply
shown a b c = says (Previewed a b c)

-- road 1 at 15, road 4 at 30; then, road 1 being closed: road 1 open again, road 4 at 30, road 2 closed; then, both being closed, road 2
-- open again. Between them nothing is set and no trip is made.
abbrev previews : List Call
previews = aim_call 3
    ∷ preview_call 0 1 15 0 8 ∷ preview_call 0 4 30 0 8
    ∷ set_call 1 closed_word
    ∷ preview_call 0 1 10 0 8 ∷ preview_call 0 4 30 0 8 ∷ preview_call 0 2 closed_word 0 8
    ∷ set_call 2 closed_word ∷ aim_call 3
    ∷ preview_call 0 2 15 0 8 ∷ []

-- the last search finds no way now, and the one with road 2 open asks for all junctions
pub previews_P :
    (replies_of (prepare card_p (areas_p 5)).state previews
    ≡ ok
    ∷ shown (some 20) (some 25) (some (pos 5)) ∷ shown (some 20) (some 20) (some (pos 0))
    ∷ ok
    ∷ shown (some 25) (some 20) (some (negsuc 4)) ∷ shown (some 25) (some 25) (some (pos 0)) ∷ shown (some 25) none none
    ∷ ok ∷ ok
    ∷ shown none (some 25) none ∷ [])
    × (calls.run card_p (prepare card_p (areas_p 5)).state previews
    ≡ record {
      header = record { n = 4; m = 5; pairs = 5; card = 104; target = At 3 };
      areas = record {
        built = record { ranks = 2 ∷ 0 ∷ 1 ∷ 3 ∷ []; pairs = records_p; times = times_p; leaving = leaving_p; groups = groups_p };
        live = 10 ∷ closed_word ∷ closed_word ∷ 10 ∷ 20 ∷ [];
        aimed = record { down = none_word ∷ none_word ∷ none_word ∷ 0 ∷ []; estimates = 20 ∷ 10 ∷ 10 ∷ 0 ∷ [] };
        trip = record { elapsed = replicate 4 none_word };
      };
    })
unfolding word_at body_at admits prepare step measured up_total offer_via offered below_or before better consider best_below next
    has_goal push extend run is first_via back_step back total_in way_in up down
previews_P = (refl, refl)

-- the questions in their order: a work area too short and one too long, the road, the time (by the base time, whatever the live time is),
-- the start, the target
pub preview_questions_P :
    replies_of (prepare card_p (areas_p 5)).state
    (preview_call 0 5 9 4 7 ∷ preview_call 0 5 9 4 9 ∷ preview_call 0 5 9 4 8 ∷ preview_call 0 0 9 4 8 ∷ set_call 0 20
    ∷ preview_call 0 0 10 4 8 ∷ preview_call 0 0 10 3 8 ∷ [])
    ≡ says (Refused Lengths) ∷ says (Refused Lengths) ∷ says (Refused NoRoad) ∷ says (Refused NotAllowed) ∷ ok
    ∷ says (Refused NoJunction) ∷ says (Refused NoTarget) ∷ []
unfolding word_at body_at admits prepare step measured up_total up down
preview_questions_P = refl

-- document 02, A3: lists of stops; route and log areas in which 7 stands everywhere
abbrev lent_for : (route log : ℕ) → Lent
lent_for r l = record { route = replicate r 7; log = replicate l 7 }

abbrev leg : (total roads : ℕ) → Leg
leg t k = record { total = t; roads = k }

abbrev refused_with : Refusal → (route log : ℕ) → Reply
refused_with q r l = record { answer = Refused q; lent = lent_for r l }

-- aimed at 0, after a search that made these estimates and times
abbrev aimed_home : (live estimates elapsed : List ℕ) → State
aimed_home live e x = record {
  header = record { n = 4; m = 5; pairs = 5; card = 104; target = At 0 };
  areas = record {
    built = record { ranks = 2 ∷ 0 ∷ 1 ∷ 3 ∷ []; pairs = records_p; times = times_p; leaving = leaving_p; groups = groups_p };
    live = live;
    aimed = record { down = 0 ∷ none_word ∷ none_word ∷ 20 ∷ []; estimates = e };
    trip = record { elapsed = x };
  };
}

abbrev there_and_back : Call
there_and_back = stops_call 0 (0 ∷ 3 ∷ 0 ∷ []) (lent_for 12 4)

-- There and back: the roads 0, 1 of the first leg are followed by 4; its log 0, 1, 3 stands behind the second's, 3, 0, where that is
-- shorter. With road 4 closed the second leg has no chain; its search, which logs 3, is the last one. A leg from a stop to itself has no
-- roads.
pub stops_P :
    (replies_of (prepare card_p (areas_p 5)).state
    (there_and_back ∷ set_call 4 closed_word ∷ there_and_back ∷ stops_call 0 (0 ∷ 0 ∷ []) (lent_for 8 4) ∷ [])
    ≡ gone (Stopped (leg 20 2 ∷ leg 20 1 ∷ []) 40) (0 ∷ 1 ∷ 4 ∷ replicate 9 7) (3 ∷ 0 ∷ 3 ∷ 7 ∷ [])
    ∷ ok ∷ gone (Refused (NoLeg 1)) (0 ∷ 1 ∷ replicate 10 7) (3 ∷ 1 ∷ 3 ∷ 7 ∷ [])
    ∷ gone (Stopped (leg 0 0 ∷ []) 0) (replicate 8 7) (0 ∷ 7 ∷ 7 ∷ 7 ∷ []) ∷ [])
    × (calls.run card_p (prepare card_p (areas_p 5)).state (there_and_back ∷ [])
    ≡ aimed_home (10 ∷ 10 ∷ 15 ∷ 10 ∷ 20 ∷ []) (0 ∷ unasked ∷ unasked ∷ 20 ∷ []) (20 ∷ none_word ∷ none_word ∷ 0 ∷ []))
    × (calls.run card_p (prepare card_p (areas_p 5)).state (set_call 4 closed_word ∷ there_and_back ∷ [])
    ≡ aimed_home (10 ∷ 10 ∷ 15 ∷ 10 ∷ closed_word ∷ []) (unasked ∷ unasked ∷ unasked ∷ 20 ∷ [])
    (none_word ∷ none_word ∷ none_word ∷ 0 ∷ []))
unfolding word_at body_at admits prepare step measured up_total offer_via offered below_or before better consider best_below next
    has_goal push extend run is first_via back_step back total_in way_in up down
stops_P = (refl, refl, refl)

-- the questions in their order: one stop and 33, whatever they are; a stop that is no junction, whatever is lent; a route area too short
-- for 32 stops and for 3, a log area too short. None of them alters anything.
abbrev refused_stops : List Call
refused_stops =
    stops_call 0 (0 ∷ []) (lent_for 12 4) ∷ stops_call 0 (replicate 33 9) (lent_for 12 4)
    ∷ stops_call 0 (0 ∷ 9 ∷ 0 ∷ []) (lent_for 11 3) ∷ stops_call 0 (replicate 32 0) (lent_for 127 4)
    ∷ stops_call 0 (0 ∷ 3 ∷ 0 ∷ []) (lent_for 11 4) ∷ stops_call 0 (0 ∷ 3 ∷ 0 ∷ []) (lent_for 12 3) ∷ []

pub stops_questions_P :
    (replies_of (prepare card_p (areas_p 5)).state refused_stops
    ≡ refused_with StopCount 12 4 ∷ refused_with StopCount 12 4
    ∷ refused_with NoJunction 11 3 ∷ refused_with LentLengths 127 4
    ∷ refused_with LentLengths 11 4 ∷ refused_with LentLengths 12 3 ∷ [])
    × (calls.run card_p (prepare card_p (areas_p 5)).state refused_stops ≡ (prepare card_p (areas_p 5)).state)
unfolding word_at body_at admits prepare step measured up_total up down
stops_questions_P = (refl, refl)

abbrev replies_a : State → List Call → List Reply
replies_a s [] = []
replies_a s (c ∷ l) = let r = step card_a s c in reply_of r ∷ replies_a r.state l

-- Estimates are over all roads. For class 0 road 1 counts as closed: in a go, in a preview of road 2 (26 for 25) and of road 1 itself, and
-- in a list of stops; for classes 1 and 7 it does not, in the go right after. 18 comes right after 9, in a list of stops after 16.
abbrev class_calls : List Call
class_calls = aim_call 3 ∷ estimate_call 0 ∷ go_call 0 0 lent_p ∷ go_call 1 0 lent_p ∷ go_call 7 0 lent_p
    ∷ preview_call 0 2 16 0 8 ∷ preview_call 0 1 12 0 8 ∷ preview_call 1 1 12 0 8 ∷ stops_call 0 (0 ∷ 3 ∷ []) (lent_for 8 4)
    ∷ go_call 8 9 none_lent ∷ preview_call 8 9 9 9 8 ∷ preview_call 8 9 9 9 7 ∷ stops_call 8 (9 ∷ 9 ∷ []) none_lent ∷ stops_call 8 []
    none_lent ∷ []

pub classes_P :
    (read_card card_a ≡ Read 4 5) × (rows_of card_a ≡ rows_p)
    × ((prepare card_a (areas_p 5)).state.header ≡ record { n = 4; m = 5; pairs = 5; card = 121; target = Absent })
    × (replies_a (prepare card_a (areas_p 5)).state class_calls
    ≡ ok ∷ est 20
    ∷ gone (Gone 25 4 2) (2 ∷ 3 ∷ 7 ∷ 7 ∷ []) (0 ∷ 1 ∷ 2 ∷ 3 ∷ [])
    ∷ gone (Gone 20 3 2) (0 ∷ 1 ∷ 7 ∷ 7 ∷ []) (0 ∷ 1 ∷ 3 ∷ 7 ∷ [])
    ∷ gone (Gone 20 3 2) (0 ∷ 1 ∷ 7 ∷ 7 ∷ []) (0 ∷ 1 ∷ 3 ∷ 7 ∷ [])
    ∷ shown (some 25) (some 26) (some (pos 1)) ∷ shown (some 25) (some 25) (some (pos 0)) ∷ shown (some 20) (some 22) (some (pos 2))
    ∷ gone (Stopped (leg 25 2 ∷ []) 25) (2 ∷ 3 ∷ replicate 6 7) (0 ∷ 1 ∷ 2 ∷ 3 ∷ [])
    ∷ says (Refused NoClass) ∷ says (Refused NoClass) ∷ says (Refused Lengths) ∷ says (Refused NoClass) ∷ says (Refused StopCount) ∷ [])
unfolding word_at body_at names card_refusal admits prepare step measured up_total offer_via offered below_or before better consider
    best_below next has_goal push extend run is first_via back_step back total_in way_in up down
classes_P = (refl, refl, refl, refl)

-- an aim makes each estimate unasked again
pub aims-again :
    (calls.run card_p (prepare card_p (areas_p 5)).state (aim_call 3 ∷ estimate_call 0 ∷ aim_call 1 ∷ [])).areas.aimed.estimates
    ≡ replicate 4 unasked
unfolding word_at body_at admits prepare step measured up_total up down
aims-again = refl

-- road 0 from 0 to 1, road 1 from 1 to 2, and 0 has the highest rank: a go from 0 to 1 fills 1 and, above it, 2, which has no estimate
abbrev card_q : List ℕ
card_q = card_of (record { roads = 0 ∷ 1 ∷ 5 ∷ 1 ∷ 2 ∷ 5 ∷ []; order = 1 ∷ 2 ∷ 0 ∷ [] })

abbrev areas_q : Areas
areas_q =
    areas_of (replicate 3 7) (replicate 6 7) (replicate 6 7) (replicate 2 7) (replicate 3 7) (replicate 3 7) (replicate 3 7) (replicate 2 7)
    (replicate 4 7)

pub go-fills :
    (calls.run card_q (prepare card_q areas_q).state (aim_call 1 ∷ go_call 0 0 lent_p ∷ [])).areas.aimed.estimates ≡ 5 ∷ 0 ∷ none_word ∷ []
unfolding word_at body_at admits prepare step measured up_total offer_via offered below_or before better consider best_below next
    has_goal push extend run is first_via back_step back total_in way_in up down
go-fills = refl

-- an order with junction 1 twice
pub repeated : read_card (card_of (record { roads = []; order = 1 ∷ 0 ∷ 1 ∷ [] })) ≡ Unreadable (Place 2)
unfolding word_at body_at card_refusal
repeated = refl

pub ties : map computed_tie tie_table ≡ tie_table
unfolding word_at body_at admits prepare step measured up_total offer_via offered below_or before better consider best_below next
    has_goal push extend run is first_via back_step back total_in way_in up down dist direct count_below filter range no_more is_number
    in_order
    sorted insert sooner smaller_or
ties = refl

-- the figures of P5 to P8 and of P10, which the table has as counts
abbrev figure_p : (live : List ℕ) → (start : ℕ) → Total → ℕ
figure_p live s t = effort (map_on card_p) (figured t (map_on card_p) (live_of live) s 3)

pub figures_P :
    figure_p (10 ∷ 10 ∷ 15 ∷ 10 ∷ 20 ∷ []) 0 (some 20)
    ∷ figure_p (10 ∷ closed_word ∷ 15 ∷ 10 ∷ 20 ∷ []) 0 (some 25)
    ∷ figure_p (10 ∷ 15 ∷ 15 ∷ 10 ∷ 20 ∷ []) 0 (some 25)
    ∷ figure_p (10 ∷ 10 ∷ 15 ∷ 10 ∷ 20 ∷ []) 3 (some 0)
    ∷ figure_p (10 ∷ closed_word ∷ closed_word ∷ 10 ∷ 20 ∷ []) 0 none
    ∷ []
    ≡ 3 ∷ 4 ∷ 4 ∷ 1 ∷ 2 ∷ []
unfolding word_at body_at of_word dist direct count_below filter range no_more is_number
figures_P = refl

-- ---- demand 3 speaks of map P: its preparing is accepted

pub accepted_p : (prepare card_p (areas_p 5)).answer ≡ Accepted
unfolding word_at body_at admits prepare measured up down
accepted_p = refl

pub demand3_P : (l : List Call) → Demand3 (card_map card_p) (started (map_on card_p)) l (steps card_p (prepare card_p (areas_p 5)).state l)
demand3_P l = demand3 card_p (areas_p 5) accepted_p l
