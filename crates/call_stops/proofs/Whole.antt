-- A list of stops as a call: one that a question refuses (`stops-refused`), and one whose legs were made (`stops-met`), meet the contract.
-- Assumes nothing.
use mathlib.Core.Path.{◌∙◌, ◌≡◌, ap, subst, sym}
use mathlib.Core.Bool.{◌&&◌, true}
use mathlib.Core.Option.{none}
use mathlib.Core.List.{List}
use Prim.Native.Nat.{ℕ}
use borrow.Author.Tests.{leb-true}
use lib.Dec.{leb}
use lib.ListN.{length}
use native.Mathlib.Omega.{arith}
use Rattle.graph.proofs.Total.{and_true}
use Rattle.std.specs.Prelude.{Err, Ok, Result}
use Rattle.model.specs.Types as model
use Rattle.model.specs.Limits.{fewest_stops, most_stops}
use Rattle.model.specs.Areas.{Areas, Each, lengths}
use Rattle.model.specs.State.{Lent}
use Rattle.model.specs.Stops.{stops_refusal}
use Rattle.model.specs.Calls.{Stops, calling, refusal_by}
use Rattle.model.specs.Promises.{base_on}
use Rattle.model.proofs.Laws.{ask-none}
use Rattle.network.specs.Refusals.{verdict_in}
use Rattle.network.specs.declared.Refusal.{Refusal}
use Rattle.unit_questions.specs.Lending.{fits_by}
use Rattle.calls.specs.Shape.{Held, header_in}
use Rattle.calls.specs.Meets.{asks}
use Rattle.calls.specs.Refused.{made-left, refused-by}
use Rattle.call_stops.specs.declared.Visited.{Visited}
use Rattle.call_stops.specs.Legs.{Journeys, CalledStops, RoomFor}
use Rattle.call_stops.proofs.Turns.{zeros}

-- no question refuses
pub record ListPassed (card : List ℕ) (h : model.Header) (l : Each ℕ) (c : ℕ) (stops : List ℕ) (lent : Lent) : Type 0 where
  pub fits : fits_by h card l ≡ true
  pub asked : refusal_by (base_on card) h (calling (Stops c stops) lent) ≡ none

module _ {card : List ℕ} {h : model.Header} {l : Each ℕ} {c : ℕ} {stops : List ℕ} {lent : Lent} where
  pub list_passed : {x : Result Unit Refusal} {u : Unit} → x ≡ Ok u
      → verdict_in x ≡ asks (base_on card) h card l (Stops c stops) (length lent.route) (length lent.log)
      → ListPassed card h l c stops lent
  list_passed passes says =
      let (f, e) = ask-none (fits_by h card l) model.Lengths (refusal_by (base_on card) h (calling (Stops c stops) lent))
      (sym says ∙ ap verdict_in passes) in
      record { fits = f; asked = e }

  -- 16 has passed
  pub room_for : ListPassed card h l c stops lent → RoomFor stops
  unfolding stops_refusal
  room_for p =
      let (count, _) = ask-none (leb fewest_stops (length stops) && leb (length stops) most_stops) model.StopCount _ p.asked in
      let (few, many) = and_true (leb fewest_stops (length stops)) (leb (length stops) most_stops) count in
      record { few = leb-true fewest_stops (length stops) few; many = leb-true (length stops) most_stops many }

module _ {card : List ℕ} (u : Held) {a : Areas} {l : Each ℕ} (lengths-are : l ≡ lengths a) {c : ℕ} {stops : List ℕ} {lent : Lent} where
  pub stops-refused : {x : Result Unit Refusal} {q : Refusal} → x ≡ Err q
      → verdict_in x ≡ asks (base_on card) (header_in u) card l (Stops c stops) (length lent.route) (length lent.log)
      → {r : Visited} → r ≡ record { target = u.target; answer = Err q }
      → CalledStops card u (record { entry = a; exit = a }) (record { entry = lent; exit = lent }) c stops r
  stops-refused fails says handed =
      let there = sym (ap verdict_in fails) ∙ says
      ∙ ap (λ (y : Each ℕ). asks (base_on card) (header_in u) card y (Stops c stops) (length lent.route) (length lent.log))
      lengths-are in
      subst (CalledStops card u (record { entry = a; exit = a }) (record { entry = lent; exit = lent }) c stops) (sym handed) (record {
        call = refused-by there;
        rest = record { few-legs = omega arith; totals_end = λ j k. zeros j; roads-end = λ j k. zeros j };
      })

  -- the base times do not matter to a list's questions
  pub stops-met : ListPassed card (header_in u) l c stops lent → {after : Areas} {lent' : Lent} {r : Visited}
      → Journeys card u.sizes (header_in u) (record { entry = a; exit = after }) (record { entry = lent; exit = lent' }) c stops r
      → CalledStops card u (record { entry = a; exit = after }) (record { entry = lent; exit = lent' }) c stops r
  unfolding stops_refusal
  stops-met p made = record {
    call =
        made-left (subst (λ (y : Each ℕ). fits_by (header_in u) card y ≡ true) lengths-are p.fits) p.asked
        (λ w. made.exact w p.asked) made.writes;
    rest = made.rest;
  }
