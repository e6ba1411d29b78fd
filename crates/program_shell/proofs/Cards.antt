-- What a card comes to: the line that it is refused by, or the prepared areas. With the areas that the program lends, question 7 of
-- preparing is asked of the program's limits, so preparing decides as document 01 says (`prepared-opens`). Assumes nothing.
use mathlib.Core.Path.{◌∙◌, ◌≡◌, ap, ap₂, refl, subst}
use mathlib.Core.Logic.{◌⊎◌, ◌≢◌, inl, inr}
use mathlib.Core.Bool.{Bool, cond, false, true}
use mathlib.Core.Option.{Option, none, some}
use mathlib.Core.List.{List, []}
use Prim.Native.Nat.{◌*◌, ◌/◌, ◌<◌, ◌≤◌, min, ℕ}
use borrow.Author.Tests.{eq-eqb, le-ltb, lt-ltb, ltb-false, ltb-true, ne_eqb}
use lib.Dec.{leb, ltb}
use lib.ListN.{length, take}
use native.Mathlib.Decide.{ℕ_discrete}
use native.Mathlib.Omega.{arith}
use Rattle.graph.specs.Total.{Tested, Total}
use Rattle.graph.proofs.Total.{decide, none-some, some-some}
use Rattle.graph.specs.Map.{Map, pairs_of}
use Rattle.model.specs.Types.{Accepted, Answered, AreaLengths, Kinds, Place, Refusal, Refused, Road, Room, Short, Sizes}
use Rattle.model.specs.Types.{Starts}
use Rattle.model.specs.Layout.{access_fits, count_size, order_in, road_size, roads_in, roads_kind, sections, sections_from, table_size}
use Rattle.model.specs.Card.{and_then, ask, ask_each, card_refusal, count_ok, failing_place, failing_road, kinds_ok, map_on, rows_of}
use Rattle.model.specs.Card.{rows_refusal}
use Rattle.model.specs.Card.{sizes_ok, starts_ok}
use Rattle.model.proofs.Accept.{card-facts}
use Rattle.model.specs.Areas.{Areas, Each, lengths, lengths_fit, record_size, zeroed}
use Rattle.model.specs.State.{State, Step, answering, areas_refusal, fresh, none_lent, prepare, room_refusal, unless, unprepared}
use Rattle.model.specs.Promises.{after}
use Rattle.model.specs.Good.{LengthFacts}
use Rattle.model.proofs.Good.{facts-lengths, lengths-facts}
use Rattle.line_texts.specs.Areas.{Written}
use Rattle.line_console.specs.Texts.{unreadable_text}
use Rattle.program_shell.specs.Limits.{file_limit, junction_limit, out_room, pair_words, road_limit}
use Rattle.program_shell.specs.Opening.{Ends, Lends, Opening, Opens, larger, no_line, on_card, on_room, opening, unless_over}
use Rattle.program_shell.specs.Opening.{judged, junction_room, lengths_for, prepared, refusal_line, road_room}
use Rattle.program_shell.proofs.Bounds.{answer-length, shown-text, unreadable-length}

-- ---- which questions refuse

ask-low : (b : Bool) (q : Refusal) (rest : Option Refusal) (p : Refusal) → q.question < 7 → (rest ≡ some p → p.question < 7)
    → ask b q rest ≡ some p → p.question < 7
ask-low true q rest p h g e = g e
ask-low false q rest p h g e = subst (λ (r : Refusal). r.question < 7) (some-some refl e) h

each-low : (x : Total) (f : ℕ → Refusal) (rest : Option Refusal) (p : Refusal) → ((i : ℕ) → (f i).question < 7)
    → (rest ≡ some p → p.question < 7) → ask_each x f rest ≡ some p → p.question < 7
each-low none f rest p h g e = g e
each-low (some i) f rest p h g e = subst (λ (r : Refusal). r.question < 7) (some-some refl e) (h i)

-- those on a card are 1 to 6
card-low : (card : List ℕ) (p : Refusal) → card_refusal card ≡ some p → p.question < 7
unfolding card_refusal rows_refusal
card-low card p =
    let r = rows_of card in
    let count = sections card in
    let entries = sections_from card 0 count in
    ask-low (leb count_size (length card)) Short _ p (omega arith)
    (ask-low (count_ok count) Kinds _ p (omega arith)
    (ask-low (leb (table_size count) (length card)) Short _ p (omega arith)
    (ask-low (kinds_ok roads_kind entries) Kinds _ p (omega arith)
    (ask-low (starts_ok (table_size count) entries (length card)) Starts _ p (omega arith)
    (ask-low (access_fits card (length (roads_in card) / road_size)) Sizes _ p (omega arith)
    (ask-low (sizes_ok (length (roads_in card)) (length (order_in card))) Sizes _ p (omega arith)
    (each-low (failing_road r) Road _ p (λ i. omega arith)
    (each-low (failing_place r) Place _ p (λ i. omega arith) (λ e. absurd (none-some refl e))))))))))

room-low : (M : Map) (a : Areas) (p : Refusal) → room_refusal M a ≡ some p → p.question ≢ 7
unfolding room_refusal
room-low M a p e h = ask-room (leb (record_size * length (pairs_of M)) (length a.built.pairs)) p e h
  where
    ask-room : (b : Bool) (p : Refusal) → ask b Room none ≡ some p → p.question ≡ 7 → ⊥
    ask-room true p e h = none-some refl e
    ask-room false p e h =
        let k : Room.question ≡ p.question = ap (λ (r : Refusal). r.question) (some-some refl e) in
        omega (arith, k, h)

-- their lines
line_plain : (q : Refusal) → q.question ≢ 7 → refusal_line q ≡ no_line q
unfolding refusal_line
line_plain q h = rw (ne_eqb q.question 7 h)

line_seven : (q : Refusal) → q.question ≡ 7 → refusal_line q ≡ unreadable_text
unfolding refusal_line
line_seven q h = rw (eq-eqb q.question 7 h)

refusal_length : (q : Refusal) → length (refusal_line q) ≤ out_room
refusal_length q = go (ℕ_discrete q.question 7)
  where
    go : Dec (q.question ≡ 7) → length (refusal_line q) ≤ out_room
    go (yes h) = rw (line_seven q h) unreadable-length
    go (no h) = rw (line_plain q h) (answer-length (Refused q) [] (omega arith))

-- ---- the line of a refused preparing

pub refused-way : (q : Refusal) {k : ℕ} {out₀ out : List ℕ} → out_room ≤ length out₀ → Written out₀ (refusal_line q) out k
    → Ends (take k out) ≡ Ends (refusal_line q)
refused-way q g w = ap Ends (shown-text (refusal_length q) g w)

-- ---- a file that is too long, or is not

pub over-way : (o : Opening) {bytes k : ℕ} {out₀ out : List ℕ} → file_limit < bytes → out_room ≤ length out₀
    → Written out₀ unreadable_text out k → Ends (take k out) ≡ unless_over bytes o
over-way o {bytes} h g w = rw (lt-ltb file_limit bytes h) (ap Ends (shown-text unreadable-length g w))

pub within-way : {bytes : ℕ} {o p : Opening} → bytes ≤ file_limit → o ≡ p → o ≡ unless_over bytes p
within-way {bytes} h e = rw (le-ltb file_limit bytes h) e

-- ---- what a preparing comes to

abbrev judged_step : Step → Opening
judged_step u = judged u.state.header u.answer u.state.areas

ends-opens : {x : Opening} {l : List ℕ} {s : State} → x ≡ Ends l → x ≡ Opens s → ⊥
ends-opens p q = let z : ◌≡◌ {A = ℕ} 0 1 = cc in omega arith

opens-opens : {x : Opening} {s t : State} → x ≡ Opens s → x ≡ Opens t → s ≡ t
opens-opens p q = cc

-- a preparing that comes to a state was accepted
accepted : (x y : Option Refusal) (b c s t : State)
    → let u = unless x b none_lent (unless y c none_lent (answering Accepted s none_lent)) in
    judged_step u ≡ Opens t → (u.answer ≡ Accepted) × (u.state ≡ t)
accepted none none b c s t e = (refl, opens-opens refl e)
accepted none (some q) b c s t e = absurd (ends-opens refl e)
accepted (some q) y b c s t e = absurd (ends-opens refl e)

-- what is made of its answer, for any areas, is so of the areas that it left
pub prepared-way : (file : List ℕ) (a : Areas) {r : Answered} {b : Areas} {o : Areas → Opening} → after r b none_lent ≡ prepare file a
    → ((k : Areas) → o k ≡ unless_over (length file) (judged r.header r.answer k)) → o b ≡ prepared file a
unfolding prepared
prepared-way file a {b = b} e f = f b ∙ ap (λ (u : Step). unless_over (length file) (judged_step u)) e

-- ---- the areas of a card that reading accepts

module _ (file : List ℕ) (reads : card_refusal file ≡ none) where
  pub rooms : (junction_room file ≡ min (map_on file).vertices junction_limit) × (road_room file ≡ min (map_on file).base.arcs road_limit)
  rooms =
      let f = card-facts file reads in
      (omega (arith, f.order-length), omega (arith, f.roads-length))

module _ (file : List ℕ) (a : Areas) (lends : Lends file a) where
  abbrev M : Map
  M = map_on file

  abbrev fits : Each ℕ → Bool
  fits l = lengths_fit M.vertices M.base.arcs 0 l

  after-room : (y : Option Refusal) → room_refusal M a ≡ y
      → judged_step (unless y (unprepared (zeroed a)) none_lent (answering Accepted (fresh file a) none_lent)) ≡ on_room y (fresh file a)
  after-room none e = refl
  after-room (some q) e = ap Ends (line_plain q (room-low M a q e))

  -- question 7 is asked of the smaller of the map's numbers and the limits
  abbrev lent-lengths : Each ℕ
  lent-lengths = lengths_for (min M.vertices junction_limit) pair_words (min M.base.arcs road_limit)

  lent_is : card_refusal file ≡ none → lengths a ≡ lent-lengths
  lent_is e = lends ∙ ap₂ (λ (n : ℕ) (m : ℕ). lengths_for n pair_words m) (rooms file e).0 (rooms file e).1

  not_lent : (junction_limit < M.vertices) ⊎ (road_limit < M.base.arcs) → card_refusal file ≡ none → fits (lengths a) ≡ false
  not_lent h e = ap fits (lent_is e) ∙ go (decide (fits lent-lengths)) h
    where
      over : (junction_limit < M.vertices) ⊎ (road_limit < M.base.arcs) → LengthFacts M.vertices M.base.arcs 0 lent-lengths → ⊥
      over (inl k) f = omega (arith, k, f.ranks)
      over (inr k) f = omega (arith, k, f.live)

      go : Tested (fits lent-lengths) → (junction_limit < M.vertices) ⊎ (road_limit < M.base.arcs) → fits lent-lengths ≡ false
      go (inr q) k = q
      go (inl q) k = absurd (over k (lengths-facts M.vertices M.base.arcs 0 lent-lengths q))

  lent : M.vertices ≤ junction_limit → M.base.arcs ≤ road_limit → card_refusal file ≡ none → fits (lengths a) ≡ true
  lent h k e =
      let n : min M.vertices junction_limit ≡ M.vertices = omega (arith, h) in
      let m : min M.base.arcs road_limit ≡ M.base.arcs = omega (arith, k) in
      ap fits (lent_is e ∙ ap₂ (λ (i : ℕ) (j : ℕ). lengths_for i pair_words j) n m)
      ∙ facts-lengths {n = M.vertices} {m = M.base.arcs} {p = 0} {l = lengths_for M.vertices pair_words M.base.arcs} (record {
        ranks = refl;
        whole = refl;
        room = omega arith;
        pairs-high = omega arith;
        times = refl;
        live = refl;
        down = refl;
        estimates = refl;
        elapsed = refl;
        leaving = refl;
        groups = refl;
      })

  -- questions 7 and 8, where 1 to 6 pass
  after-card : card_refusal file ≡ none → Tested (ltb junction_limit M.vertices) → Tested (ltb road_limit M.base.arcs)
      → judged_step (unless (ask (fits (lengths a)) AreaLengths none) (unprepared a) none_lent
      (unless (room_refusal M a) (unprepared (zeroed a)) none_lent (answering Accepted (fresh file a) none_lent)))
      ≡ cond (larger M) (Ends unreadable_text) (on_room (room_refusal M a) (fresh file a))
  after-card e (inl p) t = rw (not_lent (inl (ltb-true junction_limit M.vertices p)) e, p) (ap Ends (line_seven AreaLengths refl))
  after-card e (inr p) (inl q) = rw (not_lent (inr (ltb-true road_limit M.base.arcs q)) e, p, q) (ap Ends (line_seven AreaLengths refl))
  after-card e (inr p) (inr q) =
      let fit = lent (ltb-false junction_limit M.vertices p) (ltb-false road_limit M.base.arcs q) e in
      rw (fit, p, q) (after-room (room_refusal M a) refl)

  after_questions : (x : Option Refusal) → card_refusal file ≡ x
      → judged_step (unless (and_then x (ask (fits (lengths a)) AreaLengths none)) (unprepared a) none_lent
      (unless (room_refusal M a) (unprepared (zeroed a)) none_lent (answering Accepted (fresh file a) none_lent)))
      ≡ on_card x file a
  after_questions none e = after-card e (decide (ltb junction_limit M.vertices)) (decide (ltb road_limit M.base.arcs))
  after_questions (some q) e = ap Ends (line_plain q (λ h. omega (arith, card-low file q e, h)))

  -- with these areas a preparing comes to what document 01 says
  pub prepared-opens : prepared file a ≡ opening file a
  unfolding opening prepare prepared areas_refusal
  prepared-opens = ap (unless_over (length file)) (after_questions (card_refusal file) refl)

  -- ---- a card that opens was prepared

  opened-way : Tested (ltb file_limit (length file)) → (s : State) → opening file a ≡ Opens s → judged_step (prepare file a) ≡ Opens s
  unfolding opening prepare areas_refusal
  opened-way (inl q) s e = absurd (ends-opens refl (rw q at e))
  opened-way (inr q) s e = after_questions (card_refusal file) refl ∙ (rw q at e)

  pub opened-prepared : (s : State) → opening file a ≡ Opens s → ((prepare file a).answer ≡ Accepted) × ((prepare file a).state ≡ s)
  unfolding prepare
  opened-prepared s e = accepted (areas_refusal file a) (room_refusal M a) _ _ _ s (opened-way (decide (ltb file_limit (length file))) s e)
