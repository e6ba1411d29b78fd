-- What the calls that search from a start to the target share: their questions, a refusal (`trip-refused`), what a search is lent
-- (`within`) and what it relies on (`as_left`). Assumes nothing.
use Rattle.std.proofs.Common.{◌∙◌, ap, subst, subst₂, sym, inl, inr, ltb-false, ltb-true, arith}
use Rattle.std.specs.Prelude.{◌≡◌, Err, Ok, Result, refl, ◌⊎◌, Bool, false, true, List, ◌<◌, ◌≤◌, ℕ, ltb, length}
use Rattle.std.proofs.Math.Option.{Option, none, some}
use Rattle.graph.specs.Total.{Total}
use Rattle.graph.proofs.Total.{some-some}
use Rattle.model.specs.Types.{Header, Lengths, Refusal}
use Rattle.model.specs.Word.{none_word, of_word, word}
use Rattle.model.proofs.Word.{of_word-word}
use Rattle.model.specs.Limits.{most_total}
use Rattle.model.specs.Layout.{access_in, order_in, roads_in}
use Rattle.model.specs.Classes.{access_of, class_times}
use Rattle.model.specs.Card.{and_then, ask, map_on}
use Rattle.model.specs.Areas.{Areas, Each, lengths}
use Rattle.model.specs.State.{Lent}
use Rattle.model.specs.Machine.{is_at, target_of}
use Rattle.model.specs.Calls.{Asked, Writes, calling, refusal_by}
use Rattle.model.specs.Promises.{CallContract, after, base_on, before, refusing}
use Rattle.model.proofs.Laws.{and_then-none, ask-none}
use Rattle.model.proofs.ClassLaws.{times-length}
use Rattle.model.specs.Good.{Good, met_times}
use Rattle.model.proofs.Good.{met-good}
use Rattle.network.specs.Refusals.{refusal_in, verdict_in}
use Rattle.network.specs.declared.Refusal as code
use Rattle.unit_questions.specs.Lending.{fits_by}
use Rattle.search_junctions.specs.State.{Given, given_of}
use Rattle.search_run.specs.Runs.{Within}
use Rattle.search.specs.Searches.{AsLeft}
use Rattle.calls.specs.Shape as unit
use Rattle.calls.specs.Shape.{Handed, answered_in, header_in, target_in}
use Rattle.calls.specs.Meets.{asks_trip}
use Rattle.calls.specs.Refused.{never-left, refused-by}
use Rattle.calls.specs.Bodies.{good-groups, good-prepared}
use Rattle.calls.specs.Fitting.{Fits, fits-facts, sized}
use Rattle.calls.specs.Made.{aimed-at}

-- ---- the questions

-- the call's own questions
abbrev pub own : (card : List ℕ) → Header → Asked → Lent → Option Refusal
own card h c k = refusal_by (base_on card) h (calling c k)

-- 12 and 13 have passed
pub record Starts (h : Header) (s : ℕ) : Type 0 where
  pub start : s < h.n
  pub aimed : is_at h.target ≡ true

-- a call that searches from s: 12 and 13 are among its questions, and it may leave everything as it was
pub record Trips (card : List ℕ) (h : Header) (a : Areas) (c : Asked) (k : Lent) (s : ℕ) : Type 0 where
  pub starts : own card h c k ≡ none → Starts h s
  pub idle : Writes (before h a) c k (refusing Lengths (before h a) (calling c k))

-- what is asked: 9, the call's own questions, and the target's range
abbrev pub trip_verdict : (card : List ℕ) → Header → Each ℕ → Asked → Lent → Option Refusal
trip_verdict card h l c k = asks_trip (base_on card) h card l c (length k.route) (length k.log)

-- and passed
pub record TripPassed (card : List ℕ) (u : unit.Held) (a : Areas) (c : Asked) (k : Lent) (s : ℕ) : Type 0 where
  pub fits : fits_by (header_in u) card (lengths a) ≡ true
  pub asked : own card (header_in u) c k ≡ none
  pub sizes : Fits (header_in u) card (lengths a)
  pub starts : Starts (header_in u) s
  pub target : target_of (target_in u.target) < u.sizes.n

-- a refusal is that of the call's questions, or 9 for the target
which : (o : Option Refusal) (b : Bool) (q : Refusal) → some q ≡ and_then o (ask b Lengths none)
    → (some q ≡ o) ⊎ ((o ≡ none) × (b ≡ false) × (q ≡ Lengths))
which (some p) b q e = inl e
which none true q e = absurd (let z : ◌≡◌ {A = ℕ} 0 1 = cc in omega arith)
which none false q e = inr (refl, refl, some-some refl e)

module _ {card : List ℕ} {u : unit.Held} {a : Areas} {c : Asked} {k : Lent} {s : ℕ} (trips : Trips card (header_in u) a c k s) where
  pub trip-passed : {x : Result Unit code.Refusal} → x ≡ Ok tt → verdict_in x ≡ trip_verdict card (header_in u) (lengths a) c k
      → TripPassed card u a c k s
  trip-passed passes verdict-is =
      let h = header_in u in
      let fits = fits_by h card (lengths a) in
      let none-says-no = sym (ap verdict_in (sym passes) ∙ verdict-is) in
      let (first-ones, then) = and_then-none (ask fits Lengths (own card h c k)) _ none-says-no in
      let (fits-is, asked) = ask-none fits Lengths (own card h c k) first-ones in
      let (inside, _) = ask-none (ltb (target_of h.target) h.n) Lengths none then in
      record {
        fits = fits-is;
        asked = asked;
        sizes = fits-facts fits-is;
        starts = trips.starts asked;
        target = ltb-true (target_of h.target) h.n inside;
      }

  -- ---- a refused call

  pub trip-refused : {x : Result Unit code.Refusal} {q : code.Refusal} {r : Handed} → x ≡ Err q
      → verdict_in x ≡ trip_verdict card (header_in u) (lengths a) c k → r ≡ record { header = u; answer = Err q }
      → CallContract card (before (header_in u) a) (calling c k) (after (answered_in r) a k)
  trip-refused {q = q} fails verdict-is handed =
      let inside = ltb (target_of (target_in u.target)) u.sizes.n in
      subst (λ (y : Handed). CallContract card (before (header_in u) a) (calling c k) (after (answered_in y) a k)) (sym handed)
      (go (which (ask fits Lengths (own card (header_in u) c k)) inside (refusal_in q) (ap verdict_in (sym fails) ∙ verdict-is)))
    where
      fits : Bool
      fits = fits_by (header_in u) card (lengths a)

      Refusing : Refusal → Type 0
      Refusing z = CallContract card (before (header_in u) a) (calling c k) (refusing z (before (header_in u) a) (calling c k))

      -- no list of calls leaves a target out of range
      astray : fits ≡ true → own card (header_in u) c k ≡ none → u.sizes.n ≤ target_of (target_in u.target) → Refusing Lengths
      astray f x o = never-left f x (λ g. out g (aimed-at g (trips.starts x).aimed).below) trips.idle
        where
          out : Good card (before (header_in u) a) → target_of (target_in u.target) < (map_on card).vertices → ⊥
          out g y = omega (arith, g.n-is)

      go : (some (refusal_in q) ≡ ask fits Lengths (own card (header_in u) c k))
          ⊎ ((ask fits Lengths (own card (header_in u) c k) ≡ none)
          × (ltb (target_of (target_in u.target)) u.sizes.n ≡ false) × (refusal_in q ≡ Lengths)) → Refusing (refusal_in q)
      go (inl y) = refused-by y
      go (inr (first-none, outside, is-9)) =
          let (fits-is, asked) = ask-none fits Lengths (own card (header_in u) c k) first-none in
          subst Refusing (sym is-9)
          (astray fits-is asked (ltb-false (target_of (target_in u.target)) u.sizes.n outside))

-- ---- what a search is given: the live times as the class meets them, or these with one of them set

-- the times as a class meets them, by the bytes of the card
abbrev pub met_by : (access : List ℕ) → (class : ℕ) → (live : List ℕ) → List ℕ
met_by access v live = class_times (access_of access) v live

pub met-length : (access : List ℕ) (v : ℕ) (live : List ℕ) → length (met_by access v live) ≡ length live
met-length access v live = times-length (access_of access) v live

abbrev pub given_in : unit.Held → Areas → (met roads order : List ℕ) → Given
given_in u a met roads order =
    given_of u.sizes roads order a.built.ranks a.built.pairs a.built.times met a.aimed.down

-- lengths and ranges; z is the target, and t entries stand in elapsed's place
pub within : {card : List ℕ} {u : unit.Held} {a : Areas} {c : Asked} {k : Lent} {s : ℕ} → TripPassed card u a c k s → {z : ℕ}
    → z ≡ target_of (target_in u.target) → {roads order : List ℕ} → roads ≡ roads_in card → order ≡ order_in card
    → {met : List ℕ} → length met ≡ length a.live → {t : ℕ} → t ≡ u.sizes.n
    → Within (given_in u a met roads order) a.built.leaving a.built.groups s z (length a.aimed.estimates) t
within {a = a} p {z} target_is roads_are order_is met-are elapsed-is = record {
  start_in = p.starts.start;
  target_in = omega (arith, target_is, p.target);
  leaving-is = p.sizes.lengths.leaving;
  groups_are = p.sizes.lengths.groups;
  sized = sized a p.sizes roads_are order_is met-are elapsed-is;
}

-- ---- where a list of calls left the areas

pub as_left : {card : List ℕ} (u : unit.Held) {a : Areas} → (g : Good card (before (header_in u) a)) → (v : ℕ)
    → is_at (target_in u.target) ≡ true
    → AsLeft (given_in u a (met_times g v) (roads_in card) (order_in card)) a.built.leaving a.built.groups
    (target_of (target_in u.target)) a.aimed.estimates
as_left u g v aimed = record {
  prepared = good-prepared g;
  grouped = good-groups g;
  aims = aimed-at g aimed;
  times = (met-good g v).times;
}

-- what holds of the target and of the parts of the card as they were handed on
pub on-card : (card : List ℕ) (u : unit.Held) (P : (z : ℕ) → (access roads order : List ℕ) → Type 0) {z : ℕ}
    {access roads order : List ℕ} → z ≡ target_of (target_in u.target) → access ≡ access_in card → roads ≡ roads_in card
    → order ≡ order_in card → P z access roads order → P (target_of (target_in u.target)) (access_in card) (roads_in card) (order_in card)
on-card card u P {z} {access} {roads} {order} target_is access-is roads_are order_is holds =
    subst₂ (P (target_of (target_in u.target)) (access_in card)) roads_are order_is
    (subst₂ (λ (z : ℕ) (x : List ℕ). P z x roads order) target_is access-is holds)

-- ---- the total that a search tells, read in its word

pub total_read : {w : ℕ} (x : Total) → w ≡ word x → ((t : ℕ) → x ≡ some t → t ≤ most_total) → of_word w ≡ x
total_read x word-is fits = ap of_word word-is ∙ of_word-word x (λ t e. below-marks t (fits t e))
  where
    below-marks : (t : ℕ) → t ≤ most_total → t < none_word
    below-marks t q = omega arith
