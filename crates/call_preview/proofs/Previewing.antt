-- A preview by what its questions and its two searches say: its questions (`preview-trips`, `preview-facts`), what was made
-- (`preview-handed`), and its work area (`work-refused`, `work-made`). Assumes nothing.
use mathlib.Core.Path.{◌∙◌, ◌≡◌, ap, ap₂, refl, subst, sym}
use mathlib.Core.Option.{none, some}
use mathlib.Core.List.{List}
use Prim.Native.Nat.{◌≤◌, ℕ}
use borrow.Author.Tests.{eqb-true, ltb-true}
use lib.Dec.{eqb, ltb}
use Rattle.std.specs.Prelude.{Result}
use lib.ListN.{length, set}
use native.Mathlib.Omega.{arith}
use Rattle.graph.specs.Total.{Total}
use Rattle.graph.specs.Search.{total_of}
use Rattle.graph.specs.Map.{Map}
use Rattle.model.specs.Types.{Accepted, Answer, Estimated, Gone, Header, Lengths, NoClass, NoJunction, NoTarget, Previewed, Refused}
use Rattle.model.specs.Types.{Stopped}
use Rattle.model.specs.Limits.{classes, most_total}
use Rattle.model.specs.Layout.{access_in, order_in, roads_in}
use Rattle.model.specs.Card.{card_map, map_on}
use Rattle.model.specs.Areas.{Areas}
use Rattle.model.specs.State.{Lent, Step, answering}
use Rattle.model.specs.Machine.{is_at, target_of}
use Rattle.model.specs.Set.{set_refusal}
use Rattle.model.specs.Estimate.{estimate_refusal, filled}
use Rattle.model.specs.Go.{search_of}
use Rattle.model.specs.Preview.{WorkLeft, change_of, either_asks, preview_answer, preview_at, preview_made, preview_refusal, work_size}
use Rattle.model.specs.Calls.{Preview, calling, known_of}
use Rattle.model.specs.Promises.{CallContract, after, base_on, before}
use Rattle.model.proofs.Laws.{and_then-none, ask-none, kept_refl}
use Rattle.model.specs.Good.{Good}
use Rattle.model.proofs.Good.{met-good, set-good}
use Rattle.unit_answers.specs.Signed.{held, held-is}
use Rattle.unit_answers.specs.Shape.{answer_in}
use Rattle.network.specs.declared.Refusal as code
use Rattle.unit_answers.specs.declared.Answer as code-answer
use Rattle.network.specs.Bodies.{map_in}
use Rattle.search.specs.Searches.{FindsBoth, FoundBoth, Settable}
use Rattle.calls.specs.Shape.{Handed, Held, answered_in, header_in, target_in}
use Rattle.calls.specs.Meets.{with_aimed}
use Rattle.calls.specs.Refused.{made_by, set_same}
use Rattle.calls.specs.Trips.{TripPassed, Trips, as_left, given_in, met_by, on-card}

-- ---- answers

-- a change is that of the totals that it is answered with; other answers have none
abbrev ChangeIs : Answer → Type 0
ChangeIs (Previewed a b c) = c ≡ change_of a b
ChangeIs (Refused q) = Unit {0}
ChangeIs Accepted = Unit {0}
ChangeIs (Estimated t) = Unit {0}
ChangeIs (Gone t c k) = Unit {0}
ChangeIs (Stopped legs t) = Unit {0}

-- no refusal
abbrev NoRefusal : Answer → Type 0
NoRefusal (Refused q) = ⊥
NoRefusal Accepted = Unit {0}
NoRefusal (Estimated t) = Unit {0}
NoRefusal (Gone t c k) = Unit {0}
NoRefusal (Previewed a b c) = Unit {0}
NoRefusal (Stopped legs t) = Unit {0}

-- ---- the questions

-- 9 of the work area has passed, and 10 and 11
pub record PreviewFacts (card : List ℕ) (h : Header) (i t w : ℕ) : Type 0 where
  pub work-is : w ≡ work_size h.n
  pub allowed : set_refusal (known_of (base_on card) h) i t ≡ none

module _ (card : List ℕ) (h : Header) (v i t j w : ℕ) where
  -- 9 of the work area; 18; 10 and 11; 12 and 13
  parts : preview_refusal (known_of (base_on card) h) v i t j w ≡ none
      → PreviewFacts card h i t w × (estimate_refusal (known_of (base_on card) h) j ≡ none)
  unfolding preview_refusal
  parts e =
      let (work-is, then) = ask-none (eqb w (work_size h.n)) Lengths _ e in
      let (_, after-18) = ask-none (ltb v classes) NoClass _ then in
      let (allowed, way) = and_then-none (set_refusal (known_of (base_on card) h) i t) _ after-18 in
      (record { work-is = eqb-true w (work_size h.n) work-is; allowed = allowed }, way)

pub preview-trips : {card : List ℕ} {h : Header} {a : Areas} {v i t j w : ℕ} {k : Lent} → Trips card h a (Preview v i t j w) k j
unfolding estimate_refusal
preview-trips {card} {h} {v = v} {i} {t} {j} {w} = record {
  starts = λ e.
      let (_, way) = parts card h v i t j w e in
      let (below, then) = ask-none (ltb j h.n) NoJunction _ way in
      let (aimed, _) = ask-none (is_at h.target) NoTarget none then in
      record { start = ltb-true j h.n below; aimed = aimed };
  idle = record { leaves = refl; lent = refl; kept = kept_refl; change = λ x y z e. subst ChangeIs e tt };
}

pub preview-facts : {card : List ℕ} {u : Held} {a : Areas} {v i t j w : ℕ} {k : Lent}
    → TripPassed card u a (Preview v i t j w) k j → PreviewFacts card (header_in u) i t w
preview-facts {card} {u} {v = v} {i} {t} {j} {w} p = (parts card (header_in u) v i t j w p.asked).0

-- ---- a preview that was made

-- a total that a search tells is one that a signed number holds
total-held : {w : Total} (x : Total) → w ≡ x → ((t : ℕ) → x ≡ some t → t ≤ most_total) → held w ≡ x
total-held x total-is fits = ap held total-is ∙ held-is x (record { below = λ t e. omega (arith, fits t e) })

-- with searches at these times and at those
module _ (u : Held) (a : Areas) (now then : List ℕ) (j : ℕ) (k : Lent) where
  abbrev h : Header
  h = header_in u

  -- the target
  abbrev z : ℕ
  z = target_of (target_in u.target)

  -- what a preview leaves by its answer and the estimates
  unfoldable left_by : Answer → (estimates : List ℕ) → Step
  left_by x e = answering x (before h (with_aimed a a.aimed.down e)) k

  -- what it leaves on the map M
  made-is : (M : Map) →
      left_by (preview_answer (total_of (search_of M now j z)) (total_of (search_of M then j z)))
      (filled M z (either_asks M now then j z) a.aimed.estimates) ≡ preview_at M (before h a) now then j k
  unfolding left_by
  made-is M = refl

  -- both searches found it on the map of what they were given
  found-is : {roads order e : List ℕ} {present new : Total}
      → FoundBoth (given_in u a now roads order) then j z a.aimed.estimates e present new
      → left_by (preview_answer (held present) (held new)) e ≡ preview_at (map_in roads order) (before h a) now then j k
  found-is {roads} {order} d =
      let M = map_in roads order in
      ap₂ left_by
      (ap₂ preview_answer (total-held (total_of (search_of M now j z)) d.present_is d.present_fits)
      (total-held (total_of (search_of M then j z)) d.new_is d.new-fits))
      d.estimates_are
      ∙ made-is M

-- the times with that one set, as a class meets them, are those that a set leaves
then-settable : {card : List ℕ} {h : Header} {a : Areas} → Good card (before h a) → (k : Lent) (v i t : ℕ)
    → set_refusal (known_of (base_on card) h) i t ≡ none → Settable (map_on card) (met_by (access_in card) v (set a.live i t))
then-settable g k v i t allowed = (met-good (set-good g i t k (set_same i t (λ b. g) ∙ allowed)) v).times

-- a preview of class v whose searches answered so
pub preview-handed : {card : List ℕ} {u : Held} {a : Areas} {v i t j w : ℕ} {k : Lent}
    → TripPassed card u a (Preview v i t j w) k j → {z : ℕ} → z ≡ target_of (target_in u.target) → {access roads order : List ℕ}
    → roads ≡ roads_in card → order ≡ order_in card → access ≡ access_in card → {e : List ℕ} {present new : Total}
    → FindsBoth (given_in u a (met_by access v a.live) roads order) (met_by access v (set a.live i t)) a.built.leaving
    a.built.groups j z a.aimed.estimates e present new
    → {x : Result code-answer.Answer code.Refusal} → answer_in x ≡ preview_answer (held present) (held new)
    → {r : Handed} → r ≡ record { header = u; answer = x }
    → CallContract card (before (header_in u) a) (calling (Preview v i t j w) k)
    (after (answered_in r) (with_aimed a a.aimed.down e) k)
unfolding left_by
preview-handed {card} {u} {a} {v} {i} {t} {j} {w} {k} p target_is roads_are order_is access-is {e} {present} {new} d answer-is handed =
    subst (λ (r : Handed). CallContract card (before (header_in u) a) (calling (Preview v i t j w) k)
    (after (answered_in r) (with_aimed a a.aimed.down e) k)) (sym handed)
    (subst (λ (y : Answer). CallContract card (before (header_in u) a) (calling (Preview v i t j w) k) (left_by u a now then j k y e))
    (sym answer-is)
    (made_by p.fits p.asked exactly
    (record { leaves = refl; lent = refl; kept = d.kept; change = λ x y c q. subst ChangeIs q refl })))
  where
    now : List ℕ
    now = met_by (access_in card) v a.live

    then : List ℕ
    then = met_by (access_in card) v (set a.live i t)

    Searched : (z : ℕ) → (access roads order : List ℕ) → Type 0
    Searched z x r o =
        FindsBoth (given_in u a (met_by x v a.live) r o) (met_by x v (set a.live i t)) a.built.leaving a.built.groups j z
        a.aimed.estimates e present new

    exactly : Good card (before (header_in u) a)
        → left_by u a now then j k (preview_answer (held present) (held new)) e
        ≡ preview_made (card_map card) (before (header_in u) a) v i t j k
    exactly g =
        let searched = on-card card u Searched target_is access-is roads_are order_is d in
        let both = searched.exact (as_left u g v p.starts.aimed) (then-settable g k v i t (preview-facts p).allowed) in
        found-is u a now then j k both

-- ---- its work area

-- refused, it was not touched
pub work-refused : {work : List ℕ} {x : Answer} → WorkLeft work work x
work-refused = record { length-stays = refl; refused = λ q e. refl }

-- otherwise its length stayed
pub work-made : {work work' : List ℕ} → length work' ≡ length work → {present new : Total}
    {u : Held} {x : Result code-answer.Answer code.Refusal} → answer_in x ≡ preview_answer present new → {r : Handed}
    → r ≡ record { header = u; answer = x }
    → WorkLeft work work' (answer_in r.answer)
work-made length-is answer-is handed = record {
  length-stays = length-is;
  refused = λ q e.
      absurd (subst NoRefusal (sym (ap (λ (r : Handed). answer_in r.answer) handed ∙ answer-is) ∙ e) tt);
}
