-- A go by what its questions and its search say: its questions (`go-trips`, `go-room`), and what was made (`go-handed`). Assumes nothing.
use mathlib.Core.Path.{◌∙◌, ◌≡◌, ap, ap₂, refl, subst, sym}
use mathlib.Core.Bool.{◌&&◌}
use mathlib.Core.Option.{none}
use mathlib.Core.List.{List}
use Prim.Native.Nat.{◌≤◌, ℕ}
use borrow.Author.Tests.{leb-true, ltb-true}
use lib.Dec.{leb, ltb}
use Rattle.std.specs.Prelude.{Result}
use lib.ListN.{length}
use Rattle.graph.specs.Total.{Total}
use Rattle.graph.proofs.Total.{and_true}
use Rattle.graph.specs.Search.{Problem, count_of, history, log_of, route_of, time_in, total_of, vertices}
use Rattle.graph.specs.Map.{Map}
use Rattle.model.specs.Types.{Answer, Header, LentLengths, NoClass, NoJunction, NoTarget}
use Rattle.model.specs.Limits.{classes}
use Rattle.model.specs.Layout.{access_in, order_in, roads_in}
use Rattle.model.specs.Word.{word}
use Rattle.model.specs.Bytes.{listed}
use Rattle.model.specs.Card.{card_map}
use Rattle.model.specs.Areas.{Areas}
use Rattle.model.specs.State.{Lent, Step, answering, first}
use Rattle.model.specs.Machine.{is_at, target_of}
use Rattle.model.specs.Estimate.{filled, with_estimates}
use Rattle.model.specs.Go.{asks, go_answer, go_at, go_made, go_refusal, go_route, search_of}
use Rattle.model.specs.Calls.{Go, go_call}
use Rattle.model.specs.Promises.{CallContract, after, before}
use Rattle.model.proofs.Laws.{ask-none, kept_refl}
use Rattle.model.specs.Good.{Good}
use Rattle.unit_answers.specs.Shape.{answer_in}
use Rattle.network.specs.declared.Refusal as code
use Rattle.unit_answers.specs.declared.Answer as code-answer
use Rattle.unit_questions.specs.Lending.{lent_of}
use Rattle.network.specs.Bodies.{map_in}
use Rattle.search_junctions.specs.State.{go_given}
use Rattle.search_run.specs.Runs.{Written, written_of}
use Rattle.search.specs.Searches.{Found, Searches}
use Rattle.calls.specs.Shape.{Handed, Held, answered_in, header_in, target_in}
use Rattle.calls.specs.Refused.{made_by}
use Rattle.calls.specs.Trips.{TripPassed, Trips, as_left, given_in, met_by, on-card}

-- ---- the questions

-- 14 has passed
pub record Room (h : Header) (k : Lent) : Type 0 where
  pub route-room : h.n ≤ length k.route
  pub log-room : h.n ≤ length k.log

pub go-trips : {card : List ℕ} {h : Header} {a : Areas} {v s : ℕ} {k : Lent} → Trips card h a (Go v s) k s
unfolding go_refusal
go-trips {h = h} {v = v} {s} = record {
  starts = λ e.
      let (_, after-18) = ask-none (ltb v classes) NoClass _ e in
      let (below, then) = ask-none (ltb s h.n) NoJunction _ after-18 in
      let (aimed, _) = ask-none (is_at h.target) NoTarget _ then in
      record { start = ltb-true s h.n below; aimed = aimed };
  idle = record { leaves = refl; kept = kept_refl };
}

pub go-room : {card : List ℕ} {u : Held} {a : Areas} {v s : ℕ} {k : Lent} → TripPassed card u a (Go v s) k s
    → Room (header_in u) k
unfolding go_refusal
go-room {u = u} {v = v} {s} {k} p =
    let n = u.sizes.n in
    let roomy = leb n (length k.route) && leb n (length k.log) in
    let (_, after-18) = ask-none (ltb v classes) NoClass _ p.asked in
    let (_, then) = ask-none (ltb s n) NoJunction _ after-18 in
    let (_, lent) = ask-none (is_at (target_in u.target)) NoTarget _ then in
    let (roomy-is, _) = ask-none roomy LentLengths none lent in
    let (route-is, log_is) = and_true (leb n (length k.route)) (leb n (length k.log)) roomy-is in
    record {
      route-room = leb-true n (length k.route) route-is;
      log-room = leb-true n (length k.log) log_is;
    }

-- ---- a go that was made

-- the areas with the estimates and elapsed that it left
abbrev pub gone_areas : Areas → (estimates elapsed : List ℕ) → Areas
gone_areas a e t = record { built = a.built; live = a.live; aimed = with_estimates a.aimed e; trip = record { elapsed = t } }

-- what its search was lent to be written
abbrev pub written_in : Areas → Lent → Written
written_in a k = written_of a.aimed.estimates a.trip.elapsed k.route k.log

-- with a search at these times
module _ (u : Held) (a : Areas) (times : List ℕ) (s : ℕ) (k : Lent) where
  abbrev h : Header
  h = header_in u

  -- the target
  abbrev z : ℕ
  z = target_of (target_in u.target)

  -- what a go leaves by its answer and the four areas
  unfoldable left_by : Answer → Written → Step
  left_by x l = answering x (before h (gone_areas a l.estimates l.elapsed)) (lent_of l.ways l.log)

  -- the four areas on the map M
  abbrev written_on : Map → Written
  written_on M =
      let G = search_of M times s z in
      written_of (filled M z (asks M times s z) a.aimed.estimates) (listed M.vertices (λ v. word (time_in (history G) v)))
      (go_route (total_of G) (route_of G) k.route) (first (vertices (log_of G)) k.log)

  -- what it leaves on the map M
  made-is : (M : Map) → let G = search_of M times s z in
      left_by (go_answer (total_of G) (count_of G) (length (route_of G))) (written_on M) ≡ go_at M (before h a) times s k
  unfolding left_by
  made-is M = refl

  -- the search found it on the map of what it was given
  module _ {roads order : List ℕ} {l : Written} {total : Total} {count number : ℕ}
      (d : Found (given_in u a times roads order) s z (written_in a k) l total count number) where
    abbrev G : Problem
    G = go_given (given_in u a times roads order) s z

    written_is : l ≡ written_on (map_in roads order)
    written_is =
        ap₂ (λ (e : List ℕ) (t : List ℕ). written_of e t l.ways l.log) d.least.estimates_are d.elapsed-is
        ∙ ap₂ (written_of (written_on (map_in roads order)).estimates (written_on (map_in roads order)).elapsed) d.route-is d.log_is

    answer-is : go_answer total count number ≡ go_answer (total_of G) (count_of G) (length (route_of G))
    answer-is =
        ap (λ (w : Total). go_answer w count number) d.least.total-is
        ∙ ap₂ (go_answer (total_of G)) d.count-is d.number_is

    found-is : left_by (go_answer total count number) l ≡ go_at (map_in roads order) (before h a) times s k
    found-is = ap₂ left_by answer-is written_is ∙ made-is (map_in roads order)

-- a go of class v whose search answered so
pub go-handed : {card : List ℕ} {u : Held} {a : Areas} {v s : ℕ} {k : Lent} → TripPassed card u a (Go v s) k s
    → {z : ℕ} → z ≡ target_of (target_in u.target) → {access roads order : List ℕ} → roads ≡ roads_in card → order ≡ order_in card
    → access ≡ access_in card → {l : Written} {total : Total} {count number : ℕ}
    → Searches (given_in u a (met_by access v a.live) roads order) a.built.leaving a.built.groups s z (written_in a k) l total count
    number
    → {x : Result code-answer.Answer code.Refusal} → answer_in x ≡ go_answer total count number
    → {r : Handed} → r ≡ record { header = u; answer = x }
    → CallContract card (before (header_in u) a) (go_call v s k)
    (after (answered_in r) (gone_areas a l.estimates l.elapsed) (lent_of l.ways l.log))
unfolding left_by
go-handed {card} {u} {a} {v} {s} {k} p target_is roads_are order_is access-is {l} {total} {count} {number} d answer-is handed =
    subst (λ (r : Handed). CallContract card (before (header_in u) a) (go_call v s k)
    (after (answered_in r) (gone_areas a l.estimates l.elapsed) (lent_of l.ways l.log))) (sym handed)
    (subst (λ (y : Answer). CallContract card (before (header_in u) a) (go_call v s k) (left_by u a met s k y l)) (sym answer-is)
    (made_by p.fits p.asked exactly (record { leaves = refl; kept = d.kept })))
  where
    met : List ℕ
    met = met_by (access_in card) v a.live

    Searched : (z : ℕ) → (access roads order : List ℕ) → Type 0
    Searched z x r o =
        Searches (given_in u a (met_by x v a.live) r o) a.built.leaving a.built.groups s z (written_in a k) l total count number

    exactly : Good card (before (header_in u) a)
        → left_by u a met s k (go_answer total count number) l ≡ go_made (card_map card) (before (header_in u) a) v s k
    exactly g =
        let searched = on-card card u Searched target_is access-is roads_are order_is d in
        found-is u a met s k (searched.exact (as_left u g v p.starts.aimed))
