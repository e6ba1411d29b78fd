-- An estimate by what its questions said and what was written (`estimate-made`). Assumes nothing.
use Rattle.std.specs.Prelude.{Ok}
use mathlib.Core.Path.{◌∙◌, ◌≡◌, ap, ap₂, refl, subst, sym}
use mathlib.Core.Bool.{true}
use mathlib.Core.Option.{none}
use mathlib.Core.List.{List}
use Prim.Native.Nat.{◌<◌, ℕ}
use borrow.Author.Tests.{ltb-true}
use lib.Dec.{ltb}
use Rattle.model.specs.Types as model
use Rattle.model.specs.Types.{NoJunction, NoTarget}
use Rattle.model.specs.Layout.{order_in, roads_in}
use Rattle.model.specs.Card.{card_map}
use Rattle.model.specs.Areas.{Aimed, Areas, Each, lengths}
use Rattle.model.specs.State.{Lent, Step, answering, leaving}
use Rattle.model.specs.Machine.{is_at, target_of}
use Rattle.model.specs.Estimate.{EstimateWrites, estimate_refusal, with_estimates}
use Rattle.model.specs.Calls.{Estimate, calling, made}
use Rattle.model.specs.Promises.{CallContract, after, before}
use Rattle.model.proofs.Laws.{ask-none}
use Rattle.model.specs.Good.{Good}
use Rattle.network.specs.declared.Time.{Time}
use Rattle.unit_answers.specs.declared.Answer.TheVariants as answers
use Rattle.pairs_hierarchy.specs.Estimates as estimates-of
use Rattle.calls.specs.Shape.{Handed, Held, answered_in, header_in, target_in}
use Rattle.calls.specs.Meets.{with_aimed}
use Rattle.calls.specs.Refused.{made_by}
use Rattle.calls.specs.Bodies.{estimated-at, good-prepared}
use Rattle.calls.specs.Made.{CallPassed, aimed-at, passed_of}

module _ {card : List ℕ} {h : Held} {l : Each ℕ} where
  pub estimate-below : {j : ℕ} → CallPassed card h l (Estimate j) → (j < h.sizes.n) × (is_at (target_in h.target) ≡ true)
  unfolding estimate_refusal
  estimate-below {j} p =
      let (below, then) = ask-none (ltb j h.sizes.n) NoJunction _ p.asked in
      (ltb-true j h.sizes.n below, (ask-none (is_at (target_in h.target)) NoTarget none then).0)

-- ---- estimate: v is that of the junction j, and e are the estimates with those that it filled

pub estimate-made : {card : List ℕ} {h : Held} {a : Areas} {k : Lent} {l : Each ℕ} {j : ℕ} → lengths a ≡ l
    → CallPassed card h l (Estimate j) → {ranks pairs times order down estimates e : List ℕ} {v : Time}
    → a.built.ranks ≡ ranks → a.built.pairs ≡ pairs → a.built.times ≡ times
    → a.aimed ≡ record { down = down; estimates = estimates } → order ≡ order_in card
    → estimates-of.Estimated order ranks pairs times h.sizes.pairs down estimates e j v.0
    → {r : Handed} → r ≡ record { header = h; answer = Ok (answers.Estimated v) }
    → CallContract card (before (header_in h) a) (calling (Estimate j) k) (after (answered_in r) (with_aimed a down e) k)
estimate-made {card} {h} {a} {k} {j} lengths-are p {down = down} {e = e} {v} ranks_are pairs_are times_are aimed-is order_is done {r}
    handed =
    let here = estimated-at order_is ranks_are pairs_are times_are aimed-is done in
    let left : after (answered_in r) (with_aimed a down e) k ≡ answered_with v.0 e =
    ap (λ (s : Handed). after (answered_in s) (with_aimed a down e) k) handed
    ∙ ap (λ (c : Aimed (List ℕ)). answering (model.Estimated v.0) (leaving (before (header_in h) a) (target_in h.target) a.live
    (record { down = c.down; estimates = e }) a.trip) k) (sym aimed-is) in
    made_by (passed_of a lengths-are p).fits p.asked (λ g. left ∙ estimated here g)
    (subst (EstimateWrites (before (header_in h) a) k) (sym left)
    (record { time = v.0; known = here.answered; leaves = refl; kept = here.kept }))
  where
    answered_with : ℕ → List ℕ → Step
    answered_with t z = answering (model.Estimated t) (leaving (before (header_in h) a) (target_in h.target) a.live
        (with_estimates a.aimed z) a.trip) k

    estimated : estimates-of.Estimated (order_in card) a.built.ranks a.built.pairs a.built.times h.sizes.pairs
        a.aimed.down a.aimed.estimates e j v.0
        → Good card (before (header_in h) a) → answered_with v.0 e ≡ made (card_map card) (before (header_in h) a) (Estimate j) k
    estimated d g =
        let z = target_of (target_in h.target) in
        let aims = aimed-at g (estimate-below p).1 in
        let (value-is, estimates_are) = d.exact (roads_in card) (good-prepared g) z aims in
        ap₂ answered_with value-is estimates_are
