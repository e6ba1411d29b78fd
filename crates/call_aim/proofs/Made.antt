-- An aim by what its questions said and what was written (`aim-made`). Assumes nothing.
use Rattle.std.specs.Prelude.{Ok, Some}
use mathlib.Core.Path.{◌∙◌, ◌≡◌, ap, ap₂, sym}
use mathlib.Core.Option.{none}
use mathlib.Core.List.{List}
use Prim.Native.Nat.{◌<◌, ℕ}
use borrow.Author.Tests.{ltb-true}
use lib.Dec.{ltb}
use lib.ListN.{length, replicate}
use Rattle.graph.specs.Map.{down_total_of}
use Rattle.model.specs.Types as model
use Rattle.model.specs.Types.{At, Header, NoJunction}
use Rattle.model.specs.Word.{unasked, word}
use Rattle.model.specs.Bytes.{listed}
use Rattle.model.specs.Layout.{order_in, roads_in}
use Rattle.model.specs.Card.{map_on}
use Rattle.model.specs.Areas.{Aimed, Areas, Each, lengths}
use Rattle.model.specs.State.{Lent, Step, answering, leaving}
use Rattle.model.specs.Aim.{aim_refusal}
use Rattle.model.specs.Calls.{Aim, calling}
use Rattle.model.specs.Promises.{CallContract, after, before}
use Rattle.model.proofs.Laws.{ask-none}
use Rattle.model.specs.Good.{Good}
use Rattle.network.specs.declared.Junction.{Junction}
use Rattle.unit_answers.specs.declared.Answer.TheVariants as answers
use Rattle.pairs_descents.specs.Downs.{Descended}
use Rattle.calls.specs.Shape.{Handed, Held, answered_in, header_in}
use Rattle.calls.specs.Meets.{with_aimed}
use Rattle.calls.specs.Refused.{made_by}
use Rattle.calls.specs.Bodies.{descended_at, good-prepared}
use Rattle.calls.specs.Made.{CallPassed, passed_of}

module _ {card : List ℕ} {h : Held} {l : Each ℕ} where
  pub aim-below : {j : ℕ} → CallPassed card h l (Aim j) → j < h.sizes.n
  unfolding aim_refusal
  aim-below {j} p = ltb-true j h.sizes.n (ask-none (ltb j h.sizes.n) NoJunction none p.asked).0

-- ---- aim: d are the down totals of the target, and e are marks unasked

-- what is handed back and left
module _ (h : Header) (a : Areas) (j : ℕ) (k : Lent) where
  abbrev aimed_with : (down estimates : List ℕ) → Step
  aimed_with d e = answering model.Accepted (leaving (before h a) (At j) a.live (record { down = d; estimates = e }) a.trip) k

pub aim-made : {card : List ℕ} {h : Held} {a : Areas} {k : Lent} {l : Each ℕ} {j : Junction} → lengths a ≡ l
    → CallPassed card h l (Aim j.0) → {pairs times order down estimates d e : List ℕ} → a.built.pairs ≡ pairs → a.built.times ≡ times
    → a.aimed ≡ record { down = down; estimates = estimates } → order ≡ order_in card
    → Descended order pairs times h.sizes.pairs d j.0 → e ≡ replicate (length estimates) unasked
    → {r : Handed} → r ≡ record { header = record { sizes = h.sizes; target = Some j }; answer = Ok answers.Accepted }
    → CallContract card (before (header_in h) a) (calling (Aim j.0) k) (after (answered_in r) (with_aimed a d e) k)
aim-made {card} {h} {a} {k} {j} lengths-are p {d = d} {e} pairs_are times_are aimed-is order_is descended filled-is handed =
    let here = passed_of a lengths-are p in
    let left = ap (λ (s : Handed). after (answered_in s) (with_aimed a d e) k) handed in
    let unasked-are : e ≡ replicate (length a.aimed.estimates) unasked =
    filled-is ∙ ap (λ (b : Aimed (List ℕ)). replicate (length b.estimates) unasked) (sym aimed-is) in
    made_by here.fits p.asked
    (λ g. left ∙ ap₂ (aimed_with (header_in h) a j.0 k) (downs g)
    (unasked-are ∙ ap (λ (b : ℕ). replicate b unasked) (here.sizes.lengths.estimates ∙ g.n-is)))
    (left ∙ ap (aimed_with (header_in h) a j.0 k d) unasked-are)
  where
    downs : Good card (before (header_in h) a) → d ≡ listed (map_on card).vertices (λ v. word (down_total_of (map_on card) j.0 v))
    downs g =
        (descended_at order_is pairs_are times_are descended).exact (roads_in card) a.built.ranks (good-prepared g)
