-- A set by what its questions said and what was written (`set-made`). Assumes nothing.
use Rattle.std.specs.Prelude.{Ok}
use mathlib.Core.Path.{◌∙◌, ◌≡◌, ap, ap₂, sym}
use mathlib.Core.List.{List}
use Prim.Native.Nat.{◌<◌, ℕ}
use borrow.Author.Tests.{ltb-true}
use lib.Dec.{ltb}
use lib.ListN.{set}
use Rattle.model.specs.Types as model
use Rattle.model.specs.Types.{NoRoad}
use Rattle.model.specs.Card.{card_map}
use Rattle.model.specs.Areas.{Areas, Each, lengths}
use Rattle.model.specs.State.{Lent}
use Rattle.model.specs.Set.{set_refusal}
use Rattle.model.specs.Calls.{Set, calling, made}
use Rattle.model.specs.Promises.{CallContract, after, before}
use Rattle.model.proofs.Laws.{ask-none}
use Rattle.unit_answers.specs.declared.Answer.TheVariants as answers
use Rattle.calls.specs.Shape.{Handed, Held, answered_in, header_in}
use Rattle.calls.specs.Meets.{with_live}
use Rattle.calls.specs.Refused.{made_by}
use Rattle.calls.specs.Made.{CallPassed, passed_of}

module _ {card : List ℕ} {h : Held} {l : Each ℕ} where
  pub set_below : {i t : ℕ} → CallPassed card h l (Set i t) → i < h.sizes.m
  unfolding set_refusal
  set_below {i} p = ltb-true i h.sizes.m (ask-none (ltb i h.sizes.m) NoRoad _ p.asked).0

-- ---- set: one live time is written

pub set-made : {card : List ℕ} {h : Held} {a : Areas} {k : Lent} {l : Each ℕ} {i t : ℕ} → lengths a ≡ l
    → CallPassed card h l (Set i t) → {live : List ℕ} → a.live ≡ live → {v : ℕ} → v ≡ t
    → {r : Handed} → r ≡ record { header = h; answer = Ok answers.Accepted }
    → CallContract card (before (header_in h) a) (calling (Set i t) k) (after (answered_in r) (with_live a (set live i v)) k)
set-made {card} {h} {a} {k} {i} {t} lengths-are p {live} live-is {v} time-is {r} handed =
    let written : after (answered_in r) (with_live a (set live i v)) k ≡ made (card_map card) (before (header_in h) a) (Set i t) k =
    ap (λ (s : Handed). after (answered_in s) (with_live a (set live i v)) k) handed
    ∙ ap₂ (λ (s : List ℕ) (b : ℕ). after (record { header = header_in h; answer = model.Accepted }) (with_live a (set s i b)) k)
    (sym live-is) time-is in
    made_by (passed_of a lengths-are p).fits p.asked (λ g. written) written
