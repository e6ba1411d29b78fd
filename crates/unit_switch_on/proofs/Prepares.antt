-- The ways through preparing: questions 1 to 7, and what is handed back. Assumes nothing.
use mathlib.Core.Path.{◌∙◌, ◌≡◌, ap, ap₂, refl, sym}
use mathlib.Core.Bool.{Bool, true}
use mathlib.Core.Option.{Option, none, some}
use mathlib.Core.List.{List}
use Prim.Native.Nat.{◌<◌, ℕ}
use lib.ListN.{length}
use native.Mathlib.Omega.{arith}
use Rattle.model.specs.Types.{Answered, AreaLengths, Read, Refusal, Unreadable}
use Rattle.model.specs.Card.{ask, card_refusal, map_on, read_card, reading}
use Rattle.model.specs.Areas.{Areas, Each, lengths, lengths_fit}
use Rattle.model.specs.State.{areas_refusal, none_lent, prepare}
use Rattle.model.specs.Promises.{PrepareContract, after}
use Rattle.model.proofs.Laws.{read_is}
use Rattle.model.proofs.Accept.{card-facts}
use Rattle.unit_preparing.specs.Preparing.{Accepts, refused_by}

-- ---- questions 1 to 7

unread : (n m : ℕ) (x : Option Refusal) (q : Refusal) → Unreadable q ≡ reading n m x → x ≡ some q
unread n m none q e = absurd (let z : ◌≡◌ {A = ℕ} 0 1 = cc in omega arith)
unread n m (some p) q e = let z : q ≡ p = cc in ap some (sym z)

-- the length of a card that is read is a word
pub word-long : (card : List ℕ) {n m : ℕ} → Read n m ≡ read_card card → length card < 4294967296
word-long card {n} {m} e =
    (card-facts card (read_is (map_on card).vertices (map_on card).base.arcs n m (card_refusal card) e).0).size

module _ (card : List ℕ) (a : Areas) where
  pub asked-unread : {q : Refusal} → Unreadable q ≡ read_card card → areas_refusal card a ≡ some q
  unfolding areas_refusal
  asked-unread {q} e = rw (unread (map_on card).vertices (map_on card).base.arcs (card_refusal card) q e)

  module _ {n m : ℕ} (e : Read n m ≡ read_card card) {l : Each ℕ} (k : l ≡ lengths a) {b : Bool} (f : b ≡ lengths_fit n m 0 l) where
    read_facts : (card_refusal card ≡ none) × (n ≡ (map_on card).vertices) × (m ≡ (map_on card).base.arcs)
    read_facts = read_is (map_on card).vertices (map_on card).base.arcs n m (card_refusal card) e

    fits : lengths_fit (map_on card).vertices (map_on card).base.arcs 0 (lengths a) ≡ b
    fits =
        let (_, n-is, m-is) = read_facts in
        sym (f ∙ ap (lengths_fit n m 0) k ∙ ap₂ (λ (x : ℕ) (y : ℕ). lengths_fit x y 0 (lengths a)) n-is m-is)

    pub asked_7 : {q : Refusal} → some q ≡ ask b AreaLengths none → areas_refusal card a ≡ some q
    unfolding areas_refusal
    asked_7 says-no = rw (read_facts.0, fits) (sym says-no)

    pub asked-passes : b ≡ true → Accepts card (record { n = n; m = m; pairs = 0; card = length card }) a
    unfolding areas_refusal
    asked-passes h =
        let (accepted, n-is, m-is) = read_facts in
        record {
          passes = rw (accepted, fits, h);
          n-is = n-is;
          m-is = m-is;
          card-is = refl;
        }

-- ---- what is handed back

module _ (card : List ℕ) (a : Areas) where
  pub prepare-refused : {q : Refusal} {x : Answered} → areas_refusal card a ≡ some q → x ≡ refused_by q → PrepareContract card a a x
  unfolding prepare
  prepare-refused e h = rw e (ap (λ (y : Answered). after y a none_lent) h)
