-- What a call promises, by the header's parts and the areas at entry and at exit; its questions. Definitions only.
use Rattle.std.specs.Prelude.{List, ℕ, ltb, length}
use Rattle.std.proofs.Math.Option.{Option, none}
use denote.Triple.Both.{Both}
use Rattle.graph.specs.Total.{Total}
use Rattle.model.specs.Types as model
use Rattle.model.specs.Card.{and_then, ask}
use Rattle.model.specs.Areas.{Areas, Each}
use Rattle.model.specs.State.{Lent}
use Rattle.model.specs.Machine.{is_at, target_of}
use Rattle.model.specs.Preview.{WorkLeft}
use Rattle.model.specs.Calls.{Asked, Preview, calling, known_of, refusal_of}
use Rattle.model.specs.Promises.{CallContract, after, before}
use Rattle.unit_answers.specs.Shape.{answer_in}
use Rattle.unit_questions.specs.Lending.{fits_by, untouched}
use Rattle.calls.specs.Shape.{Handed, Held, answered_in, header_in}

-- ---- calls over all the areas

-- what a call on a card does to the header, the unit's areas and those that it is lent is document 01's
abbrev pub Called : (card : List ℕ) → Held → Both Areas Areas → Both Lent Lent → Asked → Handed → Type 0
Called card h a l c r = CallContract card (before (header_in h) a.entry) (calling c l.entry) (after (answered_in r) a.exit l.exit)

-- a call that is lent nothing beside the unit's areas: whatever is lent with it stays untouched
abbrev pub CalledAlone : (card : List ℕ) → Held → Both Areas Areas → Asked → Handed → Type 0
CalledAlone card h a c r = (l : Lent) → Called card h a (untouched l) c r

-- a preview is lent a work area beside them, of whose content nothing is said
pub record CalledPreview (card : List ℕ) (h : Held) (a : Both Areas Areas) (work work' : List ℕ) (class road time start : ℕ)
    (r : Handed) : Type 0 where
  pub call : CalledAlone card h a (Preview class road time start (length work)) r
  pub work-left : WorkLeft work work' (answer_in r.answer)

-- ---- questions 9 to 14 and 18, of the header, the card and lengths

-- 9 first, then the call's own questions; route and log are the lengths of what is lent
abbrev pub asks : (base : ℕ → Total) → model.Header → (card : List ℕ) → Each ℕ → Asked → (route log : ℕ) → Option model.Refusal
asks base h card l c r k = ask (fits_by h card l) model.Lengths (refusal_of (known_of base h) c r k)

-- the target is a junction: no list of calls leaves another, and 9 refuses it
abbrev pub target_asked : model.Header → Option model.Refusal
target_asked h = ask (ltb (target_of h.target) h.n) model.Lengths none

-- the same of a call that searches; then 9 for a target out of range
abbrev pub asks_trip : (base : ℕ → Total) → model.Header → (card : List ℕ) → Each ℕ → Asked → (route log : ℕ) → Option model.Refusal
asks_trip base h card l c r k = and_then (asks base h card l c r k) (target_asked h)

-- 12 and 13 of a start
abbrev pub start_asked : model.Header → (start : ℕ) → Option model.Refusal
start_asked h s = ask (ltb s h.n) model.NoJunction (ask (is_at h.target) model.NoTarget none)

-- ---- the areas with what a call writes

-- the areas of these lengths, with these live times
abbrev pub with_live : Areas → List ℕ → Areas
with_live a live = record { built = a.built; live = live; aimed = a.aimed; trip = a.trip }

abbrev pub with_aimed : Areas → (down estimates : List ℕ) → Areas
with_aimed a d e = record { built = a.built; live = a.live; aimed = record { down = d; estimates = e }; trip = a.trip }
