-- The calls by what their questions said: passed, or a refusal. Assumes nothing.
use Rattle.std.proofs.Common.{◌∙◌, ap, subst, sym}
use Rattle.std.specs.Prelude.{◌≡◌, Err, Ok, Result, refl, true, List, ℕ}
use Rattle.std.proofs.Math.Option.{none, some}
use Rattle.graph.proofs.Total.{true_false}
use Rattle.model.specs.Types as model
use Rattle.model.specs.Types.{At, Header, Lengths, Target}
use Rattle.model.specs.Card.{ask, map_on}
use Rattle.model.specs.Areas.{Aimed, Areas, Each, lengths}
use Rattle.model.specs.State.{Lent, State}
use Rattle.model.specs.Machine.{is_at, target_of}
use Rattle.model.specs.Calls.{Asked, Call, calling, known_of, refusal_by, refusal_of}
use Rattle.model.specs.Promises.{CallContract, after, base_on, before}
use Rattle.model.proofs.Laws.{ask-none}
use Rattle.model.specs.Good.{AimFacts, Aims, Good}
use Rattle.network.specs.Refusals.{refusal_in, verdict_in}
use Rattle.network.specs.declared.Refusal as code
use Rattle.unit_questions.specs.Lending.{fits_by}
use Rattle.calls.specs.Shape.{Handed, Held, answered_in, header_in}
use Rattle.calls.specs.Meets.{asks, with_aimed, with_live}
use Rattle.calls.specs.Refused.{refused-by}
use Rattle.calls.specs.Fitting.{Fits, fits-facts}

-- ---- what the questions passed

-- 9 and the questions of the call c itself pass, so card and areas have the lengths that the header calls for
pub record CallPassed (card : List ℕ) (h : Held) (l : Each ℕ) (c : Asked) : Type 0 where
  pub fits : fits_by (header_in h) card l ≡ true
  pub asked : refusal_of (known_of (base_on card) (header_in h)) c 0 0 ≡ none
  pub sizes : Fits (header_in h) card l

module _ {card : List ℕ} {h : Held} {l : Each ℕ} where
  pub call-passed : {c : Asked} {x : Result Unit code.Refusal} → x ≡ Ok tt → verdict_in x ≡ asks (base_on card) (header_in h) card l c 0 0
      → CallPassed card h l c
  call-passed {c} passes verdict-is =
      let own = refusal_of (known_of (base_on card) (header_in h)) c 0 0 in
      let (fits, asked) = ask-none (fits_by (header_in h) card l) Lengths own (sym (ap verdict_in (sym passes) ∙ verdict-is)) in
      record { fits = fits; asked = asked; sizes = fits-facts fits }

  -- of areas that have these lengths
  pub passed_of : {c : Asked} (a : Areas) → lengths a ≡ l → CallPassed card h l c → CallPassed card h (lengths a) c
  passed_of {c} a w p = subst (λ (x : Each ℕ). CallPassed card h x c) (sym w) p

at_target : (z : Target) → is_at z ≡ true → z ≡ At (target_of z)
at_target (At k) e = refl
at_target model.Absent e = absurd (true_false e refl)

-- the down totals and estimates of the target in force
pub aimed-at : {card : List ℕ} {h : Header} {a : Areas} → Good card (before h a) → is_at h.target ≡ true
    → AimFacts (map_on card) (target_of h.target) a.aimed.down a.aimed.estimates
aimed-at {card} {h} {a} g e =
    subst (λ (y : Target). Aims (map_on card) y a.aimed.down a.aimed.estimates) (at_target h.target e) g.aims

-- ---- a refusal leaves header and areas as they were

pub refused : {card : List ℕ} {h : Held} {a : Areas} {c : Asked} {k : Lent} {x : Result Unit code.Refusal} {q : code.Refusal} {r : Handed}
    {l : Each ℕ} → lengths a ≡ l → x ≡ Err q
    → verdict_in x ≡ ask (fits_by (header_in h) card l) Lengths (refusal_by (base_on card) (header_in h) (calling c k))
    → r ≡ record { header = h; answer = Err q }
    → CallContract card (before (header_in h) a) (calling c k) (after (answered_in r) a k)
refused {card} {h} {a} {c} {k} {q} lengths-are fails verdict-is handed =
    let own = refusal_by (base_on card) (header_in h) (calling c k) in
    let says-no : some (refusal_in q) ≡ ask (fits_by (header_in h) card (lengths a)) Lengths own =
    ap verdict_in (sym fails) ∙ verdict-is
    ∙ ap (λ (y : Each ℕ). ask (fits_by (header_in h) card y) Lengths own) (sym lengths-are) in
    subst (λ (y : Handed). CallContract card (before (header_in h) a) (calling c k) (after (answered_in y) a k)) (sym handed)
    (refused-by says-no)

-- the areas as they were, by those of them that were handed on
module _ {card : List ℕ} {s : State} {a : Areas} {c : Call} {x : model.Answered} {k : Lent}
    (m : CallContract card s c (after x a k)) where
  pub same_live : {live : List ℕ} → a.live ≡ live → CallContract card s c (after x (with_live a live) k)
  same_live u = subst (λ (z : List ℕ). CallContract card s c (after x (with_live a z) k)) u m

  pub same-aimed : {d e : List ℕ} → a.aimed ≡ record { down = d; estimates = e }
      → CallContract card s c (after x (with_aimed a d e) k)
  same-aimed u = subst (λ (z : Aimed (List ℕ)). CallContract card s c (after x (with_aimed a z.down z.estimates) k)) u m
