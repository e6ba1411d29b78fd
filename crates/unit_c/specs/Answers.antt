-- Headers and answers as C holds them. Definitions, and that a header comes back from its words.
use Rattle.std.specs.Prelude.{◌≡◌, refl, cond, Err, None, Ok, Option, Result, Some, ℕ, eqb, pos, ℤ}
use Rattle.model.specs.Word.{word}
use Rattle.network.specs.declared.Junction.{Junction}
use Rattle.network.specs.declared.Refusal.{Refusal}
use Rattle.network.specs.declared.Sizes.{Sizes}
use Rattle.network.specs.Refusals.{refusal_in}
use Rattle.unit_answers.specs.declared.Answer.{Answer}
use Rattle.unit_answers.specs.declared.Answer.TheVariants.{Accepted, Estimated, Gone, Previewed}
use Rattle.unit_answers.specs.Shape.{total_in}
use Rattle.unit.specs.declared.Header.{Header}
use Rattle.unit.specs.declared.Answered.{Answered}
use Rattle.unit_c.specs.declared.UnitHeader.{UnitHeader}
use Rattle.unit_c.specs.declared.UnitAnswer.{UnitAnswer}

-- ---- headers

-- there is a target where `aimed` is not 0
abbrev pub target_of : (aimed target : ℕ) → Option Junction
target_of a t = cond (eqb a 0) None (Some (record { 0 = t }))

-- the header that C's words stand for
abbrev pub header_of : UnitHeader → Header
header_of h =
    record { sizes = record { n = h.n; m = h.m; pairs = h.pairs; card = h.card }; target = target_of h.aimed h.target }

abbrev pub header_to : Sizes → Option Junction → UnitHeader
header_to s None = record { n = s.n; m = s.m; pairs = s.pairs; card = s.card; aimed = 0; target = 0 }
header_to s (Some z) = record { n = s.n; m = s.m; pairs = s.pairs; card = s.card; aimed = 1; target = z.0 }

-- the words that stand for a header
abbrev pub header_words : Header → UnitHeader
header_words h = header_to h.sizes h.target

header-to : (s : Sizes) (t : Option Junction) → header_of (header_to s t) ≡ record { sizes = s; target = t }
header-to s None = refl
header-to s (Some z) = refl

-- so a caller that keeps the words it is handed makes a list of the unit's calls
pub header-back : (h : Header) → header_of (header_words h) ≡ h
header-back h = header-to h.sizes h.target

-- ---- answers

-- an answer that is no preview's
abbrev pub plain_words : UnitHeader → (question place total count roads : ℕ) → UnitAnswer
plain_words h q i t c k = record {
  header = h;
  question = q;
  place = i;
  compared = 0;
  total = t;
  count = c;
  roads = k;
  then = 0;
  change = pos 0;
}

-- a preview's totals, the mark none where there is none, and the change; 0 where there is none, which the flag tells from a change by 0
abbrev pub preview_words : UnitHeader → (present new compared : ℕ) → ℤ → UnitAnswer
preview_words h a b f d = record {
  header = h;
  question = 0;
  place = 0;
  compared = f;
  total = a;
  count = 0;
  roads = 0;
  then = b;
  change = d;
}

abbrev pub compared_to : UnitHeader → (present new : ℕ) → Option ℤ → UnitAnswer
compared_to h a b (Some d) = preview_words h a b 1 d
compared_to h a b None = preview_words h a b 0 (pos 0)

abbrev pub answer_to : UnitHeader → Result Answer Refusal → UnitAnswer
answer_to h (Err q) = let r = refusal_in q in plain_words h r.question r.place 0 r.count 0
answer_to h (Ok Accepted) = plain_words h 0 0 0 0 0
answer_to h (Ok (Estimated t)) = plain_words h 0 0 t.0 0 0
answer_to h (Ok (Gone t c k)) = plain_words h 0 0 t c k
answer_to h (Ok (Previewed a b c)) = compared_to h (word (total_in a)) (word (total_in b)) c

-- the words that stand for what is handed back
abbrev pub answer_words : Answered → UnitAnswer
answer_words r = answer_to (header_words r.header) r.answer

-- the words of a header that P holds of
abbrev pub TellsHeader : (P : Header → Type 0) → UnitHeader → Type 0
TellsHeader P w = (k : Header) × (w ≡ header_words k) × P k

-- the words of something handed back that P holds of
abbrev pub Tells : (P : Answered → Type 0) → UnitAnswer → Type 0
Tells P w = (x : Answered) × (w ≡ answer_words x) × P x
