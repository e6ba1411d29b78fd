-- The words of a header and of an answer, by the header and the answer. Assumes nothing.
use mathlib.Core.Path.{◌≡◌, subst}
use mathlib.Core.List.{List}
use Prim.Native.Nat.{ℕ}
use denote.Triple.Both.{Both}
use Rattle.model.specs.Areas.{Areas}
use Rattle.model.specs.State.{Lent}
use Rattle.model.specs.Calls.{Asked}
use Rattle.unit.specs.declared.Header.{Header}
use Rattle.unit.specs.declared.Answered.{Answered}
use Rattle.unit.specs.declared.Stopped.{Stopped}
use Rattle.unit.specs.Shape.{header_in}
use Rattle.unit.specs.Meets.{Meets, MeetsAlone, MeetsPreview}
use Rattle.unit.specs.Stops.{MeetsStops}
use Rattle.unit_script.specs.Script.{ReplayContract}
use Rattle.unit_c.specs.declared.UnitHeader.{UnitHeader}
use Rattle.unit_c.specs.declared.UnitAnswer.{UnitAnswer}
use Rattle.unit_c.specs.declared.UnitStops.{UnitStops}
use Rattle.unit_c.specs.Answers.{Tells, TellsHeader, answer_words, header_words}
use Rattle.unit_c.specs.Stops.{TellsStops, stops_words}

-- ---- the calls

module _ {card : List ℕ} {a : Both Areas Areas} {c : Asked} {h k : Header} {w : UnitAnswer}
    (x : Answered) (e : h ≡ k) (told : w ≡ answer_words x) where
  pub call-told : {l : Both Lent Lent} → Meets card h a l c x → Tells (Meets card k a l c) w
  call-told {l} m = (x, told, subst (λ (y : Header). Meets card y a l c x) e m)

  pub alone-told : MeetsAlone card h a c x → Tells (MeetsAlone card k a c) w
  alone-told m = (x, told, subst (λ (y : Header). MeetsAlone card y a c x) e m)

pub preview-told : {card : List ℕ} {a : Both Areas Areas} {work work' : List ℕ} {class road time start : ℕ} {h k : Header}
    {w : UnitAnswer} (x : Answered) → h ≡ k → w ≡ answer_words x → MeetsPreview card h a work work' class road time start x
    → Tells (MeetsPreview card k a work work' class road time start) w
preview-told {card} {a} {work} {work'} {class} {road} {time} {start} x e told m =
    (x, told, subst (λ (y : Header). MeetsPreview card y a work work' class road time start x) e m)

-- ---- a script

pub replay_told : {card : List ℕ} {a : Both Areas Areas} {l : Both Lent Lent} {v : ℕ} {script out₀ out : List ℕ} {h k : Header}
    {w : UnitHeader} (x : Header) → h ≡ k → w ≡ header_words x → ReplayContract card (header_in h) a l v script out₀ out (header_in x)
    → TellsHeader (λ y. ReplayContract card (header_in k) a l v script out₀ out (header_in y)) w
replay_told {card} {a} {l} {v} {script} {out₀} {out} x e told m =
    (x, told, subst (λ (y : Header). ReplayContract card (header_in y) a l v script out₀ out (header_in x)) e m)

-- ---- a list of stops

pub stops-told : {card : List ℕ} {a : Both Areas Areas} {l : Both Lent Lent} {c : ℕ} {stops : List ℕ} {h k : Header} {w : UnitStops}
    (x : Stopped) → h ≡ k → w ≡ stops_words x → MeetsStops card h a l c stops x → TellsStops (MeetsStops card k a l c stops) w
stops-told {card} {a} {l} {c} {stops} x e told m = (x, told, subst (λ (y : Header). MeetsStops card y a l c stops x) e m)
