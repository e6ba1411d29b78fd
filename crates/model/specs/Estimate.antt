-- Estimate: "the least base total to the target, or none". Definitions only.
use Rattle.std.specs.Prelude.{◌≡◌, Bool, cond, List, ℕ, ltb, get_or}
use Rattle.std.proofs.Math.Option.{Option, none}
use Rattle.graph.specs.Least.{IsLeast}
use Rattle.graph.specs.Map.{Map, estimate_of, fills}
use Rattle.model.specs.Word.{of_word, unasked, word}
use Rattle.model.specs.Types.{At, Estimated, NoJunction, NoTarget, Refusal}
use Rattle.model.specs.Bytes.{listed}
use Rattle.model.specs.Card.{ask}
use Rattle.model.specs.Areas.{Aimed}
use Rattle.model.specs.State.{Lent, State, Step, answering, leaving}
use Rattle.model.specs.Machine.{BasePath, Known, Machine, Told, is_at, least_base, target_of, telling}

-- ---- what is asked: a junction; nothing is lent with it

-- 12: "Is the junction below n?", then 13: "Is there a target?"
unfoldable pub estimate_refusal : Known → (junction : ℕ) → Option Refusal
estimate_refusal k j = ask (ltb j k.n) NoJunction (ask (is_at k.target) NoTarget none)

-- ---- what it answers and leaves

-- the entries that p names "are filled; other entries are untouched"
abbrev pub filled : Map → (target : ℕ) → (p : ℕ → Bool) → (estimates : List ℕ) → List ℕ
filled M z p e = listed M.vertices (λ v. cond (p v) (word (estimate_of M z v)) (get_or e v 0))

-- the down totals stay
abbrev pub with_estimates : Aimed (List ℕ) → List ℕ → Aimed (List ℕ)
with_estimates a e = record { down = a.down; estimates = e }

-- "After it, that junction and all reached from it through up times are filled"
abbrev pub estimate_made : Map → State → (junction : ℕ) → Lent → Step
estimate_made M s j l =
    let z = target_of s.header.target in
    let a = s.areas.aimed in
    answering (Estimated (word (estimate_of M z j)))
    (leaving s s.header.target s.areas.live (with_estimates a (filled M z (fills M j) a.estimates)) s.areas.trip) l

-- ---- what the plain machine does: "answers the least base total over chains of roads .. or none"

abbrev pub estimate_told : Map → Machine → (junction : ℕ) → Told
estimate_told M m j = telling (Estimated (word (least_base M (target_of m.target) j))) m

-- ---- what is right about it

-- "Every estimate answered is the least base total to the target in force, or none exactly when no chain of roads, open or closed, leads
-- there."
abbrev pub LeastBase : Map → (target junction : ℕ) → Step → Type 0
LeastBase M z j u = (t : ℕ) → u.answer ≡ Estimated t → IsLeast (BasePath M j z) (of_word t)

abbrev pub EstimateRight : Map → Machine → (junction : ℕ) → Step → Type 0
EstimateRight M m j u = (z : ℕ) → m.target ≡ At z → LeastBase M z j u

-- ---- what it leaves in any state whose lengths fit: it answers a time that is not unasked and writes estimates alone, none that is filled

-- what is filled stays: an estimate that is not unasked before a call, in e, is the same after it, in z
pub record Kept (e z : List ℕ) : Type 0 where
  pub stays : (i : ℕ) → (get_or e i 0 ≡ unasked → ⊥) → get_or z i 0 ≡ get_or e i 0

pub record EstimateWrites (s : State) (l : Lent) (r : Step) : Type 0 where
  pub time : ℕ
  pub known : time ≡ unasked → ⊥
  pub leaves : r
      ≡ answering (Estimated time) (leaving s s.header.target s.areas.live
      (with_estimates s.areas.aimed r.state.areas.aimed.estimates) s.areas.trip) l
  pub kept : Kept s.areas.aimed.estimates r.state.areas.aimed.estimates
