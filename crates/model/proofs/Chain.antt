-- Calls that meet their contracts, one after the other from a preparing, answer
-- and leave what the definitions say, and have demand 3. Assumes nothing.
use Rattle.std.proofs.Common.{◌∙◌, ap, ap₂, subst, sym, inl, inr}
use Rattle.std.specs.Prelude.{◌≡◌, refl, Bool, ◌&&◌, false, true, List, [], ◌++◌, ◌∷◌, ℕ}
use Rattle.std.proofs.Math.Option.{Option, none, some}
use Rattle.graph.specs.Total.{Tested}
use Rattle.graph.proofs.Total.{decide}
use Rattle.model.specs.Types.{Accepted, Lengths, Refusal, Refused}
use Rattle.model.specs.Card.{ask, card_map, map_on}
use Rattle.model.specs.Areas.{Areas}
use Rattle.model.specs.State.{Lent, State, Step, answering, fitting, prepare, unless, usable}
use Rattle.model.specs.Machine.{started}
use Rattle.model.specs.Calls.{Aim, Asked, Call, Estimate, Go, HandsBack, Left, Preview, Set, Stops, Writes, refusal_by, run, step}
use Rattle.model.specs.Calls.{steps}
use Rattle.model.specs.Demand3.{Demand3}
use Rattle.model.specs.Promises.{CallContract, base_on, refusing}
use Rattle.model.proofs.Proof3.{demand3}
use Rattle.model.specs.Chain.{Chain}

-- ---- wrong lengths: the step functions refuse by 9

unless-lengths : (b : Bool) (rest : Option Refusal) (s : State) (l : Lent) (r : Step)
    → b ≡ false → unless (ask b Lengths rest) s l r ≡ answering (Refused Lengths) s l
unless-lengths b rest s l r e = rw e

pub step-lengths : (card : List ℕ) (s : State) (c : Call) → fitting card s ≡ false → step card s c ≡ refusing Lengths s c
unfolding step
step-lengths card s c e = unless-lengths (fitting card s) _ s c.lent _ e

-- ---- "each call hands the header back", on every input

module _ {card : List ℕ} {s : State} {c : Call} {r : Step} (m : CallContract card s c r) where
  back-same : (a : Asked) → HandsBack a s.header s.header
  back-same (Set i t) = refl
  back-same (Aim j) = refl
  back-same (Estimate j) = refl
  back-same (Go k j) = refl
  back-same (Preview k i t j w) = refl
  back-same (Stops k stops) = refl

  back-refused : (q : Refusal) → r ≡ refusing q s c → HandsBack c.asked s.header r.state.header
  back-refused q e = rw e (back-same c.asked)

  back-written : (a : Asked) (l : Lent) → Writes s a l r → HandsBack a s.header r.state.header
  back-written (Set i t) l w = ap (λ (u : Step). u.state.header) w
  back-written (Aim j) l w = let e = ap (λ (u : Step). u.state.header) w in rw e
  back-written (Estimate j) l w = ap (λ (u : Step). u.state.header) w.leaves
  back-written (Go k j) l w = ap (λ (u : State). u.header) w.leaves
  back-written (Preview k i t j w) l x = ap (λ (u : State). u.header) x.leaves
  back-written (Stops k stops) l w = ap (λ (u : State). u.header) w.leaves

  pub hands_back : HandsBack c.asked s.header r.state.header
  hands_back = go (decide (usable card s.header && fitting card s))
    where
      asked : (x : Option Refusal) → refusal_by (base_on card) s.header c ≡ x → usable card s.header && fitting card s ≡ true
          → HandsBack c.asked s.header r.state.header
      asked (some q) h e = back-refused q ((m.anywhere e).refuses q h)
      asked none h e = back-written c.asked c.lent ((m.anywhere e).writes h)

      go : Tested (usable card s.header && fitting card s) → HandsBack c.asked s.header r.state.header
      go (inl e) = asked (refusal_by (base_on card) s.header c) refl e
      go (inr e) = back-refused Lengths (m.lengths e)

-- ---- one call more

module _ (card : List ℕ) where
  pub run_snoc : (s : State) (l : List Call) (c : Call) → run card s (l ++ (c ∷ [])) ≡ (step card (run card s l) c).state
  run_snoc s [] c = refl
  run_snoc s (d ∷ l) c = run_snoc (step card s d).state l c

  pub left-prepared : (a : Areas) → Left card (prepare card a).state
  left-prepared a = record { lent = a; calls = []; leaves = refl }

  pub left_step : {s : State} (c : Call) → Left card s → Left card (step card s c).state
  left_step {s} c w = record {
    lent = w.lent;
    calls = w.calls ++ (c ∷ []);
    leaves = run_snoc (prepare card w.lent).state w.calls c ∙ ap (λ (t : State). (step card t c).state) w.leaves;
  }

module _ (card : List ℕ) where
  pub chain_steps : (s : State) (l : List Call) (r : List Step) → Left card s → Chain card s l r → r ≡ steps card s l
  chain_steps s [] [] w h = refl
  chain_steps s [] (u ∷ r) w h = absurd h
  chain_steps s (c ∷ l) [] w h = absurd h
  chain_steps s (c ∷ l) (u ∷ r) w h =
      let e : u ≡ step card s c = h.0.exact w in
      let k : Chain card (step card s c).state l r = subst (λ (t : Step). Chain card t.state l r) e h.1 in
      ap₂ ◌∷◌ e (chain_steps (step card s c).state l r (left_step card c w) k)

  -- so any caller's list has demand 3, from the contracts alone
  pub chain_demand3 : (a : Areas) → (prepare card a).answer ≡ Accepted → (l : List Call) (r : List Step)
      → Chain card (prepare card a).state l r
      → Demand3 (card_map card) (started (map_on card)) l r
  chain_demand3 a e l r h =
      subst (λ (x : List Step). Demand3 (card_map card) (started (map_on card)) l x)
      (sym (chain_steps (prepare card a).state l r (left-prepared card a) h)) (demand3 card a e l)
