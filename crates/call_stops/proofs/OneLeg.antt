-- One leg, an aim and a go that met their contracts: what stays (`leg-stays`), and on a state that a list of calls left, what was made
-- (`leg-done`). Assumes nothing.
use mathlib.Core.Path.{◌∙◌, ◌≡◌, ap, refl, subst, sym}
use mathlib.Core.Logic.{inl, inr}
use mathlib.Core.Bool.{◌&&◌, true}
use mathlib.Core.Option.{Option, none, some}
use mathlib.Core.List.{List}
use Prim.Native.Nat.{◌<◌, ◌≤◌, ℕ}
use borrow.Author.Tests.{le-leb, lt-ltb}
use lib.ListN.{length}
use native.Mathlib.Omega.{arith}
use denote.Triple.Both.{Both}
use Rattle.graph.specs.Total.{Tested}
use Rattle.graph.proofs.Total.{decide}
use Rattle.model.specs.Types.{Answered, Header, Lengths, Refusal}
use Rattle.model.specs.Limits.{classes}
use Rattle.model.specs.Card.{card_map, map_on}
use Rattle.model.specs.Areas.{Areas}
use Rattle.model.specs.State.{Lent, State, Step, fitting, leaving, usable}
use Rattle.model.specs.Machine.{is_at}
use Rattle.model.specs.Aim.{aim_made, aim_refusal}
use Rattle.model.specs.Go.{go_made, go_refusal}
use Rattle.model.specs.Stops.{leg_made}
use Rattle.model.specs.Calls.{Aim, Call, Go, Left, Writes, asked_of, calling, refusal_by, step}
use Rattle.model.specs.Promises.{CallContract, after, base_on, before, refusing}
use Rattle.model.specs.Good.{Good}
use Rattle.model.proofs.Good.{aim-good, good-fits, unless-none}
use Rattle.model.proofs.Chain.{left_step}
use Rattle.call_stops.specs.Legs.{LegMade}

-- ---- what stays: the header's numbers, what was built, the live times

pub record Stays (s t : State) : Type 0 where
  pub leaves : t ≡ leaving s t.header.target s.areas.live t.areas.aimed t.areas.trip

pub stays_same : {s : State} → Stays s s
stays_same = record { leaves = refl }

pub stays_on : {s t u : State} → Stays s t → Stays t u → Stays s u
stays_on {s} {t} {u} f g = record {
  leaves =
      g.leaves
      ∙ ap (λ (x : State). leaving x u.header.target x.areas.live u.areas.aimed u.areas.trip) f.leaves;
}

-- a call that is refused leaves all, so what it writes decides
module _ {card : List ℕ} {s : State} {c : Call} {r : Step} (m : CallContract card s c r)
    (written : Writes s c.asked c.lent r → Stays s r.state) where
  stays-refused : (q : Refusal) → r ≡ refusing q s c → Stays s r.state
  stays-refused q e = subst (λ (u : Step). Stays s u.state) (sym e) stays_same

  call_stays : Stays s r.state
  call_stays = go (decide (usable card s.header && fitting card s))
    where
      asked : (x : Option Refusal) → refusal_by (base_on card) s.header c ≡ x → usable card s.header && fitting card s ≡ true
          → Stays s r.state
      asked (some q) h e = stays-refused q ((m.anywhere e).refuses q h)
      asked none h e = written ((m.anywhere e).writes h)

      go : Tested (usable card s.header && fitting card s) → Stays s r.state
      go (inl e) = asked (refusal_by (base_on card) s.header c) refl e
      go (inr e) = stays-refused Lengths (m.lengths e)

module _ {card : List ℕ} {s : State} {l : Lent} {r : Step} where
  aim-stays : {j : ℕ} → CallContract card s (calling (Aim j) l) r → Stays s r.state
  aim-stays m = call_stays m (λ w. subst (λ (u : Step). Stays s u.state) (sym w) (record { leaves = refl }))

  go-stays : {c j : ℕ} → CallContract card s (calling (Go c j) l) r → Stays s r.state
  go-stays m = call_stays m (λ w. subst (Stays s) (sym w.leaves) (record { leaves = refl }))

pub leg-stays : {card : List ℕ} {h : Header} {a : Both Areas Areas} {l : Both Lent Lent} {c from to : ℕ} {x : Answered}
    → LegMade card h a l c from to x → Stays (before h a.entry) (before x.header a.exit)
leg-stays m = stays_on (aim-stays m.aims) (go-stays m.goes)

-- an aim, and a go on what it left
pub leg_of : {card : List ℕ} {h : Header} {a : Both Areas Areas} {l : Both Lent Lent} {c from to : ℕ} {x : Answered} {aimed : Step}
    → CallContract card (before h a.entry) (calling (Aim to) l.entry) aimed
    → CallContract card aimed.state (calling (Go c from) l.entry) (after x a.exit l.exit) → LegMade card h a l c from to x
leg_of {aimed = aimed} m g = record { aimed = aimed; aims = m; goes = g }

-- ---- what was made, on a state that a list of calls left

module _ {card : List ℕ} {s : State} (g : Good card s) (j : ℕ) (l : Lent) (below : j < (map_on card).vertices) where
  aim-passes : asked_of card s (calling (Aim j) l) ≡ none
  unfolding aim_refusal
  aim-passes = rw (good-fits g, lt-ltb j s.header.n (omega (arith, g.n-is, below)))

  go-passes : (c : ℕ) → c < classes → is_at s.header.target ≡ true
      → (map_on card).vertices ≤ length l.route → (map_on card).vertices ≤ length l.log → asked_of card s (calling (Go c j) l) ≡ none
  unfolding go_refusal
  go-passes c driven aimed route log =
      let n = s.header.n in
      rw (
        good-fits g,
        lt-ltb c classes driven,
        lt-ltb j n (omega (arith, g.n-is, below)),
        aimed,
        le-leb n (length l.route) (omega (arith, g.n-is, route)),
        le-leb n (length l.log) (omega (arith, g.n-is, log)),
      )

  aim-steps : step card s (calling (Aim j) l) ≡ aim_made (map_on card) s j l
  unfolding step
  aim-steps = unless-none (asked_of card s (calling (Aim j) l)) s l (aim_made (map_on card) s j l) aim-passes

  go-steps : (c : ℕ) → c < classes → is_at s.header.target ≡ true
      → (map_on card).vertices ≤ length l.route → (map_on card).vertices ≤ length l.log
      → step card s (calling (Go c j) l) ≡ go_made (card_map card) s c j l
  unfolding step
  go-steps c driven aimed route log =
      unless-none (asked_of card s (calling (Go c j) l)) s l (go_made (card_map card) s c j l) (go-passes c driven aimed route log)

-- the leg that the definition makes, and a state that a list of calls left again
pub record LegDone (card : List ℕ) (c : ℕ) (s : State) (a b : ℕ) (l : Lent) (u : Step) : Type 0 where
  pub made : u ≡ leg_made (card_map card) c s a b l
  pub left : Left card u.state

pub leg-done : {card : List ℕ} {h : Header} {a : Both Areas Areas} {l : Both Lent Lent} {c from to : ℕ} {x : Answered}
    → LegMade card h a l c from to x → Left card (before h a.entry) → Good card (before h a.entry)
    → c < classes → from < (map_on card).vertices → to < (map_on card).vertices
    → (map_on card).vertices ≤ length l.entry.route → (map_on card).vertices ≤ length l.entry.log
    → LegDone card c (before h a.entry) from to l.entry (after x a.exit l.exit)
leg-done {card} {h} {a} {l} {c} {from} {to} {x} m w g lc lf lt route log =
    let s = before h a.entry in
    let u = after x a.exit l.exit in
    let aimed-is : m.aimed ≡ step card s (calling (Aim to) l.entry) = m.aims.exact w in
    let left-aimed : Left card m.aimed.state =
    subst (λ (t : Step). Left card t.state) (sym aimed-is) (left_step card (calling (Aim to) l.entry) w) in
    let gone-is : u ≡ step card m.aimed.state (calling (Go c from) l.entry) = m.goes.exact left-aimed in
    let there : m.aimed.state ≡ (aim_made (map_on card) s to l.entry).state =
    ap (λ (t : Step). t.state) (aimed-is ∙ aim-steps g to l.entry lt) in
    record {
      made =
          gone-is
          ∙ ap (λ (t : State). step card t (calling (Go c from) l.entry)) there
          ∙ go-steps (aim-good g to l.entry lt) from l.entry lf c lc refl route log;
      left = subst (λ (t : Step). Left card t.state) (sym gone-is) (left_step card (calling (Go c from) l.entry) left-aimed);
    }
