-- Demand 3 in plain sentences: what it says of the call at any place of a list, for whoever reads the answers; each sentence of demand 3,
-- and of A2, A3, A5 and A6, from the one statement alone. Assumes nothing.
use Rattle.std.proofs.Common.{◌∙◌, ap, arith}
use Rattle.std.specs.Prelude.{◌≡◌, refl, ◌⊎◌, Bool, cond, false, true, ◌<◌, ◌≤◌, suc, zero, ℕ, ◌+ℤ◌, pos, ℤ, drop, get_or, length, take}
use Rattle.std.proofs.Math.Option.{Option, none, some}
use mathlib.Core.List.{List, Memᴰ, [], ◌++◌, ◌∷◌}
use Rattle.graph.specs.Total.{Total}
use Rattle.graph.proofs.Total.{none-some, ⊕-some}
use Rattle.graph.specs.Least.{IsLeast}
use Rattle.graph.proofs.Least.{least-number}
use Rattle.graph.specs.Route.{Leads, total_over}
use Rattle.graph.specs.Search.{Problem}
use Rattle.graph.specs.Network.{Network}
use Rattle.graph.specs.Stops.{Meeting}
use Rattle.graph.specs.Map.{Map, live_net, time_of}
use Rattle.model.specs.Word.{of_word}
use Rattle.model.specs.Types.{At, Estimated, Gone, Leg, NoLeg, NoPath, Previewed, Refusal, Refused, Stopped}
use Rattle.model.specs.Classes.{admits, class_live}
use Rattle.model.specs.Card.{CardMap}
use Rattle.model.specs.State.{Lent, Step}
use Rattle.model.specs.Machine.{BasePath, LivePath, Machine, known_to, target_of, unless_asked}
use Rattle.model.specs.Set.{changed}
use Rattle.model.specs.Go.{effort, effort_log, found_told, go_refusal, plain_search, reached_estimated, within_total}
use Rattle.model.specs.Stops.{FirstLost, FoundLogged, LegsRight, LostLogged, leg_at, stops_refusal, whole_of}
use Rattle.model.specs.Calls.{Call, estimate_call, go_call, machine_step, plain, preview_call, refusal_of, stops_call, told_of}
use Rattle.model.specs.Demand3.{AtCall, Demand3}
use Rattle.model.specs.Demand3Use.{machine_after}

pub at_place : (C : CardMap) (m : Machine) (l : List Call) (c : Call) (r : List Call) (us : List Step) (u : Step) (vs : List Step)
    → length l ≡ length us → Demand3 C m (l ++ (c ∷ r)) (us ++ (u ∷ vs)) → AtCall C (machine_after C m l) c u
at_place C m [] c r [] u vs e d = d.0
at_place C m [] c r (x ∷ us) u vs e d = let z : ⊥ = omega (arith, e) in absurd z
at_place C m (b ∷ l) c r [] u vs e d = let z : ⊥ = omega (arith, e) in absurd z
at_place C m (b ∷ l) c r (x ∷ us) u vs e d = at_place C (machine_step C m (plain b)).next l c r us u vs (omega (arith, e)) d.1

-- ---- any call: "the unit's answers are the machine's at each call of the list", "acceptance or refusal, estimate, total, count and number
-- of roads"; "the route and log that the machine gives stand first in go's two lent areas"

module _ {C : CardMap} {m : Machine} {c : Call} {u : Step} (a : AtCall C m c u) where
  pub answer_machines : u.answer ≡ (machine_step C m (plain c)).answer
  answer_machines = a.same.answer

  pub roads_machines : take (length (machine_step C m (plain c)).roads) u.lent.route ≡ (machine_step C m (plain c)).roads
  roads_machines = a.same.roads

  pub log_machines : take (length (machine_step C m (plain c)).log) u.lent.log ≡ (machine_step C m (plain c)).log
  log_machines = a.same.log

  -- the first question that refuses is answered
  pub refused-told : {q : Refusal} → refusal_of (known_to C.map m) c.asked (length c.lent.route) (length c.lent.log) ≡ some q
      → u.answer ≡ Refused q
  refused-told e = a.same.answer ∙ ap (λ (x : Option Refusal). (unless_asked x m (told_of C m c.asked)).answer) e

  -- a call that none refuses is answered as its request says
  pub passed-told : refusal_of (known_to C.map m) c.asked (length c.lent.route) (length c.lent.log) ≡ none
      → u.answer ≡ (told_of C m c.asked).answer
  passed-told e = a.same.answer ∙ ap (λ (x : Option Refusal). (unless_asked x m (told_of C m c.asked)).answer) e

-- each road of a list that has a total is open
opened : (N : Network) (l : List ℕ) (t : ℕ) → total_over N l ≡ some t → {i : ℕ} → Memᴰ i l → (x : ℕ) × (N.cost i ≡ some x)
opened N [] t e {i = i} x = elim x [ ]
opened N (j ∷ l) t e (Memᴰ.head q) =
    let (x, _, p, _, _) = ⊕-some (N.cost j) (total_over N l) t e in (x, ap (λ (i : ℕ). N.cost i) q ∙ p)
opened N (i ∷ l) t e (Memᴰ.tail h) = let (_, y, _, q, _) = ⊕-some (N.cost i) (total_over N l) t e in opened N l y q h

admitted : (b : Bool) (x : Total) {t : ℕ} → cond b x none ≡ some t → b ≡ true
admitted true x e = refl
admitted false x e = absurd (none-some refl e)

-- ---- an estimate

module _ {C : CardMap} {m : Machine} {u : Step} {z : ℕ} (aimed : m.target ≡ At z) where
  pub estimate-least : {j t : ℕ} → AtCall C m (estimate_call j) u → u.answer ≡ Estimated t → IsLeast (BasePath C.map j z) (of_word t)
  estimate-least {t = t} a e = a.right z aimed t e

  -- ---- a go

  module _ {c j : ℕ} {l : Lent} (a : AtCall C m (go_call c j l) u) where
    pub route-leads : {T n k : ℕ} → u.answer ≡ Gone T n k
        → let N = live_net C.map (class_live C.access c m.live) in
        let roads = take k u.lent.route in
        Leads N j roads z × (total_over N roads ≡ some T)
    route-leads {T} {n} {k} e = let r = (a.right z aimed).found T n k e in (r.leads, r.total)

    pub route-least : {T n k : ℕ} → u.answer ≡ Gone T n k
        → (t : ℕ) → LivePath C.map (class_live C.access c m.live) j z t → T ≤ t
    route-least {T} {n} {k} e = ((a.right z aimed).found T n k e).least

    -- A6: "a road barred to it counts as closed for that call"
    pub route-admits : {T n k : ℕ} → u.answer ≡ Gone T n k → {i : ℕ} → Memᴰ i (take k u.lent.route)
        → admits (C.access i) c ≡ true
    route-admits {T} {n} {k} e {i} h =
        let (x, p) = opened (live_net C.map (class_live C.access c m.live)) (take k u.lent.route) T
        ((a.right z aimed).found T n k e).total h in
        admitted (admits (C.access i) c) (m.live i) p

    -- the count is the figure, and so many first entries of the log are those junctions, in their order
    pub route-effort : {T n k : ℕ} → u.answer ≡ Gone T n k
        → let live = class_live C.access c m.live in
        let within = within_total C.map live j z T in
        (n ≡ effort C.map within) × (take n u.lent.log ≡ effort_log C.map live j z within)
    route-effort {T} {n} {k} e = let r = (a.right z aimed).found T n k e in (r.count, r.log)

    -- where there is a chain and no question refuses, a route is answered
    pub route-told : go_refusal (known_to C.map m) c j (length l.route) (length l.log) ≡ none
        → {t : ℕ} → LivePath C.map (class_live C.access c m.live) j z t → (T n k : ℕ) × (u.answer ≡ Gone T n k)
    route-told p q =
        let live = class_live C.access c m.live in
        told-gone (time_of C.map live j (target_of m.target)) (plain_search C.map live j (target_of m.target)) (passed-told a p)
      where
        told-gone : (x : Total) (G : Problem) → u.answer ≡ (found_told x G m).answer → (T n k : ℕ) × (u.answer ≡ Gone T n k)
        told-gone none G e = absurd (((a.right z aimed).lost _ e).no_chain _ q)
        told-gone (some x) G e = (x, _, _, e)

    pub lost-none : {n : ℕ} → u.answer ≡ Refused (NoPath n)
        → (t : ℕ) → LivePath C.map (class_live C.access c m.live) j z t → ⊥
    lost-none {n} e = ((a.right z aimed).lost n e).no_chain

    pub lost-effort : {n : ℕ} → u.answer ≡ Refused (NoPath n)
        → let live = class_live C.access c m.live in
        let reached = reached_estimated C.map live j z in
        (n ≡ effort C.map reached) × (take n u.lent.log ≡ effort_log C.map live j z reached)
    lost-effort {n} e = let r = (a.right z aimed).lost n e in (r.count, r.log)

    pub lost-told : go_refusal (known_to C.map m) c j (length l.route) (length l.log) ≡ none
        → ((t : ℕ) → LivePath C.map (class_live C.access c m.live) j z t → ⊥) → (n : ℕ) × (u.answer ≡ Refused (NoPath n))
    lost-told p h = (a.right z aimed).told p h

  -- ---- a preview

  module _ {c i t j w : ℕ} {X Y : Total} {d : Option ℤ} (a : AtCall C m (preview_call c i t j w) u) (e : u.answer ≡ Previewed X Y d) where
    pub preview_present : IsLeast (LivePath C.map (class_live C.access c m.live) j z) X
    preview_present = (a.right z aimed X Y d e).present_least

    pub preview-new : IsLeast (LivePath C.map (class_live C.access c (changed m.live i (of_word t))) j z) Y
    preview-new = (a.right z aimed X Y d e).new-least

    pub preview-change : {x y : ℕ} → X ≡ some x → Y ≡ some y → (δ : ℤ) × (d ≡ some δ) × (δ +ℤ pos x ≡ pos y)
    preview-change {x} {y} p q = (a.right z aimed X Y d e).adds-up x y p q

    -- where a total is missing there is no change, not even 0
    pub preview-absent : (X ≡ none) ⊎ (Y ≡ none) → d ≡ none
    preview-absent = (a.right z aimed X Y d e).absent

-- ---- a list of stops

module _ (M : Map) (live : ℕ → Total) where
  leg-at : (a : ℕ) (stops : List ℕ) (legs : List Leg) (area : List ℕ) → LegsRight M live a stops legs area → (k : ℕ) → k < length stops
      → IsLeast (LivePath M live (get_or (a ∷ stops) k 0) (get_or stops k 0)) (some (leg_at legs k).total)
  leg-at a [] legs area h k l = let z : ⊥ = omega (arith, l) in absurd z
  leg-at a (b ∷ stops) [] area h k l = absurd h
  leg-at a (b ∷ stops) (x ∷ legs) area h zero l =
      least-number (record { arcs = take x.roads area; leads = h.0.leads; sums = h.0.total }) h.0.least
  leg-at a (b ∷ stops) (x ∷ legs) area h (suc k) l = leg-at b stops legs (drop x.roads area) h.1 k (omega (arith, l))

  leg-from : (stops : List ℕ) (legs : List Leg) (area : List ℕ) → LegsRight M live (get_or stops 0 0) (drop 1 stops) legs area
      → (k : ℕ) → suc k < length stops
      → IsLeast (LivePath M live (get_or stops k 0) (get_or stops (suc k) 0)) (some (leg_at legs k).total)
  leg-from [] legs area h k l = let z : ⊥ = omega (arith, l) in absurd z
  leg-from (a ∷ stops) legs area h k l = leg-at a stops legs area h k (omega (arith, l))

module _ {C : CardMap} {m : Machine} {u : Step} {c : ℕ} {stops : List ℕ} {l : Lent} (a : AtCall C m (stops_call c stops l) u) where
  pub legs-right : {legs : List Leg} {whole : ℕ} → u.answer ≡ Stopped legs whole
      → LegsRight C.map (class_live C.access c m.live) (get_or stops 0 0) (drop 1 stops) legs u.lent.route
  legs-right {legs} {whole} e = (a.right.found legs whole e).legs-right

  -- leg k, from 0, has the least total of the chains from its stop to the next
  pub leg-least : {legs : List Leg} {whole : ℕ} → u.answer ≡ Stopped legs whole → (k : ℕ) → suc k < length stops
      → IsLeast (LivePath C.map (class_live C.access c m.live) (get_or stops k 0) (get_or stops (suc k) 0)) (some (leg_at legs k).total)
  leg-least {legs} {whole} e =
      leg-from C.map (class_live C.access c m.live) stops legs u.lent.route (a.right.found legs whole e).legs-right

  pub whole_sum : {legs : List Leg} {whole : ℕ} → u.answer ≡ Stopped legs whole → whole ≡ whole_of legs
  whole_sum {legs} {whole} e = (a.right.found legs whole e).whole_is

  -- the whole is the least total of the chains that meet the stops
  pub whole-least : {legs : List Leg} {whole : ℕ} → u.answer ≡ Stopped legs whole
      → IsLeast (Meeting (live_net C.map (class_live C.access c m.live)) stops) (some whole)
  whole-least {legs} {whole} e =
      let r = a.right.found legs whole e in
      record { attained = λ t q. rw (some_is q) at r.attained; bound = r.at_most }
    where
      some_is : {x y : ℕ} → some x ≡ some y → x ≡ y
      some_is p = cc

  pub seventeen_first : {k : ℕ} → u.answer ≡ Refused (NoLeg k) → FirstLost C.map (class_live C.access c m.live) stops k
  seventeen_first {k} e = (a.right.lost k e).first-lost

  pub seventeen_none : {k : ℕ} → u.answer ≡ Refused (NoLeg k)
      → (t : ℕ) → Meeting (live_net C.map (class_live C.access c m.live)) stops t → ⊥
  seventeen_none {k} e = (a.right.lost k e).none-meets

  pub seventeen_told : {k : ℕ} → stops_refusal (known_to C.map m) c stops (length l.route) (length l.log) ≡ none
      → FirstLost C.map (class_live C.access c m.live) stops k → u.answer ≡ Refused (NoLeg k)
  seventeen_told {k} p f = a.right.told p k f

  -- the log area holds the log of the last leg made
  pub stops-log : {legs : List Leg} {whole : ℕ} → u.answer ≡ Stopped legs whole → (k : ℕ) → suc k ≡ length legs
      → FoundLogged C.map (class_live C.access c m.live) stops k (leg_at legs k).total u.lent.log
  stops-log {legs} {whole} e = (a.right.found legs whole e).log

  pub seventeen_log : {k : ℕ} → u.answer ≡ Refused (NoLeg k)
      → LostLogged C.map (class_live C.access c m.live) stops k u.lent.log
  seventeen_log {k} e = (a.right.lost k e).log
