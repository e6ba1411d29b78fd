-- Lines answered one after the other from a prepared card: what is printed is what the plain machine answers, and demand 3 holds of the
-- calls of the readable lines. Assumes nothing.
use Rattle.std.proofs.Common.{◌∙◌, ap, ap₂, subst, sym}
use Rattle.std.specs.Prelude.{◌≡◌, refl, Bool, false, true, List, [], ◌++◌, ◌∷◌, map, ℕ, drop, get_or, length, take, None, Option, Some}
use Rattle.std.proofs.Math.Option as math
use Rattle.std.proofs.Math.Option.{none, some}
use Rattle.std.proofs.Math.Seq.{take-length}
use Rattle.graph.specs.Total.{Total}
use Rattle.graph.specs.Search.{Problem, count_of, route_of}
use Rattle.graph.specs.Map.{time_of}
use Rattle.model.specs.Types.{Accepted, Answer, Leg, Refusal}
use Rattle.model.specs.Classes.{class_live}
use Rattle.model.specs.Card.{CardMap, card_map, map_on}
use Rattle.model.specs.Areas.{Areas}
use Rattle.model.specs.State.{Lent, State, Step, answering, prepare}
use Rattle.model.specs.Machine.{Machine, Told, known_to, started, target_of, unless_asked}
use Rattle.model.specs.Go.{found_told, plain_search}
use Rattle.model.specs.Stops.{plain_journey, stops_answer}
use Rattle.model.specs.Calls as calls
use Rattle.model.specs.Calls.{Aim, Asked, Estimate, Go, Plain, Preview, Set, Stops, calling, machine_step, plain, refusal_of}
use Rattle.model.specs.Demand3.{Demand3}
use Rattle.model.specs.Chain.{Chain}
use Rattle.model.proofs.Chain.{chain_demand3}
use Rattle.unit_answers.specs.Shape.{call_in}
use Rattle.line_console.specs.Lines.{line_of}
use Rattle.line_answers.specs.Texts.{trip_text}
use Rattle.line_console.specs.Texts.{answer_text, newline, unreadable_text}
use Rattle.unit_answers.specs.declared.Call.{Call}
use Rattle.program_shell.specs.Limits.{junction_limit}
use Rattle.program_shell.specs.Answering.{Answers, Held, Roomy}

-- ---- definitions

-- a line, go's areas as they were lent for it, and what it left
pub record Turn : Type 0 where
  pub line : List ℕ
  pub lent : Lent
  pub left : Held

-- each line is answered from the header and areas that the one before left
abbrev pub Session : (card : List ℕ) → State → List Turn → Type 0
Session card s [] = Unit {0}
Session card s (t ∷ l) = Answers card s t.lent (line_of t.line) t.left × Session card t.left.state l

-- the calls of the readable lines
abbrev pub call_on : Option Call → Lent → List calls.Call → List calls.Call
call_on None l rest = rest
call_on (Some c) l rest = calling (call_in c) l ∷ rest

abbrev pub calls_of : List Turn → List calls.Call
calls_of [] = []
calls_of (t ∷ l) = call_on (line_of t.line) t.lent (calls_of l)

-- what the plain machine is fed of a call: what is asked, and the lengths of what is lent
abbrev pub fed : Asked → (route log : ℕ) → Plain
fed c r l = record { asked = c; route = r; log = l }

-- the line that the plain machine's answer prints; an unreadable one prints `no 0` and changes nothing
abbrev pub told_on : Option Call → CardMap → Machine → (Machine → List (List ℕ)) → List (List ℕ)
told_on None C m rest = unreadable_text ∷ rest m
told_on (Some c) C m rest =
    let t = machine_step C m (fed (call_in c) junction_limit junction_limit) in
    answer_text t.answer t.roads ∷ rest t.next

-- what the plain machine's answers to lines print, one after the other
abbrev pub machine_texts : (lines : List (List ℕ)) → CardMap → Machine → List (List ℕ)
machine_texts [] C m = []
machine_texts (l ∷ lines) C m = told_on (line_of l) C m (machine_texts lines C)

abbrev pub lines_in : List Turn → List (List ℕ)
lines_in turns = map (λ (t : Turn). t.line) turns

abbrev pub texts_in : List Turn → List (List ℕ)
texts_in turns = map (λ (t : Turn). t.left.text) turns

-- what the calls answered and left, with demand 3; and what was printed
pub record Conversed (card : List ℕ) (turns : List Turn) : Type 0 where
  pub results : List Step
  pub demand : Demand3 (card_map card) (started (map_on card)) (calls_of turns) results
  pub printed : texts_in turns ≡ machine_texts (lines_in turns) (card_map card) (started (map_on card))

-- ---- the calls, one after the other

-- each text is that of its call's answer, and go's areas have a word for each junction
abbrev PrintsOn : Option Call → Turn → (List Step → Type 0) → List Step → Type 0
PrintsOn None t rest r = (t.left.text ≡ unreadable_text) × rest r
PrintsOn (Some c) t rest [] = ⊥
PrintsOn (Some c) t rest (u ∷ r) = (t.left.text ≡ answer_text u.answer u.lent.route) × rest r × Roomy t.lent

abbrev Prints : List Turn → List Step → Type 0
Prints [] [] = Unit {0}
Prints [] (u ∷ r) = ⊥
Prints (t ∷ l) r = PrintsOn (line_of t.line) t (Prints l) r

chained : (card : List ℕ) (turns : List Turn) (s : State) → Session card s turns
    → (r : List Step) × Chain card s (calls_of turns) r × Prints turns r
chained card [] s w = ([], tt, tt)
chained card (t ∷ l) s w = on (line_of t.line) w.0 (chained card l t.left.state w.1)
  where
    on : (x : Option Call) → Answers card s t.lent x t.left
        → ((r : List Step) × Chain card t.left.state (calls_of l) r × Prints l r)
        → (r : List Step) × Chain card s (call_on x t.lent (calls_of l)) r × PrintsOn x t (Prints l) r
    on None a rest =
        let same = ap (λ (h : Held). h.state) a in (
          rest.0,
          subst (λ (z : State). Chain card z (calls_of l) rest.0) same rest.1,
          (ap (λ (h : Held). h.text) a, rest.2),
        )
    on (Some c) a rest = (
      answering a.answer t.left.state t.left.lent ∷ rest.0,
      (a.meets, rest.1),
      (a.printed, rest.2, a.room),
    )

-- ---- what the machine's answer prints

unless-text : (x : math.Option Refusal) (m : Machine) (t : Told) (route : List ℕ)
    → answer_text t.answer route ≡ answer_text t.answer t.roads
    → answer_text (unless_asked x m t).answer route ≡ answer_text (unless_asked x m t).answer (unless_asked x m t).roads
unless-text none m t route h = h
unless-text (some q) m t route h = refl

go-text : (x : math.Option Refusal) (y : Total) (G : Problem) (m : Machine) (route : List ℕ)
    → let t = unless_asked x m (found_told y G m) in take (length t.roads) route ≡ t.roads
    → answer_text t.answer route ≡ answer_text t.answer t.roads
go-text (some q) y G m route h = refl
go-text none none G m route h = refl
go-text none (some t) G m route h = ap (λ (r : List ℕ). trip_text t (count_of G) r ++ newline) (h ∙ sym (take-length (route_of G)))

-- a list of stops, which no line asks for, prints none of its roads
stops-text : (complete : Bool) (legs : List Leg) (route roads : List ℕ)
    → answer_text (stops_answer complete legs) route ≡ answer_text (stops_answer complete legs) roads
stops-text true legs route roads = refl
stops-text false legs route roads = refl

-- the machine's roads stand first in go's route area, so the same line is printed from it
machine-text : (C : CardMap) (m : Machine) (c : Asked) (r l : ℕ) (route : List ℕ) → let t = machine_step C m (fed c r l) in
    take (length t.roads) route ≡ t.roads → answer_text t.answer route ≡ answer_text t.answer t.roads
machine-text C m (Set i t) r l route h = unless-text (refusal_of (known_to C.map m) (Set i t) r l) m _ route refl
machine-text C m (Aim j) r l route h = unless-text (refusal_of (known_to C.map m) (Aim j) r l) m _ route refl
machine-text C m (Estimate j) r l route h = unless-text (refusal_of (known_to C.map m) (Estimate j) r l) m _ route refl
machine-text C m (Go c j) r l route h =
    let z = target_of m.target in
    let live = class_live C.access c m.live in
    go-text (refusal_of (known_to C.map m) (Go c j) r l) (time_of C.map live j z) (plain_search C.map live j z) m route h
machine-text C m (Preview c i t j w) r l route h =
    unless-text (refusal_of (known_to C.map m) (Preview c i t j w) r l) m _ route refl
machine-text C m (Stops c stops) r l route h =
    let j = plain_journey C c m [] (get_or stops 0 0) (drop 1 stops) in
    unless-text (refusal_of (known_to C.map m) (Stops c stops) r l) m _ route (stops-text j.complete j.legs route j.roads)

texts : (C : CardMap) (turns : List Turn) (m : Machine) (r : List Step) → Demand3 C m (calls_of turns) r → Prints turns r
    → texts_in turns ≡ machine_texts (lines_in turns) C m
texts C [] m [] d p = refl
texts C [] m (u ∷ r) d p = absurd p
texts C (t ∷ l) m r d p = on (line_of t.line) r d p (λ n q e f. texts C l n q e f)
  where
    on : (x : Option Call) (r : List Step) → Demand3 C m (call_on x t.lent (calls_of l)) r → PrintsOn x t (Prints l) r
        → ((n : Machine) (q : List Step) → Demand3 C n (calls_of l) q → Prints l q → texts_in l ≡ machine_texts (lines_in l) C n)
        → texts_in (t ∷ l) ≡ told_on x C m (machine_texts (lines_in l) C)
    on None r d p more = ap₂ ◌∷◌ p.0 (more m r d p.1)
    on (Some c) [] d p more = absurd p
    on (Some c) (u ∷ r) d p more =
        let route = u.lent.route in
        let says = ap (λ (a : Answer). answer_text a route) d.0.same.answer in
        let same = machine-text C m (call_in c) (length t.lent.route) (length t.lent.log) route d.0.same.roads in
        ap₂ ◌∷◌ (p.0 ∙ says ∙ same) (more (machine_step C m (plain (calling (call_in c) t.lent))).next r d.1 p.1)
        ∙ ap₂ (λ (a : ℕ) (b : ℕ). let k = machine_step C m (fed (call_in c) a b) in
        answer_text k.answer k.roads ∷ machine_texts (lines_in l) C k.next) p.2.0 p.2.1

-- ---- the theorem

pub session_right : (card : List ℕ) (a : Areas) (turns : List Turn) → (prepare card a).answer ≡ Accepted
    → Session card (prepare card a).state turns → Conversed card turns
session_right card a turns e w =
    let c = chained card turns (prepare card a).state w in
    let d = chain_demand3 card a e (calls_of turns) c.0 c.1 in
    record { results = c.0; demand = d; printed = texts (card_map card) turns (started (map_on card)) c.0 d c.2 }
