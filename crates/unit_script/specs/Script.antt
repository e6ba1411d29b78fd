-- What a program that makes the calls of a script leaves. Definitions only.
use Rattle.std.specs.Prelude.{◌≡◌, cond, List, [], ◌++◌, ◌∷◌, map, suc, zero, ℕ, length, take}
use denote.Triple.Both.{Both}
use Rattle.model.specs.Types.{Accepted, Answer, Answered, Header}
use Rattle.model.specs.Card.{CardMap, card_map, map_on}
use Rattle.model.specs.Areas.{Areas}
use Rattle.model.specs.State.{Lent, State, Step, first, prepare}
use Rattle.model.specs.Machine.{Machine, started}
use Rattle.model.specs.Calls.{Call, Left, Plain, calling, machine_step, plain, steps}
use Rattle.model.specs.Demand3.{Demand3}
use Rattle.model.specs.Promises.{CallContract, before}
use Rattle.model.specs.Chain.{Chain}
use Rattle.unit_script.specs.Words.{Lending, answer_words, call_at, end_at, is_call, room_in}

-- ---- a script, and the words of answers

-- the areas that are lent to its calls: route and log, and a work area of so many entries, whose content does not matter
abbrev pub lending : Lent → (work : ℕ) → Lending
lending l w = record { route = length l.route; log = length l.log; work = w }

-- the calls of a script from a place on, at most so many, beside areas of so many entries: they end at its end, at a kind that is none, or
-- at a call that is cut short
abbrev pub scripted : (script : List ℕ) → Lending → (at most : ℕ) → List Plain
scripted script l at zero = []
scripted script l at (suc k) = cond (is_call script at) (call_at script at l ∷ scripted script l (end_at script at) k) []

-- the calls that are made of a script: those that it has, as far as their answers have room in out
abbrev pub calls_in : (script : List ℕ) → Lending → (out : List ℕ) → List Plain
calls_in script l out = scripted script l 0 (room_in (length out))

-- the words of a list of answers
abbrev pub told : List Answer → List ℕ
told [] = []
told (x ∷ l) = answer_words x ++ told l

-- the plain machine's answers to a list of calls
abbrev pub machine_answers : CardMap → Machine → List Plain → List Answer
machine_answers C m [] = []
machine_answers C m (p ∷ l) = (machine_step C m p).answer ∷ machine_answers C (machine_step C m p).next l

-- ---- calls one after the other

-- the unit's header and areas, and the two areas that are lent to a go and to a list of stops: route and log
pub record Held : Type 0 where
  pub state : State
  pub lent : Lent

abbrev pub holding : Header → Areas → Lent → Held
holding h a l = record { state = before h a; lent = l }

-- a call of a script as it is made: it is lent the first entries of the areas l
abbrev pub lend : Lent → Plain → Call
lend l p = calling p.asked (record { route = take p.route l.route; log = take p.log l.log })

-- what is held after a call that left u: what it was lent and left stands first in route and log, the rest of which is untouched
abbrev pub onward : Held → Step → Held
onward h u = record {
  state = u.state;
  lent = record { route = first u.lent.route h.lent.route; log = first u.lent.log h.lent.log };
}

-- what is held after calls that left `results`, one after the other
abbrev pub held : Held → (results : List Step) → Held
held h [] = h
held h (u ∷ r) = held (onward h u) r

-- these calls as they are made, each on what the one before left
abbrev pub calls_of : Held → List Plain → (results : List Step) → List Call
calls_of h [] r = []
calls_of h (p ∷ l) [] = []
calls_of h (p ∷ l) (u ∷ r) = lend h.lent p ∷ calls_of (onward h u) l r

abbrev pub answers_of : List Step → List Answer
answers_of = map (λ (u : Step). u.answer)

-- A run that makes the calls l from h₀ and holds h at the end. The area out held out₀ before.
pub record Made (card : List ℕ) (l : List Plain) (out₀ out : List ℕ) (h₀ h : Held) : Type 0 where
  -- the calls in their order, and what each answered and left
  pub calls : List Call
  pub results : List Step
  -- a call is lent of the areas as the calls before it left them
  pub lends : calls ≡ calls_of h₀ l results
  -- every call of l was made, and route and log kept their lengths: what the plain machine is fed of the calls is l
  pub fed : map plain calls ≡ l
  -- each met its contract, from what the one before left
  pub meets : Chain card h₀.state calls results
  -- header, areas, route and log at the end
  pub leaves : h ≡ held h₀ results
  -- the words of the answers stand first in out, the rest of which is untouched
  pub written : out ≡ first (told (answers_of results)) out₀

-- ---- the contracts

-- one call p of a script, from the header h: it hands back the header k, and the words of its answer; what it was lent and left stands
-- first in route and log
pub record OneContract (card : List ℕ) (h : Header) (a : Both Areas Areas) (l : Both Lent Lent) (p : Plain) (k : Header) (words : List ℕ)
    : Type 0 where
  pub left : Step
  pub answers : words ≡ answer_words left.answer
  pub meets : CallContract card (before h a.entry) (lend l.entry p) left
  pub leaves : holding k a.exit l.exit ≡ onward (holding h a.entry l.entry) left

-- the areas and header that preparing on the areas b left
abbrev pub PreparedOn : (card : List ℕ) → (b : Areas) → State → Type 0
PreparedOn card b s = s ≡ (prepare card b).state

-- the contract of a replay from the header h and the areas a: it lends its calls of route and log, l, and a work area of w entries, and
-- hands the header k back
pub record ReplayContract (card : List ℕ) (h : Header) (a : Both Areas Areas) (l : Both Lent Lent) (w : ℕ) (script out₀ out : List ℕ)
    (k : Header) : Type 0 where
  -- the run, whatever header and areas hold
  pub made : Made card (calls_in script (lending l.entry w) out₀) out₀ out
      (holding h a.entry l.entry) (holding k a.exit l.exit)
  -- where a list of calls left header and areas, what its calls answered and left is what the step functions say
  pub exact : Left card (before h a.entry) → made.results ≡ steps card (before h a.entry) made.calls
  -- where they are as an accepted preparing left them, demand 3 of the whole list, as it was made and answered
  pub demand : (b : Areas) → (prepare card b).answer ≡ Accepted → PreparedOn card b (before h a.entry)
      → Demand3 (card_map card) (started (map_on card)) made.calls made.results
  -- so the words written are those of the plain machine, fed the script
  pub machine : (b : Areas) → (prepare card b).answer ≡ Accepted → PreparedOn card b (before h a.entry)
      → out ≡ first (told (machine_answers (card_map card) (started (map_on card)) (calls_in script (lending l.entry w) out₀))) out₀

-- ---- a preparing, and a replay of what it left

-- the areas and header that preparing on the areas a left, and route and log
abbrev pub begun : (card : List ℕ) → Areas → Lent → Held
begun card a l = record { state = (prepare card a).state; lent = l }

-- what both together do: on the areas a, with the answer x of the preparing and the header of the replay
pub record PreparedReplay (card : List ℕ) (a : Both Areas Areas) (l : Both Lent Lent) (w : ℕ) (script out₀ out : List ℕ) (x : Answered)
    : Type 0 where
  pub prepared : x.answer ≡ (prepare card a.entry).answer
  -- the run, from what preparing left
  pub made : Made card (calls_in script (lending l.entry w) out₀) out₀ out
      (begun card a.entry l.entry) (holding x.header a.exit l.exit)
  -- what its calls answered and left is what the step functions say
  pub exact : made.results ≡ steps card (prepare card a.entry).state made.calls
  -- demand 3 of the whole list, as it was made and answered
  pub demand : (prepare card a.entry).answer ≡ Accepted → Demand3 (card_map card) (started (map_on card)) made.calls made.results
  -- so the words written are those of the plain machine, fed the script
  pub machine : (prepare card a.entry).answer ≡ Accepted
      → out ≡ first (told (machine_answers (card_map card) (started (map_on card)) (calls_in script (lending l.entry w) out₀))) out₀
