-- A script of calls: the turns of its run, and the machine's answers. Assumes nothing.
use mathlib.Core.Path.{◌∙◌, ◌≡◌, ap, ap₂, refl, subst, sym}
use mathlib.Core.Bool.{false, true}
use mathlib.Core.List.{List, [], ◌++◌, ◌∷◌, append_assoc, append-nil, map}
use Prim.Native.Nat.{◌*◌, ◌+◌, ◌-◌, ◌<◌, ◌≤◌, suc, zero, ℕ}
use lib.ListN.{drop, length, length-append, length-map, take, take-append-drop}
use lib.Seq.{drop-append-add, drop-drop, length-take-le, take_at}
use native.Mathlib.Nat.{sub-zero}
use native.Mathlib.Omega.{arith}
use Rattle.model.specs.Types.{Accepted, Answer, Answered, Header}
use Rattle.model.specs.Card.{CardMap, card_map, map_on}
use Rattle.model.specs.Areas.{Areas}
use Rattle.model.specs.State.{Lent, State, Step, first, prepare}
use Rattle.model.specs.Machine.{Machine, started}
use Rattle.model.specs.Calls.{Asked, Call, Plain, Preview, calling, machine_step, plain}
use Rattle.model.specs.Demand3.{Demand3}
use Rattle.model.specs.Promises.{CallContract, PrepareContract, after, before}
use Rattle.model.specs.Chain.{Chain}
use Rattle.model.proofs.Chain.{chain_demand3, chain_steps, left-prepared}
use Rattle.network.specs.declared.Time.{Time}
use Rattle.network.specs.declared.Junction.{Junction}
use Rattle.unit_script.specs.declared.Asked as code-asked
use Rattle.unit_script.specs.declared.Asked.TheVariants as scripts
use Rattle.unit_script.specs.declared.Scripted.{Scripted}
use Rattle.unit_script.specs.Words.{Lending, answer_size, answer_words, asked_in, call_at, end_at, is_call, put_at, room_in, scripted_in}
use Rattle.unit_script.specs.Script.{Held, Made, OneContract, PreparedOn, PreparedReplay, ReplayContract, answers_of, begun, calls_in}
use Rattle.unit_script.specs.Script.{calls_of, held, holding, lend, lending, machine_answers, onward, scripted, told}
use Rattle.unit_script.proofs.Words.{call_fits, ends-within}

-- ---- the words of an answer

told_snoc : (l : List Answer) (x : Answer) → told (l ++ (x ∷ [])) ≡ told l ++ answer_words x
told_snoc [] x = append-nil (answer_words x)
told_snoc (y ∷ l) x = ap (◌++◌ (answer_words y)) (told_snoc l x) ∙ sym (append_assoc (answer_words y) (told l) (answer_words x))

-- the words of one answer more, behind those before it
written-turn : (l : List Answer) (x : Answer) (i : ℕ) (out₀ out out' : List ℕ) → length (told l) ≡ i → out ≡ first (told l) out₀
    → out' ≡ put_at out i (answer_words x) → out' ≡ first (told (l ++ (x ∷ []))) out₀
written-turn l x i out₀ out out' n e f =
    let w : List ℕ = answer_words x in
    let o : out ≡ told l ++ drop i out₀ = e ∙ ap (λ (j : ℕ). told l ++ drop j out₀) n in
    let a : take i out ≡ told l = ap (take i) o ∙ take_at (told l) (drop i out₀) i n in
    let d : drop (i + length w) out ≡ drop (i + length w) out₀ =
    ap (drop (i + length w)) o
    ∙ ap (λ (j : ℕ). drop (j + length w) (told l ++ drop i out₀)) (sym n)
    ∙ drop-append-add (told l) (drop i out₀) (length w)
    ∙ drop-drop (length w) i out₀ in
    let m : length (told (l ++ (x ∷ []))) ≡ i + length w =
    ap length (told_snoc l x) ∙ length-append (told l) w ∙ ap (λ (j : ℕ). j + length w) n in
    f
    ∙ ap₂ (λ (u : List ℕ) (v : List ℕ). u ++ w ++ v) a d
    ∙ ap₂ (λ (u : List ℕ) (j : ℕ). u ++ drop j out₀) (sym (told_snoc l x)) (sym m)

-- ---- one call more

map_snoc : {A B : Type 0} (f : A → B) (l : List A) (x : A) → map f (l ++ (x ∷ [])) ≡ map f l ++ (f x ∷ [])
map_snoc f [] x = refl
map_snoc f (y ∷ l) x = ap (◌∷◌ (f y)) (map_snoc f l x)

chain_length : (card : List ℕ) (s : State) (l : List Call) (r : List Step) → Chain card s l r → length r ≡ length l
chain_length card s [] [] w = refl
chain_length card s [] (u ∷ r) w = absurd w
chain_length card s (c ∷ l) [] w = absurd w
chain_length card s (c ∷ l) (u ∷ r) w = ap suc (chain_length card u.state l r w.1)

held_snoc : (h : Held) (r : List Step) (u : Step) → held h (r ++ (u ∷ [])) ≡ onward (held h r) u
held_snoc h [] u = refl
held_snoc h (v ∷ r) u = held_snoc (onward h v) r u

calls_snoc : (h : Held) (l : List Plain) (r : List Step) (p : Plain) (u : Step) → length r ≡ length l
    → calls_of h (l ++ (p ∷ [])) (r ++ (u ∷ [])) ≡ calls_of h l r ++ (lend (held h r).lent p ∷ [])
calls_snoc h [] [] p u n = refl
calls_snoc h [] (v ∷ r) p u n = let z : ⊥ = omega (arith, n) in absurd z
calls_snoc h (q ∷ l) [] p u n = let z : ⊥ = omega (arith, n) in absurd z
calls_snoc h (q ∷ l) (v ∷ r) p u n = ap (◌∷◌ (lend h.lent q)) (calls_snoc (onward h v) l r p u (omega (arith, n)))

meets_snoc : (card : List ℕ) (h : Held) (l : List Plain) (r : List Step) (p : Plain) (u : Step) → length r ≡ length l
    → Chain card h.state (calls_of h l r) r → CallContract card (held h r).state (lend (held h r).lent p) u
    → Chain card h.state (calls_of h (l ++ (p ∷ [])) (r ++ (u ∷ []))) (r ++ (u ∷ []))
meets_snoc card h [] [] p u n w m = (m, tt)
meets_snoc card h [] (v ∷ r) p u n w m = let z : ⊥ = omega (arith, n) in absurd z
meets_snoc card h (q ∷ l) [] p u n w m = let z : ⊥ = omega (arith, n) in absurd z
meets_snoc card h (q ∷ l) (v ∷ r) p u n w m = (w.0, meets_snoc card (onward h v) l r p u (omega (arith, n)) w.1 m)

-- its answer fills its place, as those before it do
filled_more : (r : List Step) (u : Step) (k : ℕ) → length (told (answers_of r)) ≡ answer_size * k
    → length (answer_words u.answer) ≡ answer_size → length (told (answers_of (r ++ (u ∷ [])))) ≡ answer_size * (k + 1)
filled_more r u k n m =
    ap (λ (y : List Answer). length (told y)) (map_snoc (λ (v : Step). v.answer) r u)
    ∙ ap length (told_snoc (answers_of r) u.answer)
    ∙ length-append (told (answers_of r)) (answer_words u.answer)
    ∙ omega (arith, n, m)

-- one call more, p, which meets its contract and leaves u
made_more : {card : List ℕ} {l : List Plain} {out₀ out : List ℕ} {h₀ h : Held} → (w : Made card l out₀ out h₀ h) → {i : ℕ}
    → length (told (answers_of w.results)) ≡ i → (p : Plain) (u : Step) {h' : Held} {out' : List ℕ} → h' ≡ onward h u
    → plain (lend h.lent p) ≡ p → CallContract card h.state (lend h.lent p) u
    → out' ≡ put_at out i (answer_words u.answer) → Made card (l ++ (p ∷ [])) out₀ out' h₀ h'
made_more {card} {l} {out₀} {out} {h₀} {h} w {i} n p u {h'} {out'} left f m e =
    let r : List Step = w.results in
    let many : length r ≡ length l =
    chain_length card h₀.state w.calls r w.meets ∙ sym (length-map w.calls plain) ∙ ap length w.fed in
    let met : Chain card h₀.state (calls_of h₀ l r) r = subst (λ (y : List Call). Chain card h₀.state y r) w.lends w.meets in
    record {
      calls = calls_of h₀ (l ++ (p ∷ [])) (r ++ (u ∷ []));
      results = r ++ (u ∷ []);
      lends = refl;
      fed =
          ap (map plain) (calls_snoc h₀ l r p u many)
          ∙ map_snoc plain (calls_of h₀ l r) (lend (held h₀ r).lent p)
          ∙ ap₂ (λ (y : List Plain) (z : Plain). y ++ (z ∷ [])) (ap (map plain) (sym w.lends) ∙ w.fed)
          (ap (λ (y : Held). plain (lend y.lent p)) (sym w.leaves) ∙ f);
      meets =
          meets_snoc card h₀ l r p u many met
          (subst (λ (y : Held). CallContract card y.state (lend y.lent p) u) w.leaves m);
      leaves = left ∙ ap (λ (y : Held). onward y u) w.leaves ∙ sym (held_snoc h₀ r u);
      written =
          written-turn (answers_of r) u.answer i out₀ out out' n w.written e
          ∙ ap (λ (y : List Answer). first (told y) out₀) (sym (map_snoc (λ (v : Step). v.answer) r u));
    }

-- ---- one call, lent the first i and j entries of go's areas

-- those entries
abbrev pub part : (i j : ℕ) → Lent → Lent
part i j l = record { route = take i l.route; log = take j l.log }

-- the areas, with m in the place of those entries
abbrev pub back : (i j : ℕ) → Lent → Lent → Lent
back i j l m = record { route = m.route ++ drop i l.route; log = m.log ++ drop j l.log }

back-first : (i j : ℕ) (l m : Lent) → length m.route ≡ i → length m.log ≡ j
    → back i j l m ≡ record { route = first m.route l.route; log = first m.log l.log }
back-first i j l m e f = rw (← e, ← f)

pub one-made : {card : List ℕ} {h : Header} {a b : Areas} {l m : Lent} {asked : Asked} {i j : ℕ} {x : Answered} {k : Header}
    {words : List ℕ} → i ≤ length l.route → j ≤ length l.log
    → CallContract card (before h a) (calling asked (part i j l)) (after x b m)
    → length m.route ≡ length (take i l.route) → length m.log ≡ length (take j l.log)
    → k ≡ x.header → words ≡ answer_words x.answer
    → OneContract card h (record { entry = a; exit = b }) (record { entry = l; exit = back i j l m })
    (record { asked = asked; route = i; log = j }) k words
one-made {b = b} {l} {m} {i = i} {j} {x} {k} li lj c nr nl header_is words_are = record {
  left = after x b m;
  answers = words_are;
  meets = c;
  leaves = ap₂ (λ (y : Header) (z : Lent). holding y b z) header_is
      (back-first i j l m (nr ∙ length-take-le i l.route li) (nl ∙ length-take-le j l.log lj));
}

-- the entries that were lent, put back as they were
put_back : (i j : ℕ) (l : Lent) → back i j l (part i j l) ≡ l
put_back i j l =
    ap₂ (λ (r : List ℕ) (k : List ℕ). record { route = r; log = k }) (take-append-drop i l.route) (take-append-drop j l.log)

-- a call s of a script, beside a work area of w entries and with these stops, which handed x back
module _ {card : List ℕ} {h : Header} {a b : Areas} {l : Lent} (x : Answered) {k : Header} {words : List ℕ} (s : Scripted) (w : ℕ)
    (stops : List ℕ) (route-fits : s.route ≤ length l.route) (log-fits : s.log ≤ length l.log) (header_is : k ≡ x.header)
    (words_are : words ≡ answer_words x.answer) where
  -- one that is lent the first entries of route and log
  pub lent-made : {m : Lent} {q : code-asked.Asked} → s.asked ≡ q
      → CallContract card (before h a) (calling (asked_in q w stops) (part s.route s.log l)) (after x b m)
      → length m.route ≡ length (take s.route l.route) → length m.log ≡ length (take s.log l.log)
      → OneContract card h (record { entry = a; exit = b }) (record { entry = l; exit = back s.route s.log l m })
      (scripted_in s w stops) k words
  lent-made {m} e c nr nl =
      subst (λ (q : Asked). OneContract card h (record { entry = a; exit = b })
      (record { entry = l; exit = back s.route s.log l m }) (record { asked = q; route = s.route; log = s.log }) k words)
      (sym (ap (λ (q : code-asked.Asked). asked_in q w stops) e))
      (one-made {x = x} route-fits log-fits c nr nl header_is words_are)

  -- a preview, which leaves route and log as they were
  pub preview-made : {v i : ℕ} {t : Time} {j : Junction} → s.asked ≡ scripts.Preview v i t j
      → ((y : Lent) → CallContract card (before h a) (calling (Preview v i t.0 j.0 w) y) (after x b y))
      → OneContract card h (record { entry = a; exit = b }) (record { entry = l; exit = l }) (scripted_in s w stops) k words
  preview-made {v} {i} {t} {j} e c =
      subst (λ (m : Lent). OneContract card h (record { entry = a; exit = b }) (record { entry = l; exit = m })
      (scripted_in s w stops) k words)
      (put_back s.route s.log l)
      (lent-made e (c (part s.route s.log l)) refl refl)

-- ---- the turns of a run

-- what is fed of a call of a script that is lent no more than there is
fed-back : (l : Lent) (p : Plain) → p.route ≤ length l.route → p.log ≤ length l.log → plain (lend l p) ≡ p
fed-back l p a b = rw (length-take-le p.route l.route a, length-take-le p.log l.log b)

-- a script from a place on, with room for the answer of call k, where a call stands whole, and where none does
module _ (script : List ℕ) (l : Lending) (at k room : ℕ) where
  scripted-next : k < room → is_call script at ≡ true
      → scripted script l at (room - k)
      ≡ call_at script at l ∷ scripted script l (end_at script at) (room - (k + 1))
  scripted-next lt whole =
      let e : room - k ≡ suc (room - (k + 1)) = omega arith in
      ap (scripted script l at) e ∙ rw whole

  scripted-end : is_call script at ≡ false → (n : ℕ) → scripted script l at n ≡ []
  scripted-end none zero = refl
  scripted-end none (suc n) = rw none

-- with room for so many answers the calls before call k, which stands at a place of the script, are made, and those from there on are left
pub record Run (card script : List ℕ) (work room at k : ℕ) (out₀ out : List ℕ) (h₀ h : Held) : Type 0 where
  pub done : List Plain
  pub many : length done ≡ k
  pub made : Made card done out₀ out h₀ h
  -- each answer fills its place
  pub filled : length (told (answers_of made.results)) ≡ answer_size * k
  pub rest : scripted script (lending h₀.lent work) 0 room ≡ done ++ scripted script (lending h₀.lent work) at (room - k)

pub run-start : {card script out₀ : List ℕ} {work : ℕ} (room : ℕ) {h₀ : Held} → Run card script work room 0 0 out₀ out₀ h₀ h₀
run-start {card} {script} {out₀} {work} room {h₀} = record {
  done = [];
  many = refl;
  made = record { calls = []; results = []; lends = refl; fed = refl; meets = tt; leaves = refl; written = refl };
  filled = refl;
  rest = ap (scripted script (lending h₀.lent work) 0) (sym (sub-zero room));
}

module _ {card script : List ℕ} {work room at k : ℕ} {out₀ out : List ℕ} {h₀ h : Held}
    (w : Run card script work room at k out₀ out h₀ h) where
  -- the next call p of the script, which ends at a place, handed back the header u, and has its answer's words written
  pub run-turn : k < room → is_call script at ≡ true → {v : ℕ} {p : Plain} {u : Header} {words : List ℕ} {end : ℕ} {b : Areas} {m : Lent}
      {out' : List ℕ} → length h.lent.route ≡ length h₀.lent.route → length h.lent.log ≡ length h₀.lent.log → v ≡ work
      → p ≡ call_at script at (lending h.lent v) → end ≡ end_at script at
      → OneContract card h.state.header (record { entry = h.state.areas; exit = b }) (record { entry = h.lent; exit = m }) p u words
      → length words ≡ answer_size → out' ≡ put_at out (answer_size * k) words
      → Run card script work room end (k + 1) out₀ out' h₀ (holding u b m)
  unfolding made_more
  run-turn lt whole {v} {p} {u} {words} {end} {b} {m} {out'} er el ew e n c size f =
      let left : List Plain = scripted script (lending h₀.lent work) end (room - (k + 1)) in
      let same : lending h.lent v ≡ lending h₀.lent work = rw (er, el, ew) in
      let is : call_at script at (lending h₀.lent work) ≡ p = sym (e ∙ ap (call_at script at) same) in
      let (route-fits, log-fits) = call_fits script at (lending h.lent v) e in
      let next-is : scripted script (lending h₀.lent work) at (room - k) ≡ p ∷ left =
      scripted-next script (lending h₀.lent work) at k room lt whole
      ∙ ap₂ (λ (y : Plain) (i : ℕ). y ∷ scripted script (lending h₀.lent work) i (room - (k + 1))) is (sym n) in
      record {
        done = w.done ++ (p ∷ []);
        many = length-append w.done (p ∷ []) ∙ ap (λ (i : ℕ). i + 1) w.many;
        made =
            made_more w.made w.filled p c.left c.leaves (fed-back h.lent p route-fits log-fits) c.meets
            (f ∙ ap (put_at out (answer_size * k)) c.answers);
        filled = filled_more w.made.results c.left k w.filled (sym (ap length c.answers) ∙ size);
        rest = w.rest ∙ ap (◌++◌ w.done) next-is ∙ sym (append_assoc w.done (p ∷ []) left);
      }

  -- no call is left: none stands whole there, or there is no room for its answer
  pub run_end : room ≡ room_in (length out₀) → scripted script (lending h₀.lent work) at (room - k) ≡ []
      → Made card (calls_in script (lending h₀.lent work) out₀) out₀ out h₀ h
  run_end r none =
      let e : scripted script (lending h₀.lent work) 0 room ≡ w.done = w.rest ∙ ap (◌++◌ w.done) none ∙ append-nil w.done in
      subst (λ (y : List Plain). Made card y out₀ out h₀ h) (sym (ap (scripted script (lending h₀.lent work) 0) (sym r) ∙ e)) w.made

  pub run-cut : room ≡ room_in (length out₀) → is_call script at ≡ false
      → Made card (calls_in script (lending h₀.lent work) out₀) out₀ out h₀ h
  run-cut r none = run_end r (scripted-end script (lending h₀.lent work) at k room none (room - k))

  pub run-full : room ≡ room_in (length out₀) → room ≤ k → Made card (calls_in script (lending h₀.lent work) out₀) out₀ out h₀ h
  run-full r full =
      let z : room - k ≡ 0 = omega (arith, full) in run_end r (ap (scripted script (lending h₀.lent work) at) z)

-- what holds before call k: the place is within the script, and the areas have the lengths that they had
pub record AtTurn (card script work₀ work : List ℕ) (room at k : ℕ) (out₀ out : List ℕ) (h₀ h : Held) : Type 0 where
  pub within : at ≤ length script
  pub live : length h.state.areas.live ≡ length h₀.state.areas.live
  pub down : length h.state.areas.aimed.down ≡ length h₀.state.areas.aimed.down
  pub estimates : length h.state.areas.aimed.estimates ≡ length h₀.state.areas.aimed.estimates
  pub elapsed : length h.state.areas.trip.elapsed ≡ length h₀.state.areas.trip.elapsed
  pub route : length h.lent.route ≡ length h₀.lent.route
  pub log : length h.lent.log ≡ length h₀.lent.log
  pub work-is : length work ≡ length work₀
  pub words : length out ≡ length out₀
  pub run : Run card script (length work₀) room at k out₀ out h₀ h

pub turn-start : {card script work₀ out₀ : List ℕ} {room : ℕ} {h₀ : Held} → AtTurn card script work₀ work₀ room 0 0 out₀ out₀ h₀ h₀
turn-start {room = room} = record {
  within = omega arith;
  live = refl;
  down = refl;
  estimates = refl;
  elapsed = refl;
  route = refl;
  log = refl;
  work-is = refl;
  words = refl;
  run = run-start room;
}

module _ {card script work₀ work : List ℕ} {room at k : ℕ} {out₀ out : List ℕ} {h₀ h : Held}
    (t : AtTurn card script work₀ work room at k out₀ out h₀ h) where
  -- a call there is lent no more entries than there are
  pub turn-fits : (v : ℕ) {p : Plain} → p ≡ call_at script at (lending h.lent v)
      → (p.route ≤ length h.lent.route) × (p.log ≤ length h.lent.log)
  turn-fits v e = call_fits script at (lending h.lent v) e

  -- and ends within the script
  pub turn-ends : {end : ℕ} → end ≡ end_at script at → end ≤ length script
  turn-ends e = ends-within script at t.within e

-- ---- the machine's answers

machine-answers : (C : CardMap) (m : Machine) (l : List Call) (r : List Step) → Demand3 C m l r
    → answers_of r ≡ machine_answers C m (map plain l)
machine-answers C m [] [] d = refl
machine-answers C m [] (u ∷ r) d = absurd d
machine-answers C m (c ∷ l) [] d = absurd d
machine-answers C m (c ∷ l) (u ∷ r) d = ap₂ ◌∷◌ d.0.same.answer (machine-answers C (machine_step C m (plain c)).next l r d.1)

-- a run as a replay
pub replay_made : {card : List ℕ} {h k : Header} {a b : Areas} {l m : Lent} {w : ℕ} {script out₀ out : List ℕ}
    → Made card (calls_in script (lending l w) out₀) out₀ out (holding h a l) (holding k b m)
    → ReplayContract card h (record { entry = a; exit = b }) (record { entry = l; exit = m }) w script out₀ out k
replay_made {card} {h} {k} {a} {b} {l} {m} {w} {script} {out₀} {out} run =
    let demand : (c : Areas) → (prepare card c).answer ≡ Accepted → PreparedOn card c (before h a)
    → Demand3 (card_map card) (started (map_on card)) run.calls run.results =
    λ c q e. chain_demand3 card c q run.calls run.results
    (subst (λ (s : State). Chain card s run.calls run.results) e run.meets) in
    record {
      made = run;
      exact = λ left. chain_steps card (before h a) run.calls run.results left run.meets;
      demand = demand;
      machine = λ c q e.
          run.written
          ∙ ap (λ (z : List Answer). first (told z) out₀)
          (machine-answers (card_map card) (started (map_on card)) run.calls run.results (demand c q e)
          ∙ ap (machine_answers (card_map card) (started (map_on card))) run.fed);
    }

-- a preparing on the areas a, which left a' and handed back y, and then a replay of what it left
pub prepared_replay : {card : List ℕ} {a a' b : Areas} {l m : Lent} {w : ℕ} {script out₀ out : List ℕ} (y : Answered) {k : Header}
    → PrepareContract card a a' y
    → ReplayContract card y.header (record { entry = a'; exit = b }) (record { entry = l; exit = m }) w script out₀ out k
    → PreparedReplay card (record { entry = a; exit = b }) (record { entry = l; exit = m }) w script out₀ out
    (record { header = k; answer = y.answer })
prepared_replay {card} {a} {a'} {b} {l} {m} {w} {script} {out₀} {out} y {k} e r =
    let spelled : List Plain = calls_in script (lending l w) out₀ in
    let state-is : before y.header a' ≡ (prepare card a).state = ap (λ (u : Step). u.state) e in
    let run : Made card spelled out₀ out (begun card a l) (holding k b m) =
    subst (λ (s : State). Made card spelled out₀ out (record { state = s; lent = l }) (holding k b m)) state-is r.made in
    let demand : (prepare card a).answer ≡ Accepted → Demand3 (card_map card) (started (map_on card)) run.calls run.results =
    λ q. chain_demand3 card a q run.calls run.results run.meets in
    record {
      prepared = ap (λ (u : Step). u.answer) e;
      made = run;
      exact = chain_steps card (prepare card a).state run.calls run.results (left-prepared card a) run.meets;
      demand = demand;
      machine = λ q. r.machine a q state-is;
    }
