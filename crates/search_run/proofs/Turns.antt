-- What a run needs to go on from what was logged (`Going`), and one turn of it, which logs what the definition logs next. Assumes nothing.
use mathlib.Core.Path.{◌∙◌, ◌≡◌, ap, refl, sym}
use mathlib.Core.Logic.{inl, inr}
use mathlib.Core.Bool.{false, true}
use mathlib.Core.Option.{none, some}
use mathlib.Core.List.{List, [], ◌++◌, ◌∷◌, map-append, reverse, reverse-cons}
use Prim.Native.Nat.{◌+◌, ◌<◌, ◌≤◌, ℕ}
use borrow.Author.Tests.{eq-eqb, ne_eqb}
use lib.ListN.{get_or, get_or-replicate, length, length-replicate, length-reverse, length-set, replicate, set}
use lib.Seq.{get_or-set_other, get_or-set_same}
use native.Mathlib.Decide.{ℕ_discrete}
use native.Mathlib.Omega.{arith}
use Rattle.graph.specs.Search.{Entry, Problem, has_goal, time_in, vertices}
use Rattle.graph.proofs.Walk.{time_in-here, time_in-there}
use Rattle.graph.specs.Choice.{NextIs, chosen}
use Rattle.graph.specs.History.{Reached, fresh, grow}
use Rattle.graph.specs.Complete.{Complete}
use Rattle.graph.proofs.Complete.{length-vertices}
use Rattle.model.specs.Word.{none_word, word}
use Rattle.model.specs.Bytes.{listed}
use Rattle.model.specs.State.{first}
use Rattle.model.proofs.Laws.{listed_at, listed-length}
use Rattle.model.proofs.Ends.{first_snoc, listed-is}
use Rattle.search_queue.specs.Order.{Waiting, settled_key}
use Rattle.search_queue.specs.Tree.{Put}
use Rattle.search_queue.specs.Sums.{Choice, NextAt, SumsKept, entry_in, next-at, no-next}
use Rattle.search_labels.specs.Labelling.{Ordered, labels_in, order_of}
use Rattle.search_labels.specs.Labelled.{Labels}
use Rattle.search_labels.specs.Log.{labels-log, sums_kept}
use Rattle.search_junctions.specs.State.{Given, Ready, go_given, map_given}
use Rattle.search_junctions.specs.Asking.{Asked, AskedTo, Asks, Filling}
use Rattle.search_junctions.specs.Firsts.{Begun}
use Rattle.search_junctions.specs.Relaxing.{Known, Relaxes}
use Rattle.search_junctions.specs.Facts.{codes}
use Rattle.search_junctions.specs.Fills.{asked-goal, asked-more, asked_more_back, asked-older, filling-known, filling-same, leads-none}

-- the entry of v, by its label
abbrev pub entry_of : (n : ℕ) (room : List ℕ) → ℕ → Entry
entry_of n room = entry_in (labels_in n room).times (order_of n room)

-- ---- what a run needs to go on

-- What comes next after the history H, of n nodes: n, the log is complete; or v, the arcs of all that is logged are relaxed, no goal is
-- among it, every candidate's sum is kept, and v is what the definition logs next.
pub data Next (n : ℕ) (G : Problem) (H : List Entry) (room : List ℕ) (v : ℕ) : Type 0 where
  over : (c k : ℕ) → v ≡ n → Labels G H c k (labels_in n room) → Complete G H → Next n G H room v
  on :
      (c k : ℕ) → Labels G H c k (labels_in n room) → G.net.arcs ≤ k → has_goal G H ≡ false
      → SumsKept G H (labels_in n room).times (order_of n room) → v < n → Waiting (order_of n room) v
      → NextIs G H (some (entry_of n room v)) → Next n G H room v

-- where a run stands: what it has written so far, how many nodes are logged, and which comes next
pub record Stand : Type 0 where
  pub estimates : List ℕ
  pub elapsed : List ℕ
  pub log : List ℕ
  pub room : List ℕ
  pub count : ℕ
  pub next : ℕ

abbrev pub stand_of : (estimates elapsed log room : List ℕ) → (count next : ℕ) → Stand
stand_of e t log l c v = record { estimates = e; elapsed = t; log = log; room = l; count = c; next = v }

-- the next node's time
abbrev pub time_at : (n : ℕ) → Stand → ℕ
time_at n a = (labels_in n a.room).times a.next

-- from a, the next node is logged with its time t; e, room and v are estimates, room and next node then
abbrev pub logged : Stand → (t : ℕ) → (e room : List ℕ) → (v : ℕ) → Stand
logged a t e room v = stand_of e (set a.elapsed a.next t) (set a.log a.count a.next) room (a.count + 1) v

-- A run stands at a after a history that the definition reaches: its log and its times, the estimates that it has asked, the labels, and
-- what comes next. e₀ and log₀ are estimates and log before it.
pub record Going (g : Given) (s z : ℕ) (e₀ log₀ : List ℕ) (a : Stand) : Type 0 where
  pub past : List Entry
  pub reached : Reached (go_given g s z) past
  pub counted : length past ≡ a.count
  pub log_is : a.log ≡ first (vertices (reverse past)) log₀
  pub elapsed-is : a.elapsed ≡ listed g.sizes.n (λ u. word (time_in past u))
  pub filling : Filling (map_given g) z (Asked (go_given g s z) s z past) g.down e₀ a.estimates
  pub next : Next g.sizes.n (go_given g s z) past a.room a.next

-- ---- one entry more

-- the log
log-more : (H : List Entry) (E : Entry) → vertices (reverse (E ∷ H)) ≡ vertices (reverse H) ++ (E.vertex ∷ [])
unfolding vertices
log-more H E = rw (reverse-cons E H) (map-append (λ (e : Entry). e.vertex) (reverse H) (E ∷ []))

log-next : (H : List Entry) (E : Entry) (log₀ : List ℕ) {log : List ℕ} {c : ℕ} → length H ≡ c → log ≡ first (vertices (reverse H)) log₀
    → c < length log₀ → set log c E.vertex ≡ first (vertices (reverse (E ∷ H))) log₀
log-next H E log₀ {log} {c} counted log_is lc =
    let q : length (vertices (reverse H)) ≡ c = length-vertices (reverse H) ∙ length-reverse H ∙ counted in
    ap (λ (x : List ℕ). set x c E.vertex) log_is
    ∙ ap (λ (k : ℕ). set (first (vertices (reverse H)) log₀) k E.vertex) (sym q)
    ∙ first_snoc (vertices (reverse H)) log₀ E.vertex (rw q lc)
    ∙ ap (λ (x : List ℕ). first x log₀) (sym (log-more H E))

-- the times of the logged, before anything is logged and with one entry more
none_yet : (n : ℕ) → replicate n none_word ≡ listed n (λ u. word (time_in [] u))
unfolding time_in
none_yet n =
    listed-is n (λ u. none_word) (replicate n none_word) (length-replicate n none_word) (λ u lu. get_or-replicate n u none_word 0 lu)

elapsed-next : (H : List Entry) (E : Entry) (n : ℕ) {elapsed : List ℕ} → E.vertex < n → elapsed ≡ listed n (λ u. word (time_in H u))
    → set elapsed E.vertex E.time ≡ listed n (λ u. word (time_in (E ∷ H) u))
elapsed-next H E n {elapsed} lv is =
    let long : length elapsed ≡ n = ap length is ∙ listed-length n (λ u. word (time_in H u)) in
    listed-is n (λ u. word (time_in (E ∷ H) u)) (set elapsed E.vertex E.time) (length-set elapsed E.vertex E.time ∙ long)
    (λ u lu. at long u lu (ℕ_discrete u E.vertex))
  where
    at : length elapsed ≡ n → (u : ℕ) → u < n → Dec (u ≡ E.vertex)
        → get_or (set elapsed E.vertex E.time) u 0 ≡ word (time_in (E ∷ H) u)
    at long u lu (yes q) =
        rw q (get_or-set_same elapsed E.vertex E.time 0 (omega arith) ∙ ap word (sym (time_in-here E H E.vertex refl)))
    at long u lu (no q) =
        get_or-set_other elapsed E.vertex u E.time 0 q ∙ ap (λ (x : List ℕ). get_or x u 0) is
        ∙ listed_at n (λ u. word (time_in H u)) u lu ∙ ap word (sym (time_in-there E H u (λ r. q (sym r))))

new_of : {G : Problem} {H : List Entry} {E : Entry} → NextIs G H (some E) → time_in H E.vertex ≡ none
new_of (chosen k p) = k.unlogged

-- a goal is logged, or none yet
module _ (G : Problem) (H : List Entry) (E : Entry) where
  goal-more : G.goal E.vertex ≡ true → has_goal G (E ∷ H) ≡ true
  unfolding has_goal
  goal-more q = rw q

  free_more : G.goal E.vertex ≡ false → has_goal G H ≡ false → has_goal G (E ∷ H) ≡ false
  unfolding has_goal
  free_more q f = rw q f

-- the entry E is logged after the history H
record Logs (n : ℕ) (G : Problem) (H : List Entry) (E : Entry) (room : List ℕ) : Type 0 where
  reached : Reached G (E ∷ H)
  free : has_goal G H ≡ false
  new : time_in H E.vertex ≡ none
  labels : Labels G (E ∷ H) E.vertex 0 (labels_in n room)

module _ {g : Given} {s z : ℕ} (r : Ready g s z) where
  -- what is chosen, given that every candidate's sum is kept; all arcs are relaxed and no goal is logged
  next_of : {H : List Entry} {room : List ℕ} {c k v : ℕ} → Labels (go_given g s z) H c k (labels_in g.sizes.n room)
      → (go_given g s z).net.arcs ≤ k → has_goal (go_given g s z) H ≡ false → 0 < g.sizes.n → Ordered g.sizes.n room
      → Choice g.sizes.n room v → Next g.sizes.n (go_given g s z) H room v
  next_of {H} {room} {c} {k} {v} labels full free low x choice =
      at (choice.by-sums G H (labels_in n room).times (order_of n room) (codes r).reads.size_is low x.n-high x.right sums)
    where
      n : ℕ
      n = g.sizes.n

      G : Problem
      G = go_given g s z

      -- what decides between equal keys is the time (document 02, A5)
      sums : SumsKept G H (labels_in n room).times (order_of n room)
      sums = sums_kept full (labels_in n room) (λ u lu. sym ((codes r).ties ((labels_in n room).times u))) labels

      at : NextAt G H (labels_in n room).times (order_of n room) n v → Next n G H room v
      at (no-next q none_is) = over c k q labels (inr none_is)
      at (next-at inside waits next-is) = on c k labels full free sums inside waits next-is

  pub going_start : {e e' elapsed log room : List ℕ} {v : ℕ} → Begun g.roads g.order g.live g.down s z g.sizes.n e e' room
      → elapsed ≡ replicate g.sizes.n none_word → 0 < g.sizes.n → Ordered g.sizes.n room → Choice g.sizes.n room v
      → Going g s z e log (stand_of e' elapsed log room 0 v)
  unfolding has_goal vertices
  going_start b cleared low x choice = record {
    past = [];
    reached = fresh;
    counted = refl;
    log_is = refl;
    elapsed-is = cleared ∙ none_yet g.sizes.n;
    filling = b.filling;
    next = next_of (b.labels 0 (go_given g s z).net.arcs) (omega arith) refl low x choice;
  }

  -- the heads of v's open roads are asked, and so their estimates known
  asked-heads : {H : List Entry} {e₀ e e' : List ℕ} {v : ℕ} → Filling (map_given g) z (Asked (go_given g s z) s z H) g.down e₀ e
      → Asks g v 0 g.sizes.m e e' → Filling (map_given g) z (AskedTo (go_given g s z) s z H v g.sizes.m) g.down e₀ e'
  asked-heads {H} {e₀} f asks =
      asks.exact s z H e₀ r (filling-same (λ a x. inl x) (λ a. elim [ inl y ↦ y | inr y ↦ absurd (leads-none y) ]) f)

  known-heads : {H : List Entry} {e₀ e : List ℕ} {v : ℕ}
      → Filling (map_given g) z (AskedTo (go_given g s z) s z H v g.sizes.m) g.down e₀ e → Known (go_given g s z) e v
  known-heads f i w li tl co =
      let k = codes r in
      let h = (go_given g s z).net.head i in
      let lh : h < (map_given g).vertices = omega (arith, k.ok.well_formed.inside.heads i li, r.n-is, k.reads.size_is) in
      filling-known f h lh (inr (record {
        road = i;
        cost = w;
        below = omega (arith, li, k.reads.arcs_are);
        inside = li;
        from = tl;
        opens = co;
        to = refl;
      })) ∙ ap word (sym (k.pots h))

  -- v is logged: what the definition does
  logs : {e₀ log₀ : List ℕ} {a : Stand} (d : Going g s z e₀ log₀ a) → a.next < g.sizes.n → Ordered g.sizes.n a.room
      → {room : List ℕ} → Put g.sizes.n a.next settled_key a.room room
      → Logs g.sizes.n (go_given g s z) d.past (entry_of g.sizes.n a.room a.next) room
  logs {a = a} d lv x {room} put = at d.next
    where
      n : ℕ
      n = g.sizes.n

      v : ℕ
      v = a.next

      at : Next n (go_given g s z) d.past a.room v → Logs n (go_given g s z) d.past (entry_of n a.room v) room
      at (over c k q labels complete) = absurd (omega arith)
      at (on c k labels full free sums inside waits next-is) =
          record {
            reached = grow d.reached free next-is;
            free = free;
            new = new_of next-is;
            labels =
                labels-log full (entry_of n a.room v) (new_of next-is) a.room room (codes r).reads.size_is x.n-high lv labels put
                refl waits;
          }

  -- one turn: the next node is logged, and is settled in the room
  module _ {e₀ log₀ : List ℕ} {a : Stand} (d : Going g s z e₀ log₀ a) (lv : a.next < g.sizes.n) (lc : a.count < length log₀)
      (x : Ordered g.sizes.n a.room) {room : List ℕ} (put : Put g.sizes.n a.next settled_key a.room room) where
    abbrev entry : Entry
    entry = entry_of g.sizes.n a.room a.next

    log-then : set a.log a.count a.next ≡ first (vertices (reverse (entry ∷ d.past))) log₀
    log-then = log-next d.past entry log₀ d.counted d.log_is lc

    elapsed-then : set a.elapsed a.next (time_at g.sizes.n a) ≡ listed g.sizes.n (λ u. word (time_in (entry ∷ d.past) u))
    elapsed-then = elapsed-next d.past entry g.sizes.n lv d.elapsed-is

    -- it is the target: the log is complete
    pub turn-goal : a.next ≡ z → Going g s z e₀ log₀ (logged a (time_at g.sizes.n a) a.estimates room g.sizes.n)
    turn-goal q =
        let y = logs d lv x put in
        let goal = goal-more (go_given g s z) d.past entry ((codes r).goals a.next ∙ eq-eqb a.next z q) in
        record {
          past = entry ∷ d.past;
          reached = y.reached;
          counted = omega (arith, d.counted);
          log_is = log-then;
          elapsed-is = elapsed-then;
          filling = filling-same (asked-older entry y.new) (asked-goal entry y.new q) d.filling;
          next = over a.next 0 refl y.labels (inl goal);
        }

    -- it is not: the estimates of its open roads' heads are asked, and its roads relaxed
    pub turn_on : {e' room' : List ℕ} {v : ℕ} → (a.next ≡ z → ⊥) → Asks g a.next 0 g.sizes.m a.estimates e'
        → Relaxes (record { sizes = g.sizes; roads = g.roads; live = g.live; estimates = e' }) a.next (time_at g.sizes.n a) 0
        g.sizes.m room room'
        → Choice g.sizes.n room' v → Going g s z e₀ log₀ (logged a (time_at g.sizes.n a) e' room' v)
    turn_on ne asks relaxes choice =
        let k = codes r in
        let y = logs d lv x put in
        let f = asked-heads d.filling asks in
        let free = free_more (go_given g s z) d.past entry (k.goals a.next ∙ ne_eqb a.next z ne) y.free in
        let here = time_in-here entry d.past a.next refl in
        let labels = relaxes.exact (go_given g s z) (entry ∷ d.past) k.ok k.reads y.reached here (known-heads f) y.labels in
        record {
          past = entry ∷ d.past;
          reached = y.reached;
          counted = omega (arith, d.counted);
          log_is = log-then;
          elapsed-is = elapsed-then;
          filling =
              filling-same (asked-more entry y.new ne k.reads.arcs_are) (asked_more_back entry y.new ne k.reads.arcs_are) f;
          next = next_of labels (omega (arith, k.reads.arcs_are)) free (omega arith) relaxes.room choice;
        }
