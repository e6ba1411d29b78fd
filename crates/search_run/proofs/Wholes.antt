-- A run from its beginning to its end, by its turns. Assumes nothing.
use mathlib.Core.Path.{◌∙◌, ◌≡◌, ap, refl, subst, sym}
use mathlib.Core.Logic.{◌⊎◌, inl, inr}
use mathlib.Core.Bool.{Bool, false, not, true}
use mathlib.Core.Option.{some}
use Rattle.std.specs.Prelude.{IfSome, None, Option, Some, is_some}
use mathlib.Core.List.{List, []}
use Prim.Native.Nat.{◌*◌, ◌+◌, ◌-◌, ◌<◌, ◌≤◌, min, suc, ℕ}
use borrow.Author.Tests.{eq-eqb, eqb-false, eqb-true, ne_eqb, not-true}
use lib.Dec.{eqb}
use lib.ListN.{drop, get_or, length, length-set, replicate, set, take}
use native.Mathlib.Decide.{dec_lt}
use native.Mathlib.Numerals.{add-one}
use native.Mathlib.Omega.{arith}
use Rattle.graph.proofs.Total.{true_false}
use Rattle.graph.specs.ByTail.{start_of}
use Rattle.graph.proofs.ByTailLaws.{group_part}
use Rattle.graph.specs.Search.{Entry, Problem, has_goal, run}
use Rattle.graph.specs.Choice.{NextIs, chosen, finished}
use Rattle.graph.specs.History.{Reached, grow}
use Rattle.graph.specs.Complete.{Complete}
use Rattle.graph.proofs.Complete.{length-le, run_add, run_complete_stays}
use Rattle.graph.proofs.Steps.{reached-run}
use Rattle.graph.specs.Walk.{WellFormed}
use Rattle.model.specs.Limits.{most_junctions}
use Rattle.model.specs.Word.{none_word}
use Rattle.model.specs.Estimate.{Kept}
use Rattle.model.proofs.Laws.{kept_refl, kept_trans, listed_at}
use Rattle.network.specs.declared.Sizes.{Sizes}
use Rattle.road_groups.specs.Lending.{GroupsMade, tail_in}
use Rattle.search_queue.specs.Order.{settled_key}
use Rattle.search_queue.specs.Tree.{Put}
use Rattle.search_queue.specs.Sums.{Choice, SumsKept, picked}
use Rattle.search_queue.specs.Laws.{chosen-inside, fresh-room}
use Rattle.search_labels.specs.Labelling.{Ordered, labels_in, order_of}
use Rattle.search_labels.specs.Labelled.{Labels}
use Rattle.search_labels.specs.Ended.{way_at}
use Rattle.search_junctions.specs.Groups.{IsGroup, part_of}
use Rattle.search_junctions.specs.State.{Given, Ready, Sized, SizedIn, go_given}
use Rattle.search_junctions.specs.Asking.{AsksGroup, EstimatesIn, PairsIn}
use Rattle.search_junctions.specs.Firsts.{Begins, Blank}
use Rattle.search_junctions.specs.Relaxing.{ReadIn, RelaxesGroup}
use Rattle.search_junctions.specs.Facts.{codes}
use Rattle.search_run.specs.Runs.{Advanced, Advances, BlankRoom, LendsRoom, Tells, Written, written_of}
use Rattle.search_run.proofs.Turns.{Going, Next, Stand, going_start, logged, on, over, stand_of, time_at, turn-goal, turn_on}

-- ---- the history of a run

-- A history that is reached, of c entries, is that of the budget: it is used up, or the history is complete.
run_of : {G : Problem} {H : List Entry} {c budget : ℕ} → WellFormed G → Reached G H → length H ≡ c → c ≤ budget
    → (c ≡ budget) ⊎ Complete G H → H ≡ run G budget []
run_of {G} {H} wf r counted le (inl q) = reached-run wf r ∙ ap (λ (k : ℕ). run G k []) (counted ∙ q)
run_of {G} {H} {c} {budget} wf r counted le (inr complete) =
    let here : H ≡ run G c [] = reached-run wf r ∙ ap (λ (k : ℕ). run G k []) counted in
    let sum : c + (budget - c) ≡ budget = omega arith in
    sym (ap (λ (k : ℕ). run G k []) (sym sum) ∙ run_add G (budget - c) c [] ∙ ap (run G (budget - c)) (sym here)
    ∙ run_complete_stays G (budget - c) H complete)

-- a history after which one comes is not complete
not_complete : {G : Problem} {H : List Entry} {E : Entry} → has_goal G H ≡ false → NextIs G H (some E) → Complete G H → ⊥
not_complete free (chosen k p) (inl q) = true_false q free
not_complete {E = E} free (chosen k p) (inr (finished n)) = n E k

-- ---- what is lent on

-- the first candidate is a node, or there is none
pub first-inside : {n v : ℕ} {room : List ℕ} → Ordered n room → 0 < n → Choice n room v → v ≤ n
first-inside {n} {room = room} x low choice = chosen-inside (choice.by_order (order_of n room) low x.n-high x.right)

-- lengths of what is read, and of the estimates
pub pairs_in : {z : Sizes} {order ranks pairs times down e' : List ℕ} {roads live e t : ℕ}
    → Sized z.n z.m z.pairs roads (length order) (length ranks) (length pairs) (length times) live (length down) e t
    → length e' ≡ e → PairsIn z order ranks pairs times down e'
pairs_in x q = record {
  n-high = x.n-high;
  count-high = x.count-high;
  order_is = x.order_is;
  ranks_are = x.ranks_are;
  pairs_are = x.pairs_are;
  times_are = x.times_are;
  down_is = x.down_is;
  estimates_are = q ∙ x.estimates_are;
}

pub asking : {g : Given} {e t : ℕ} {e' : List ℕ} → SizedIn g e t → length e' ≡ e → EstimatesIn g e'
asking x q = record { over = pairs_in x q; m-high = x.m-high; roads_are = x.roads_are; live-is = x.live-is }

pub reading : {z : Sizes} {roads live e' : List ℕ} {order ranks pairs times down e t : ℕ}
    → Sized z.n z.m z.pairs (length roads) order ranks pairs times (length live) down e t → length e' ≡ e
    → ReadIn (record { sizes = z; roads = roads; live = live; estimates = e' })
reading x q = record { m-high = x.m-high; roads_are = x.roads_are; live-is = x.live-is; estimates_are = q ∙ x.estimates_are }

-- a room of blank words: no node has a time or a key, and nobody is at any place of the tournament
module _ {n : ℕ} {room : List ℕ} (high : n ≤ most_junctions) (b : BlankRoom n room) where
  pub room-blank : Ordered n room
  room-blank = record {
    n-high = omega arith;
    words = b.words;
    right =
        fresh-room (order_of n room) n room (λ p low lp. b.blank p (omega arith))
        (λ v lv. (let z = b.blank (n + v) (omega arith) in omega arith));
  }

  pub blank_of : {z : Sizes} {order ranks pairs times down e : List ℕ} → n ≡ z.n → PairsIn z order ranks pairs times down e
      → Blank z order ranks pairs times down e room
  blank_of n-is lengths = record {
    over = lengths;
    room = rw n-is at room-blank;
    timeless = λ v lv. (let z = b.blank (2 * n + v) (omega arith) in rw (← n-is) (omega arith));
    keyless = λ v lv. (let z = b.blank (n + v) (omega arith) in rw (← n-is) (omega arith));
  }

-- between ends within the area nothing is clamped
part-inside : (l : List ℕ) {a b : ℕ} → a ≤ b → b ≤ length l → part_of l a b ≡ take (b - a) (drop a l)
part-inside l {a} {b} forward inside =
    let end_is : min b (length l) ≡ b = omega arith in
    let start_is : min a b ≡ a = omega arith in
    rw (end_is, start_is)

-- the part of the roads by tail that is lent for v is its group
group_lent : {roads : List ℕ} {n m v : ℕ} {leaving groups : List ℕ} → GroupsMade roads n m leaving groups → v < n
    → IsGroup roads m v (part_of leaving (get_or groups v 0) (get_or groups (v + 1) 0))
group_lent {roads} {n} {m} {v} {leaving} {groups} made lv =
    let start-at : (w : ℕ) → w < suc n → get_or groups w 0 ≡ start_of (tail_in roads) m w =
    λ w lw. ap (λ (l : List ℕ). get_or l w 0) made.starts_are ∙ listed_at (suc n) (start_of (tail_in roads) m) w lw in
    let a-is : get_or groups v 0 ≡ start_of (tail_in roads) m v = start-at v (omega arith) in
    let b-is : get_or groups (v + 1) 0 ≡ start_of (tail_in roads) m (suc v) =
    start-at (v + 1) (omega arith) ∙ ap (start_of (tail_in roads) m) (add-one v) in
    let part = group_part (tail_in roads) m lv made.leaving_are a-is b-is in
    record { group_is = part-inside leaving part.forward part.inside ∙ part.part-is }

-- ---- the turns

-- the loop goes on: v is a node, and the budget is not used up
pub record Turn (v n c most : ℕ) : Type 0 where
  pub node_in : v < n
  pub count_in : c < most

pub turn_of : {v n c most : ℕ} → v < n → c ≤ most → (c ≡ most → ⊥) → Turn v n c most
turn_of lv le ne = record { node_in = lv; count_in = omega (arith, ne) }

-- what is picked is none of the n only where nothing is picked
pub picked-none : (n : ℕ) (r : Option ℕ) {b : Bool} → IfSome r (λ v. v < n) → is_some r ≡ not b → b ≡ eqb (picked n r) n
picked-none n (Some v) {b} lv h = not-true b (sym h) ∙ sym (ne_eqb v n (λ q. omega (arith, lv, q)))
picked-none n None {b} lv h = at b h
  where
    at : (b : Bool) → false ≡ not b → b ≡ eqb n n
    at true h = sym (eq-eqb n n refl)
    at false h = absurd (true_false refl (sym h))

-- v is settled, and its place in the queue renewed
pub room_settled : {n v : ℕ} {room room' : List ℕ} → 3 * n ≤ length room' → Put n v settled_key room room' → Ordered n room
    → Ordered n room'
room_settled long put x = record { n-high = x.n-high; words = long; right = put.right }

-- From where the run stands at the beginning of the loop, a, to where it stands now, b.
pub record Running (g : Given) (leaving groups : List ℕ) (s z most : ℕ) (a b : Stand) : Type 0 where
  pub count-le : b.count ≤ most
  pub next_le : b.next ≤ g.sizes.n
  pub estimates-long : length b.estimates ≡ length a.estimates
  pub elapsed-long : length b.elapsed ≡ length a.elapsed
  pub log-long : length b.log ≡ length a.log
  pub right : Ordered g.sizes.n b.room
  pub kept : Kept a.estimates b.estimates
  pub goes : (e₀ log₀ : List ℕ) → Ready g s z → GroupsMade g.roads g.sizes.n g.sizes.m leaving groups → most ≤ length log₀
      → Going g s z e₀ log₀ a → Going g s z e₀ log₀ b

module _ {g : Given} {leaving groups : List ℕ} {s z most : ℕ} where
  pub running_start : {e t log room : List ℕ} {v : ℕ} → v ≤ g.sizes.n → Ordered g.sizes.n room
      → Running g leaving groups s z most (stand_of e t log room 0 v) (stand_of e t log room 0 v)
  running_start le x = record {
    count-le = omega arith;
    next_le = le;
    estimates-long = refl;
    elapsed-long = refl;
    log-long = refl;
    right = x;
    kept = kept_refl;
    goes = λ e₀ log₀ r made le d. d;
  }

  -- b's next node is logged with its time t and settled
  module _ {a b : Stand} (x : Running g leaving groups s z most a b) (turn : Turn b.next g.sizes.n b.count most) {t : ℕ}
      (t-is : t ≡ time_at g.sizes.n b) {room : List ℕ} (long : 3 * g.sizes.n ≤ length room)
      (put : Put g.sizes.n b.next settled_key b.room room) where
    elapsed-kept : length (set b.elapsed b.next t) ≡ length a.elapsed
    elapsed-kept = length-set b.elapsed b.next t ∙ x.elapsed-long

    log-kept : length (set b.log b.count b.next) ≡ length a.log
    log-kept = length-set b.log b.count b.next ∙ x.log-long

    -- it is the target
    pub running_goal : eqb b.next z ≡ true → Running g leaving groups s z most a (logged b t b.estimates room g.sizes.n)
    running_goal q = record {
      count-le = omega (arith, turn.count_in);
      next_le = omega arith;
      estimates-long = x.estimates-long;
      elapsed-long = elapsed-kept;
      log-long = log-kept;
      right = room_settled long put x.right;
      kept = x.kept;
      goes = λ e₀ log₀ r made le d.
          rw t-is
          (turn-goal r (x.goes e₀ log₀ r made le d) turn.node_in (omega (arith, turn.count_in)) x.right put
          (eqb-true b.next z q));
    }

    -- it is not: the group of its roads is relaxed from that time
    pub running_on : {group e room' : List ℕ} {from v : ℕ} → eqb b.next z ≡ false
        → group ≡ part_of leaving (get_or groups b.next 0) (get_or groups (b.next + 1) 0) → length e ≡ length b.estimates
        → AsksGroup g group b.estimates e
        → from ≡ time_at g.sizes.n b
        → RelaxesGroup (record { sizes = g.sizes; roads = g.roads; live = g.live; estimates = e }) group from room room'
        → Choice g.sizes.n room' v → Running g leaving groups s z most a (logged b t e room' v)
    running_on q group_is le asks from_is relaxes choice = record {
      count-le = omega (arith, turn.count_in);
      next_le = first-inside relaxes.room (omega (arith, turn.node_in)) choice;
      estimates-long = le ∙ x.estimates-long;
      elapsed-long = elapsed-kept;
      log-long = log-kept;
      right = relaxes.room;
      kept = kept_trans x.kept asks.kept;
      goes = λ e₀ log₀ r made le d.
          let is = subst (IsGroup g.roads g.sizes.m b.next) (sym group_is) (group_lent made turn.node_in) in
          rw t-is
          (turn_on r (x.goes e₀ log₀ r made le d) turn.node_in (omega (arith, turn.count_in)) x.right put
          (eqb-false b.next z q) (asks.exact b.next is) (rw from_is at (relaxes.exact b.next is)) choice);
    }

-- ---- the end

-- what the caller has of it
abbrev pub leaves : Stand → Written
leaves a = written_of a.estimates a.elapsed a.room a.log

-- What stands when the loop is left: the budget is used up, or nothing comes next.
module _ {g : Given} {s z : ℕ} (r : Ready g s z) {e₀ log₀ : List ℕ} {a : Stand} (d : Going g s z e₀ log₀ a) (budget : ℕ)
    (low : a.count ≤ min budget g.sizes.n) (left : Turn a.next g.sizes.n a.count (min budget g.sizes.n) → ⊥) where
  -- whether it is complete, and that all that the budget allows is logged
  record Ends : Type 0 where
    tells : Tells (eqb a.next g.sizes.n) (Complete (go_given g s z) d.past)
    all : (a.count ≡ budget) ⊎ Complete (go_given g s z) d.past
    at : ℕ
    upto : ℕ
    labels : Labels (go_given g s z) d.past at upto (labels_in g.sizes.n a.room)
    sums : eqb a.next g.sizes.n ≡ false
        → SumsKept (go_given g s z) d.past (labels_in g.sizes.n a.room).times (order_of g.sizes.n a.room)

  ends : Ends
  ends = go d.next
    where
      wf : WellFormed (go_given g s z)
      wf = (codes r).ok.well_formed

      c : ℕ
      c = a.count

      v : ℕ
      v = a.next

      go : Next g.sizes.n (go_given g s z) d.past a.room v → Ends
      go (over u k q labels complete) = record {
        tells = record { yes_is = λ t. complete; no-is = λ f. absurd (true_false (eq-eqb v g.sizes.n q) f) };
        all = inr complete;
        at = u;
        upto = k;
        labels = labels;
        sums = λ f. absurd (true_false (eq-eqb v g.sizes.n q) f);
      }
      go (on u k labels full free sums inside waits next-is) =
          let short = length-le wf (grow d.reached free next-is) in
          let lc : c < g.sizes.n = omega (arith, short, d.counted, (codes r).reads.size_is) in
          record {
            tells = record {
              yes_is = λ q. absurd (omega (arith, eqb-true v g.sizes.n q, inside));
              no-is = λ q. not_complete free next-is;
            };
            all = inl (used (dec_lt c (min budget g.sizes.n)) lc inside);
            at = u;
            upto = k;
            labels = labels;
            sums = λ f. sums;
          }
        where
          used : Dec (c < min budget g.sizes.n) → c < g.sizes.n → v < g.sizes.n → c ≡ budget
          used (yes y) lc lv = absurd (left (record { node_in = lv; count_in = y }))
          used (no y) lc lv = omega arith

  advanced : {elapsed₀ room₀ : List ℕ}
      → Advanced g s z (run (go_given g s z) budget []) (written_of e₀ elapsed₀ room₀ log₀) (leaves a) a.count
      (eqb a.next g.sizes.n)
  advanced {elapsed₀} {room₀} =
      subst (λ (H : List Entry). Advanced g s z H (written_of e₀ elapsed₀ room₀ log₀) (leaves a) a.count (eqb a.next g.sizes.n))
      (run_of (codes r).ok.well_formed d.reached d.counted (omega arith) ends.all) (record {
        count-is = sym d.counted;
        log_is = d.log_is;
        elapsed-is = d.elapsed-is;
        filling = d.filling;
        ways = λ v t lv h. way_at (labels_in g.sizes.n a.room) ends.labels v t lv h;
        complete-is = ends.tells;
        sums = ends.sums;
      })

-- the run as a whole: its first candidate, and its turns. e₁, t₁, room₁ and v₁ stand when the loop begins.
pub advances : {g : Given} {leaving groups : List ℕ} {s z budget most : ℕ} {l₀ : Written} {e₁ t₁ room₁ : List ℕ} {v₁ : ℕ} {a : Stand}
    → LendsRoom g leaving groups s z l₀ → Begins g.sizes g.order g.ranks g.pairs g.times g.down s l₀.estimates e₁ room₁
    → t₁ ≡ replicate (length l₀.elapsed) none_word → Choice g.sizes.n room₁ v₁ → most ≡ min budget g.sizes.n
    → Running g leaving groups s z most (stand_of e₁ t₁ l₀.log room₁ 0 v₁) a
    → (Turn a.next g.sizes.n a.count most → ⊥) → {complete : Bool} → complete ≡ eqb a.next g.sizes.n
    → Advances g leaving groups s z budget l₀ (leaves a) a.count complete
advances {g} {budget = budget} {most} {l₀} {a = a} lends begun cleared choice most-is x left complete-is = record {
  kept = kept_trans begun.kept x.kept;
  count-le = omega (arith, x.count-le);
  exact = λ r made aims.
      let none = cleared ∙ ap (λ (k : ℕ). replicate k none_word) lends.within.sized.elapsed-is in
      let d = x.goes l₀.estimates l₀.log r made (omega (arith, lends.log-long))
      (going_start r (begun.exact g.roads g.live _ r aims) none (omega (arith, lends.within.start_in)) begun.room choice) in
      let upto : Turn a.next g.sizes.n a.count (min budget g.sizes.n) → ⊥ =
      λ t. left (record { node_in = t.node_in; count_in = omega (arith, t.count_in) }) in
      rw complete-is (advanced r d budget (omega (arith, x.count-le)) upto);
}
