-- The roads of a row: linked, and walked from the last one down. Assumes nothing.
use mathlib.Core.Path.{◌∙◌, ◌≡◌, ap, ap₂, refl, sym}
use mathlib.Core.Bool.{Bool, cond, false, true}
use mathlib.Core.Option.{none, some}
use mathlib.Core.List.{List}
use Prim.Native.Nat.{◌*◌, ◌+◌, ◌/◌, ◌<◌, ◌≤◌, min, suc, zero, ℕ}
use borrow.Author.Tests.{eq-eqb, eqb-false, eqb-true, ne_eqb}
use lib.Dec.{eqb}
use lib.ListN.{get_or, length, set}
use lib.Seq.{get_or-set_other, get_or-set_same}
use native.Mathlib.Decide.{ℕ_discrete}
use native.Mathlib.Nat.{not-suc-le-zero}
use native.Mathlib.Numerals.{add-one}
use native.Mathlib.Omega.{arith}
use Rattle.graph.specs.Total.{Total, ◌⊓◌}
use Rattle.graph.proofs.Total.{cond_same, ⊓-assoc, ⊓-comm, ⊓-none}
use Rattle.graph.specs.Least.{min_below}
use Rattle.graph.proofs.Least.{min_below-skip}
use Rattle.graph.specs.Network.{Network, cost_between, direct}
use Rattle.model.specs.Limits.{most_time}
use Rattle.model.specs.Word.{word}
use Rattle.model.specs.Bytes.{word_at}
use Rattle.network.specs.Width.{fit, fit_in, fit-min}
use Rattle.pairs_rows.specs.Links.{Linked, Ranked, last_of, net_in, row_of}
use Rattle.pairs_rows.specs.Rows.{Marked, RoadRelaxed, RoadTimes, Row, block}
use Rattle.pairs_rows.specs.Entries.{marked-none, marked-set, row_same, row-set}

-- ---- the two ranks of a road

pub record Ends (roads ranks : List ℕ) (i a b : ℕ) : Type 0 where
  pub tail-is : (net_in roads ranks).tail i ≡ a
  pub head-is : (net_in roads ranks).head i ≡ b
  pub tail-below : a < length ranks
  pub head-below : b < length ranks

pub ends : {roads ranks : List ℕ} {i a b j k : ℕ} → Ranked roads ranks → i < length roads / 12 → j ≡ word_at roads (12 * i)
    → a ≡ get_or ranks j 0 → k ≡ word_at roads (12 * i + 4) → b ≡ get_or ranks k 0 → Ends roads ranks i a b
ends {roads} {ranks} {i} {a} {b} {j} {k} s h ej ea ek eb = record {
  tail-is = ap (λ (x : ℕ). get_or ranks x 0) (sym ej) ∙ sym ea;
  head-is = ap (λ (x : ℕ). get_or ranks x 0) (sym ek) ∙ sym eb;
  tail-below = rw ea (s.named j (rw ej (s.tails i h)));
  head-below = rw eb (s.named k (rw ek (s.heads i h)));
}

-- and its base time t
pub record Road (roads ranks : List ℕ) (i a b t : ℕ) : Type 0 where
  pub ends : Ends roads ranks i a b
  pub cost-is : (net_in roads ranks).cost i ≡ some t
  pub small : t ≤ most_time

-- ---- the links

module _ (f : ℕ → ℕ) (r : ℕ) where
  pub last_of-le : (k : ℕ) → last_of f r k ≤ k
  last_of-le zero = omega arith
  last_of-le (suc k) = go (eqb (f k) r) (last_of-le k)
    where
      go : (b : Bool) → last_of f r k ≤ k → cond b (suc k) (last_of f r k) ≤ suc k
      go true h = omega arith
      go false h = omega arith

  -- the road there is of the row
  pub last_of-is : (k i : ℕ) → last_of f r k ≡ suc i → f i ≡ r
  last_of-is zero i e = absurd (omega arith)
  last_of-is (suc k) i e = go (eqb (f k) r) refl e (λ q. last_of-is k i q)
    where
      go : (b : Bool) → eqb (f k) r ≡ b → cond b (suc k) (last_of f r k) ≡ suc i → (last_of f r k ≡ suc i → f i ≡ r) → f i ≡ r
      go true t q rec = let z : i ≡ k = omega arith in ap f z ∙ eqb-true (f k) r t
      go false t q rec = rec q

  -- and none after it
  pub last_of-skip : (k i : ℕ) → last_of f r k ≤ i → i < k → f i ≡ r → ⊥
  last_of-skip zero i l h e = not-suc-le-zero h
  last_of-skip (suc k) i l h e = go (eqb (f k) r) refl l (ℕ_discrete i k) (λ p q. last_of-skip k i p q e)
    where
      go : (b : Bool) → eqb (f k) r ≡ b → cond b (suc k) (last_of f r k) ≤ i → Dec (i ≡ k) → (last_of f r k ≤ i → i < k → ⊥) → ⊥
      go true t q d rec = omega arith
      go false t q (yes p) rec = eqb-false (f k) r t (ap f (sym p) ∙ e)
      go false t q (no p) rec = rec q (omega arith)

module _ {N : Network} {n : ℕ} {first next : List ℕ} where
  pub linked-start : ((r : ℕ) → r < n → get_or first r 0 ≡ 0) → Linked N n 0 first next
  linked-start z = record { firsts = z; nexts = λ i h. absurd (not-suc-le-zero h) }

  pub linked-turn : {i r v : ℕ} → n ≤ length first → i < length next → r < n → r ≡ row_of N i → v ≡ i + 1 → Linked N n i first next
      → Linked N n (i + 1) (set first r v) (set next i (get_or first r 0))
  linked-turn {i} {r} {v} lf ln hr er ev l = rw (add-one i) (record {
    firsts = λ q hq. head q hq (ℕ_discrete q r);
    nexts = λ j hj. link j hj (ℕ_discrete j i);
  })
    where
      head : (q : ℕ) → q < n → Dec (q ≡ r) → get_or (set first r v) q 0 ≡ last_of (row_of N) q (suc i)
      head q hq (yes e) =
          let k : r < length first = omega arith in
          let t = eq-eqb (row_of N i) q (sym er ∙ sym e) in
          ap (λ (x : ℕ). get_or (set first r v) x 0) e ∙ get_or-set_same first r v 0 k ∙ ev ∙ add-one i ∙ rw t
      head q hq (no ne) =
          let t = ne_eqb (row_of N i) q (λ e. ne (sym e ∙ sym er)) in
          get_or-set_other first r q v 0 ne ∙ l.firsts q hq ∙ rw t

      link : (j : ℕ) → j < suc i → Dec (j ≡ i) → get_or (set next i (get_or first r 0)) j 0 ≡ last_of (row_of N) (row_of N j) j
      link j hj (yes e) =
          ap (λ (x : ℕ). get_or (set next i (get_or first r 0)) x 0) e ∙ get_or-set_same next i (get_or first r 0) 0 ln ∙ l.firsts r hr
          ∙ ap₂ (λ (x : ℕ) (y : ℕ). last_of (row_of N) x y) (er ∙ ap (row_of N) (sym e)) (sym e)
      link j hj (no ne) = get_or-set_other next i j (get_or first r 0) 0 ne ∙ l.nexts j (omega arith)

  pub linked-end : {i k : ℕ} → i ≤ k → k ≤ i → Linked N n i first next → Linked N n k first next
  linked-end {i} {k} p q l = let e : i ≡ k = omega arith in rw e at l

-- ---- one road

module _ (N : Network) (i : ℕ) where
  cost-at : (a b : ℕ) → N.tail i ≡ a → N.head i ≡ b → cost_between N a b i ≡ N.cost i
  cost-at a b p q = rw (eq-eqb (N.tail i) a p, eq-eqb (N.head i) b q)

  cost-tail : (a b : ℕ) → (N.tail i ≡ a → ⊥) → cost_between N a b i ≡ none
  cost-tail a b p = rw (ne_eqb (N.tail i) a p)

  cost-head : (a b : ℕ) → (N.head i ≡ b → ⊥) → cost_between N a b i ≡ none
  cost-head a b p = rw (ne_eqb (N.head i) b p) (cond_same (eqb (N.tail i) a) none)

  -- a road of another row leads neither from r upwards nor to r downwards
  cost_elsewhere : (r h : ℕ) → r < h → (row_of N i ≡ r → ⊥) → (cost_between N r h i ≡ none) × (cost_between N h r i ≡ none)
  cost_elsewhere r h rh ne = (from (ℕ_discrete (N.tail i) r), to (ℕ_discrete (N.head i) r))
    where
      from : Dec (N.tail i ≡ r) → cost_between N r h i ≡ none
      from (yes p) = cost-head r h (λ q. ne (omega arith))
      from (no p) = cost-tail r h p

      to : Dec (N.head i ≡ r) → cost_between N h r i ≡ none
      to (yes p) = cost-tail h r (λ q. ne (omega arith))
      to (no p) = cost-head h r p

module _ {roads ranks : List ℕ} {i a b t : ℕ} (road : Road roads ranks i a b t) where
  abbrev N : Network
  N = net_in roads ranks

  abbrev tail : N.tail i ≡ a
  tail = road.ends.tail-is

  abbrev head : N.head i ≡ b
  head = road.ends.head-is

  -- the entry, relaxed by the road's time
  relaxed-entry : (x : Total) (e : ℕ) → e ≡ word (fit x) → min e t ≡ word (fit (x ⊓ N.cost i))
  relaxed-entry x e w =
      let k : word (fit (some t)) ≡ t = ap word (fit_in t (omega (arith, road.small))) in
      rw (w, road.cost-is) (ap (min (word (fit x))) (sym k) ∙ fit-min x (some t))

  pub road-up : {n v : ℕ} {ups downs touched touched' : List ℕ} → a < b → v ≡ min (get_or ups b 0) t → b < block * length touched
      → touched' ≡ set touched (b / block) 1 → RoadRelaxed N n i ups downs touched (set ups b v) downs touched'
  road-up {n} {v} {ups} {downs} {touched} {touched'} lt ev lb et =
      let e : N.tail i ≡ row_of N i = omega (arith, tail, head) in
      record {
        ups-by = λ x w. row-set (λ h. x h ⊓ cost_between N (row_of N i) h i) b v w
            (λ rb bn. ev ∙ relaxed-entry (x b) (get_or ups b 0) (w.at b rb bn) ∙ ap (λ (c : Total). word (fit (x b ⊓ c)))
            (sym (cost-at N i (row_of N i) b e head)))
            (λ h rh ne. ap (◌⊓◌ (x h)) (cost-head N i (row_of N i) h (λ q. ne (sym q ∙ head))) ∙ ⊓-none (x h));
        downs-by = λ y w. row_same (λ h. y h ⊓ cost_between N h (row_of N i) i) w
            (λ h rh hn. ap (◌⊓◌ (y h)) (cost-tail N i h (row_of N i) (λ q. omega arith)) ∙ ⊓-none (y h));
        marks = λ r m w. marked-set lb et (λ h ne. get_or-set_other ups b h v 0 ne) (λ h ne. refl) w;
      }

  pub road-down : {n v : ℕ} {ups downs touched touched' : List ℕ} → b ≤ a → v ≡ min (get_or downs a 0) t → a < block * length touched
      → touched' ≡ set touched (a / block) 1 → RoadRelaxed N n i ups downs touched ups (set downs a v) touched'
  road-down {n} {v} {ups} {downs} {touched} {touched'} le ev la et =
      let e : N.head i ≡ row_of N i = omega (arith, tail, head) in
      record {
        ups-by = λ x w. row_same (λ h. x h ⊓ cost_between N (row_of N i) h i) w
            (λ h rh hn. ap (◌⊓◌ (x h)) (cost-head N i (row_of N i) h (λ q. omega arith)) ∙ ⊓-none (x h));
        downs-by = λ y w. row-set (λ h. y h ⊓ cost_between N h (row_of N i) i) a v w
            (λ ra an. ev ∙ relaxed-entry (y a) (get_or downs a 0) (w.at a ra an) ∙ ap (λ (c : Total). word (fit (y a ⊓ c)))
            (sym (cost-at N i a (row_of N i) tail e)))
            (λ h rh ne. ap (◌⊓◌ (y h)) (cost-tail N i h (row_of N i) (λ q. ne (sym q ∙ tail))) ∙ ⊓-none (y h));
        marks = λ r m w. marked-set la et (λ h ne. refl) (λ h ne. get_or-set_other downs a h v 0 ne) w;
      }

-- ---- the walk down the roads of r

-- what the roads from place c on give, and what those below c are to add
pub record Walked (N : Network) (n r c : ℕ) (ups downs touched : List ℕ) : Type 0 where
  pub x : ℕ → Total
  pub y : ℕ → Total
  pub ups_are : Row r n ups x
  pub downs_are : Row r n downs y
  pub ups-left : (h : ℕ) → r < h → x h ⊓ min_below c (cost_between N r h) ≡ direct N r h
  pub downs-left : (h : ℕ) → r < h → y h ⊓ min_below c (cost_between N h r) ≡ direct N h r
  pub below : c ≤ N.arcs
  pub mine : (i : ℕ) → c ≡ suc i → row_of N i ≡ r
  pub marked : Marked r n touched ups downs

module _ (N : Network) (r : ℕ) where
  -- from k down to the last road of the row
  down_to : (k c h : ℕ) → c ≡ last_of (row_of N) r k → r < h → (min_below k (cost_between N r h) ≡ min_below c (cost_between N r h))
      × (min_below k (cost_between N h r) ≡ min_below c (cost_between N h r))
  down_to k c h e rh =
      let le : c ≤ k = rw e (last_of-le (row_of N) r k) in
      let other : (i : ℕ) → c ≤ i → i < k → row_of N i ≡ r → ⊥ = λ i ci ik. last_of-skip (row_of N) r k i (rw e at ci) ik in (
        min_below-skip c k (cost_between N r h) le (λ i ci ik. (cost_elsewhere N i r h rh (other i ci ik)).0),
        min_below-skip c k (cost_between N h r) le (λ i ci ik. (cost_elsewhere N i r h rh (other i ci ik)).1),
      )

one_more : (x f g d : Total) → x ⊓ (f ⊓ g) ≡ d → (x ⊓ g) ⊓ f ≡ d
one_more x f g d e = ⊓-assoc x g f ∙ ap (◌⊓◌ x) (⊓-comm g f) ∙ e

module _ {N : Network} {n r : ℕ} where
  pub walked_start : {c : ℕ} {ups downs touched : List ℕ} → c ≡ last_of (row_of N) r N.arcs → Row r n ups (λ h. none)
      → Row r n downs (λ h. none) → n ≤ block * length touched → Walked N n r c ups downs touched
  unfolding direct
  walked_start {c} e u d l = record {
    x = λ h. none;
    y = λ h. none;
    ups_are = u;
    downs_are = d;
    ups-left = λ h rh. sym (down_to N r N.arcs c h e rh).0;
    downs-left = λ h rh. sym (down_to N r N.arcs c h e rh).1;
    below = rw e (last_of-le (row_of N) r N.arcs);
    mine = λ i q. last_of-is (row_of N) r N.arcs i (sym e ∙ q);
    marked = marked-none l u d;
  }

  pub walked_turn : {c i c' : ℕ} {ups downs touched ups' downs' touched' : List ℕ} → c ≡ suc i → c' ≡ last_of (row_of N) (row_of N i) i
      → Walked N n r c ups downs touched
      → RoadRelaxed N n i ups downs touched ups' downs' touched' → Walked N n r c' ups' downs' touched'
  walked_turn {c} {i} {c'} {ups} {downs} {touched} {ups'} {downs'} {touched'} e f w z =
      let m = w.mine i e in
      let k : c' ≡ last_of (row_of N) r i = f ∙ ap (λ (q : ℕ). last_of (row_of N) q i) m in
      let u : Row r n ups' (λ h. w.x h ⊓ cost_between N r h i) = rw m at (z.ups-by w.x) w.ups_are in
      let d : Row r n downs' (λ h. w.y h ⊓ cost_between N h r i) = rw m at (z.downs-by w.y) w.downs_are in
      record {
        x = λ h. w.x h ⊓ cost_between N r h i;
        y = λ h. w.y h ⊓ cost_between N h r i;
        ups_are = u;
        downs_are = d;
        ups-left = λ h rh. ap (◌⊓◌ (w.x h ⊓ cost_between N r h i)) (sym (down_to N r i c' h k rh).0)
            ∙ one_more (w.x h) (min_below i (cost_between N r h)) (cost_between N r h i) (direct N r h) (rw e at (w.ups-left h rh));
        downs-left = λ h rh. ap (◌⊓◌ (w.y h ⊓ cost_between N h r i)) (sym (down_to N r i c' h k rh).1)
            ∙ one_more (w.y h) (min_below i (cost_between N h r)) (cost_between N h r i) (direct N h r) (rw e at (w.downs-left h rh));
        below = omega (arith, last_of-le (row_of N) r i, w.below);
        mine = λ j q. last_of-is (row_of N) r i j (sym k ∙ q);
        marked = z.marks r n w.marked;
      }

  pub walked_end : {c : ℕ} {ups downs touched : List ℕ} → c ≡ 0 → Walked N n r c ups downs touched → RoadTimes N r n ups downs touched
  walked_end e w = record {
    ups_are = row_same (λ h. direct N r h) w.ups_are (λ h rh hn. sym (rw e at (w.ups-left h rh)) ∙ ⊓-none (w.x h));
    downs_are = row_same (λ h. direct N h r) w.downs_are (λ h rh hn. sym (rw e at (w.downs-left h rh)) ∙ ⊓-none (w.y h));
    marked = w.marked;
  }
