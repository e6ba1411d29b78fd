-- Which junctions stand at earlier places of the order. Assumes nothing.
use mathlib.Core.Path.{◌∙◌, ◌≡◌, ap, refl, sym}
use mathlib.Core.Logic.{◌≢◌}
use mathlib.Core.Bool.{Bool, ◌&&◌, cond, false, not, true}
use mathlib.Core.Option.{none, some}
use mathlib.Core.List.{List}
use Prim.Native.Nat.{◌+◌, ◌<◌, ◌≤◌, zero-le, ℕ}
use borrow.Author.Tests.{eq-eqb, le-ltb, lt-ltb, ltb-true, ne_eqb}
use lib.Dec.{eqb, ltb}
use lib.ListN.{get_or, get_or-replicate, length, length-replicate, replicate, set}
use lib.Seq.{get_or-set_other, get_or-set_same}
use native.Mathlib.Decide.{dec_lt, ℕ_discrete}
use native.Mathlib.Numerals.{add-one}
use native.Mathlib.Omega.{arith}
use Rattle.graph.proofs.Total.{and_true}
use Rattle.graph.specs.Least.{every}
use Rattle.model.specs.Limits.{most_junctions}
use Rattle.model.specs.Card.{Rows, place_ok}
use Rattle.card_sections.proofs.Firsts.{failing, first_found, first-start, first-turn}

-- entry j is 0 exactly if j is at none of the first k places of the order f
abbrev Seen : (ℕ → ℕ) → ℕ → List ℕ → Type 0
Seen f k seen = (j : ℕ) → j < most_junctions → eqb (get_or seen j 0) 0 ≡ every k (λ e. not (eqb (f e) j))

module _ (f : ℕ → ℕ) where
  seen_start : Seen f 0 (replicate most_junctions 0)
  unfolding every
  seen_start j h = rw (get_or-replicate {A = ℕ} most_junctions j 0 0 h)

  seen-turn : (k : ℕ) (seen after : List ℕ) (j : ℕ) (r : Bool) → Seen f k seen → length seen ≡ most_junctions → j ≡ f k
      → j < most_junctions → r ≡ true → after ≡ cond r (set seen j 1) seen → Seen f (k + 1) after
  unfolding every
  seen-turn k seen after j r s l e h t z i hi =
      ap (λ (x : List ℕ). eqb (get_or x i 0) 0) (z ∙ ap (λ (b : Bool). cond b (set seen j 1) seen) t) ∙ at (ℕ_discrete i j)
      ∙ ap (λ (x : ℕ). every x (λ e. not (eqb (f e) i))) (sym (add-one k))
    where
      at : Dec (i ≡ j) → eqb (get_or (set seen j 1) i 0) 0 ≡ not (eqb (f k) i) && every k (λ e. not (eqb (f e) i))
      at (yes p) = let q : f k ≡ i = sym e ∙ sym p in rw (p, get_or-set_same seen j 1 0 (omega arith), eq-eqb (f k) j (sym e)) refl
      at (no p) = let q : f k ≢ i = λ x. p (sym x ∙ sym e) in rw (get_or-set_other seen j i 1 0 p, ne_eqb (f k) i q) (s i hi)

-- ---- the test of place k: it is j's, the answer is b, and the flags are after it

pub record PlaceTested (r : Rows) (n k : ℕ) (seen : List ℕ) (b : Bool) (after : List ℕ) : Type 0 where
  pub j : ℕ
  pub named : j ≡ get_or r.order k 0
  pub answer : b ≡ ltb j n && ltb j (length seen) && eqb (get_or seen j 0) 0
  pub flags : after ≡ cond b (set seen j 1) seen

-- the first k of n places pass, and the flags tell the junctions that stand at them
pub record PlacesPass (r : Rows) (n k : ℕ) (seen : List ℕ) : Type 0 where
  pub n-is : n ≡ length r.order
  pub n-most : n ≤ most_junctions
  pub in_places : k ≤ n
  pub flags-all : length seen ≡ most_junctions
  pub seen_at : Seen (λ e. get_or r.order e 0) k seen
  pub passed : failing (place_ok r) k ≡ none

module _ {r : Rows} {n k : ℕ} {seen after : List ℕ} {b : Bool} (p : PlacesPass r n k seen) (t : PlaceTested r n k seen b after) where
  place-known : place_ok r k ≡ b
  unfolding place_ok
  place-known = go (dec_lt t.j n)
    where
      j : ℕ
      j = t.j

      go : Dec (j < n)
          → ltb (get_or r.order k 0) (length r.order) && every k (λ e. not (eqb (get_or r.order e 0) (get_or r.order k 0))) ≡ b
      go (yes h) =
          let q : j < length seen = omega (arith, p.flags-all, p.n-most) in
          let unseen = sym (p.seen_at j (omega (arith, p.n-most))) in
          rw (← t.named, ← p.n-is) (ap (◌&&◌ (ltb j n)) unseen ∙ sym (t.answer ∙ rw (lt-ltb j n h, lt-ltb j (length seen) q)))
      go (no h) = rw (← t.named, ← p.n-is, le-ltb j n (omega arith)) (sym (t.answer ∙ rw (le-ltb j n (omega arith))))

  -- a place that passes is below n
  place-low : b ≡ true → t.j < n
  place-low e =
      let x = ltb t.j (length seen) in
      let y = eqb (get_or seen t.j 0) 0 in
      ltb-true t.j n (and_true (ltb t.j n) x (and_true (ltb t.j n && x) y (sym t.answer ∙ e)).0).0

-- ---- the loop over the places

module _ {r : Rows} {n : ℕ} where
  pub places-start : n ≡ length r.order → n ≤ most_junctions → PlacesPass r n 0 (replicate most_junctions 0)
  places-start e h = record {
    n-is = e;
    n-most = h;
    in_places = zero-le;
    flags-all = length-replicate {A = ℕ} most_junctions 0;
    seen_at = seen_start (λ e. get_or r.order e 0);
    passed = first-start (place_ok r);
  }

  pub places_fail : {k : ℕ} {seen after : List ℕ} {b : Bool} → PlacesPass r n k seen → PlaceTested r n k seen b after → k < n → b ≡ false
      → some k ≡ failing (place_ok r) (length r.order)
  places_fail {k} p t h f =
      sym (first_found (place_ok r) k (length r.order) (omega (arith, p.n-is)) p.passed (place-known p t ∙ f))

  pub places-turn : {k : ℕ} {seen after : List ℕ} {b : Bool} → PlacesPass r n k seen → PlaceTested r n k seen b after → k < n
      → length after ≡ length seen → b ≡ true → PlacesPass r n (k + 1) after
  places-turn {k} {seen} {after} {b} p t h l e = record {
    n-is = p.n-is;
    n-most = p.n-most;
    in_places = omega arith;
    flags-all = l ∙ p.flags-all;
    seen_at = seen-turn (λ e. get_or r.order e 0) k seen after t.j b p.seen_at p.flags-all t.named
        (omega (arith, place-low p t e, p.n-most)) e t.flags;
    passed = first-turn (place_ok r) k p.passed (place-known p t ∙ e);
  }

  pub places-end : {k : ℕ} {seen : List ℕ} → PlacesPass r n k seen → n ≤ k → none ≡ failing (place_ok r) (length r.order)
  places-end {k} p m =
      let all : k ≡ length r.order = omega (arith, p.n-is, p.in_places) in
      sym (rw all at p.passed)
