-- The questions of the entries of a table, one entry for each turn. Assumes nothing.
use mathlib.Core.Path.{◌∙◌, ◌≡◌, ap, ap₂, sym}
use mathlib.Core.Logic.{◌≢◌}
use mathlib.Core.Bool.{Bool, ◌&&◌, false, true}
use mathlib.Core.List.{List, [], ◌∷◌}
use Prim.Native.Nat.{◌+◌, ◌-◌, ◌<◌, ◌≤◌, suc, ℕ}
use borrow.Author.Tests.{eq-eqb, le-ltb, lt-ltb, ne_eqb}
use lib.Dec.{eqb, ltb}
use lib.ListN.{length}
use native.Mathlib.Omega.{arith}
use Rattle.model.specs.Layout.{Section, entry_of, roads_kind, section, sections, sections_from, table_size}
use Rattle.model.specs.Card.{kinds_ok, starts_ok}
use Rattle.card_layout.proofs.Entries.{read_entry}

-- ---- the entries from entry i on, where the first `count` are all

next-entry : (card : List ℕ) (i count : ℕ) → i < count
    → sections_from card i (count - i) ≡ section card i ∷ sections_from card (i + 1) (count - (i + 1))
next-entry card i count l =
    let e : count - i ≡ suc (count - (i + 1)) = omega arith in
    let f : suc i ≡ i + 1 = omega arith in
    ap (sections_from card i) e ∙ ap (λ (k : ℕ). section card i ∷ sections_from card k (count - (i + 1))) f

no_more : (card : List ℕ) (i count : ℕ) → count ≤ i → sections_from card i (count - i) ≡ []
no_more card i count h = let e : count - i ≡ 0 = omega arith in ap (sections_from card i) e

-- the table of a card that does not end before it does
pub record Whole (card : List ℕ) (count : ℕ) : Type 0 where
  pub counted : count ≡ sections card
  pub long : table_size (sections card) ≤ length card

-- what was read of entry i
known : {card : List ℕ} {count i : ℕ} {s : Section} → Whole card count → i < count → s ≡ entry_of card i → s ≡ section card i
known {card} {count} {i} w l e = e ∙ sym (read_entry card i (omega (arith, w.counted)) w.long)

-- ---- question 2

-- the kinds before entry i are right, so the rest decides
pub record KindsPass (card : List ℕ) (count i : ℕ) : Type 0 where
  pub whole : Whole card count
  pub below : i ≤ count
  pub left : kinds_ok roads_kind (sections_from card 0 count) ≡ kinds_ok (roads_kind + i) (sections_from card i (count - i))

pub kinds-start : {card : List ℕ} {count : ℕ} → count ≡ sections card → table_size (sections card) ≤ length card → KindsPass card count 0
kinds-start {card} {count} e h =
    let z : count ≡ count - 0 = omega arith in
    record {
      whole = record { counted = e; long = h };
      below = omega arith;
      left = ap (λ (k : ℕ). kinds_ok roads_kind (sections_from card 0 k)) z;
    }

module _ {card : List ℕ} {count i : ℕ} (p : KindsPass card count i) where
  all_kinds : kinds_ok roads_kind (sections_from card 0 (sections card)) ≡ kinds_ok (roads_kind + i) (sections_from card i (count - i))
  all_kinds = ap (λ (k : ℕ). kinds_ok roads_kind (sections_from card 0 k)) (sym p.whole.counted) ∙ p.left

  abbrev kinds_after : Bool
  kinds_after = kinds_ok (roads_kind + (i + 1)) (sections_from card (i + 1) (count - (i + 1)))

  -- the kind that was read, and the kinds after it
  kind-next : {s : Section} → i < count → s ≡ entry_of card i
      → kinds_ok (roads_kind + i) (sections_from card i (count - i))
      ≡ eqb s.kind (roads_kind + i) && kinds_after
  unfolding kinds_ok
  kind-next {s} l e =
      let k : (section card i).kind ≡ s.kind = ap (λ (x : Section). x.kind) (sym (known p.whole l e)) in
      let n : suc (roads_kind + i) ≡ roads_kind + (i + 1) = omega arith in
      ap (kinds_ok (roads_kind + i)) (next-entry card i count l)
      ∙ ap₂ (λ (a : ℕ) (b : ℕ). eqb a (roads_kind + i) && kinds_ok b (sections_from card (i + 1) (count - (i + 1)))) k n

  pub kinds_fail : {s : Section} → i < count → s ≡ entry_of card i → s.kind ≢ roads_kind + i
      → false ≡ kinds_ok roads_kind (sections_from card 0 (sections card))
  kinds_fail {s} l e h = sym (all_kinds ∙ kind-next l e ∙ ap (◌&& kinds_after) (ne_eqb s.kind (roads_kind + i) h))

  pub kinds-turn : {s : Section} → i < count → s ≡ entry_of card i → s.kind ≡ roads_kind + i → KindsPass card count (i + 1)
  kinds-turn {s} l e h = record {
    whole = p.whole;
    below = omega arith;
    left = p.left ∙ kind-next l e ∙ ap (◌&& kinds_after) (eq-eqb s.kind (roads_kind + i) h);
  }

  pub kinds-end : count ≤ i → true ≡ kinds_ok roads_kind (sections_from card 0 (sections card))
  unfolding kinds_ok
  kinds-end h = sym (all_kinds ∙ ap (kinds_ok (roads_kind + i)) (no_more card i count h))

-- ---- question 3

-- the bodies before entry i follow one another up to the byte `at`, so the rest decides
pub record StartsPass (card : List ℕ) (count at i : ℕ) : Type 0 where
  pub whole : Whole card count
  pub below : i ≤ count
  pub low : at ≤ table_size 4294967296
  pub left : starts_ok (table_size count) (sections_from card 0 count) (length card)
      ≡ starts_ok at (sections_from card i (count - i)) (length card)

pub starts-start : {card : List ℕ} {count at : ℕ} → count ≡ sections card → count < 4294967296 → table_size (sections card) ≤ length card
    → at ≡ table_size count → StartsPass card count at 0
starts-start {card} {count} e small h a =
    let z : count ≡ count - 0 = omega arith in
    record {
      whole = record { counted = e; long = h };
      below = omega arith;
      low = omega arith;
      left = ap₂ (λ (x : ℕ) (k : ℕ). starts_ok x (sections_from card 0 k) (length card)) (sym a) z;
    }

module _ {card : List ℕ} {count at i : ℕ} (p : StartsPass card count at i) where
  abbrev all_starts : Bool
  all_starts = starts_ok (table_size (sections card)) (sections_from card 0 (sections card)) (length card)

  abbrev starts_after : (size : ℕ) → Bool
  starts_after size = starts_ok (at + size) (sections_from card (i + 1) (count - (i + 1))) (length card)

  all-starts : all_starts ≡ starts_ok at (sections_from card i (count - i)) (length card)
  all-starts = ap (λ (k : ℕ). starts_ok (table_size k) (sections_from card 0 k) (length card)) (sym p.whole.counted) ∙ p.left

  -- the start and the length that were read, and the bodies after that one
  start-next : {s : Section} → i < count → s ≡ entry_of card i
      → starts_ok at (sections_from card i (count - i)) (length card)
      ≡ eqb s.start at && ltb (at + s.size) 4294967296 && starts_after s.size
  unfolding starts_ok
  start-next {s} l e =
      let k = sym (known p.whole l e) in
      ap (λ (x : List Section). starts_ok at x (length card)) (next-entry card i count l)
      ∙ ap₂ (λ (a : ℕ) (b : ℕ). eqb a at && ltb (at + b) 4294967296 && starts_after b) (ap (λ (x : Section). x.start) k)
      (ap (λ (x : Section). x.size) k)

  pub start_fails : {s : Section} → i < count → s ≡ entry_of card i → s.start ≢ at → false ≡ all_starts
  start_fails {s} l e h =
      sym (all-starts ∙ start-next l e
      ∙ ap (λ (b : Bool). b && ltb (at + s.size) 4294967296 && starts_after s.size) (ne_eqb s.start at h))

  pub wraps : {s : Section} → i < count → s ≡ entry_of card i → s.start ≡ at → 4294967296 ≤ at + s.size → false ≡ all_starts
  wraps {s} l e h k =
      sym (all-starts ∙ start-next l e
      ∙ ap₂ (λ (b : Bool) (c : Bool). b && c && starts_after s.size) (eq-eqb s.start at h) (le-ltb (at + s.size) 4294967296 k))

  pub starts-turn : {s : Section} → i < count → s ≡ entry_of card i → s.start ≡ at → at + s.size < 4294967296
      → StartsPass card count (at + s.size) (i + 1)
  starts-turn {s} l e h k = record {
    whole = p.whole;
    below = omega arith;
    low = omega arith;
    left = p.left ∙ start-next l e
        ∙ ap₂ (λ (b : Bool) (c : Bool). b && c && starts_after s.size) (eq-eqb s.start at h) (lt-ltb (at + s.size) 4294967296 k);
  }

  pub starts-end : count ≤ i → eqb at (length card) ≡ all_starts
  unfolding starts_ok
  starts-end h = sym (all-starts ∙ ap (λ (x : List Section). starts_ok at x (length card)) (no_more card i count h))
