-- The ways through the entries and bodies of a card. Assumes nothing.
use mathlib.Core.Path.{◌∙◌, ◌≡◌, ap, refl, sym}
use mathlib.Core.Logic.{inl, inr}
use mathlib.Core.Bool.{Bool, cond, false, true}
use mathlib.Core.List.{List, [], ◌∷◌}
use Rattle.std.specs.Int.{from_le_bytes, w32}
use Prim.Native.Nat.{◌+◌, ◌-◌, ◌<◌, ◌≤◌, ℕ}
use borrow.Author.Tests.{le-leb, leb-false, leb-true, lt-leb, lt-ltb, ltb-true}
use lib.Dec.{leb, ltb}
use lib.ListN.{drop, get_or, length, take}
use native.Mathlib.Nat.{add-sub_cancel_left}
use native.Mathlib.Omega.{arith}
use Rattle.graph.specs.Total.{Tested}
use Rattle.graph.proofs.Total.{and_true, decide, true_false}
use Rattle.model.specs.Bytes.{word_at}
use Rattle.model.specs.Layout.{Section, body, body_at, entry_at, entry_of, has_entry}
use Rattle.model.specs.Layout.{part_of, section, sections, table_size}
use Rattle.model.proofs.Laws.{true_and}
use Rattle.card_layout.specs.Sections.{entry_after}

-- ---- the table

-- the first word, by its bytes
pub count_read : (card : List ℕ) {a b c d : ℕ} → a ≡ get_or card 0 0 → b ≡ get_or card 1 0 → c ≡ get_or card 2 0 → d ≡ get_or card 3 0
    → from_le_bytes w32 (a ∷ b ∷ c ∷ d ∷ []) ≡ sections card
unfolding word_at
count_read card ea eb ec ed = rw (ea, eb, ec, ed) (omega arith)

-- ---- has the table an entry i?

-- an entry that there is, and one that there is not
pub has_both : (card : List ℕ) (i : ℕ) → has_entry card i ≡ true → (i < sections card) × (entry_at (i + 1) ≤ length card)
has_both card i h =
    let p = and_true (ltb i (sections card)) (leb (entry_at (i + 1)) (length card)) h in
    (ltb-true i (sections card) p.0, leb-true (entry_at (i + 1)) (length card) p.1)

pub has_not : (card : List ℕ) (i : ℕ) → has_entry card i ≡ false → has_entry card (i + 1) ≡ false
has_not card i h = go (decide (has_entry card (i + 1)))
  where
    go : Tested (has_entry card (i + 1)) → has_entry card (i + 1) ≡ false
    go (inl t) =
        let p = has_both card (i + 1) t in
        let q = true_and _ _ (lt-ltb i (sections card) (omega (arith, p.0)))
        (le-leb (entry_at (i + 1)) (length card) (omega (arith, p.1))) in
        absurd (true_false q h)
    go (inr f) = f

-- what the answer b says of entry i
module _ (card : List ℕ) (i : ℕ) {b : Bool} (e : b ≡ has_entry card i) where
  pub fits : b ≡ true → entry_at (i + 1) ≤ length card
  fits t = (has_both card i (sym e ∙ t)).1

  pub after-some : b ≡ true → i + 1 ≡ entry_after card i
  unfolding entry_after
  after-some t = sym (ap (λ (x : Bool). cond x (i + 1) i) (sym e ∙ t))

  pub after_none : b ≡ false → i ≡ entry_after card i
  unfolding entry_after
  after_none f = sym (ap (λ (x : Bool). cond x (i + 1) i) (sym e ∙ f))

  pub no-entry : b ≡ false → record { kind = 0; start = 0; size = 0 } ≡ entry_of card i
  unfolding entry_of
  no-entry f = sym (ap (λ (x : Bool). cond x (section card i) (record { kind = 0; start = 0; size = 0 })) (sym e ∙ f))

  entry-is : b ≡ true → section card i ≡ entry_of card i
  unfolding entry_of
  entry-is t = sym (ap (λ (x : Bool). cond x (section card i) (record { kind = 0; start = 0; size = 0 })) (sym e ∙ t))

-- ---- bodies

module _ (card : List ℕ) (s : Section) where
  pub no_part : length card < s.start + s.size → [] ≡ part_of card s
  unfolding part_of
  no_part h = rw (lt-leb (s.start + s.size) (length card) h)

  pub part-is : s.start + s.size ≤ length card → part_of card s ≡ body card s
  unfolding part_of
  part-is h = rw (le-leb (s.start + s.size) (length card) h)

  pub part : s.start + s.size ≤ length card → take (s.start + s.size - s.start) (drop s.start card) ≡ part_of card s
  part h = rw add-sub_cancel_left (sym (part-is h))

-- what a body that has a byte says of its entry: it stands inside the card, and so does the part that it names
pub record Named (card : List ℕ) (i : ℕ) : Type 0 where
  pub inside : entry_at (i + 1) ≤ length card
  pub ends : (section card i).start + (section card i).size ≤ length card
  pub is : part_of card (section card i) ≡ body_at card i

pub is-named : (card : List ℕ) (i : ℕ) → 0 < length (body_at card i) → Named card i
unfolding body_at
is-named card i long = by-entry (decide (has_entry card i))
  where
    empty : Section
    empty = record { kind = 0; start = 0; size = 0 }

    s : Section
    s = section card i

    by_part : has_entry card i ≡ true → Tested (leb (s.start + s.size) (length card)) → Named card i
    by_part t (inl p) = record {
      inside = (has_both card i t).1;
      ends = leb-true (s.start + s.size) (length card) p;
      is = ap (part_of card) (entry-is card i refl t);
    }
    by_part t (inr p) =
        let past = leb-false (s.start + s.size) (length card) p in
        let none : [] ≡ body_at card i = no_part card s past ∙ ap (part_of card) (entry-is card i refl t) in
        absurd (omega (arith, ap length none, long))

    by-entry : Tested (has_entry card i) → Named card i
    by-entry (inl t) = by_part t (decide (leb (s.start + s.size) (length card)))
    by-entry (inr f) =
        let none : body_at card i ≡ [] = ap (part_of card) (sym (no-entry card i refl f)) ∙ part-is card empty (omega arith) in
        absurd (omega (arith, ap length none, long))

-- the words that were read give the part
pub named-part : (card : List ℕ) (i : ℕ) {start size : ℕ} → start ≡ word_at card (entry_at i + 4) → size ≡ word_at card (entry_at i + 8)
    → Named card i → take (start + size - start) (drop start card) ≡ body_at card i
named-part card i es el k = rw (es, el) (part card (section card i) k.ends ∙ k.is)

-- an entry of a table that ends within the card is as it stands there
pub read_entry : (card : List ℕ) (i : ℕ) → i < sections card → table_size (sections card) ≤ length card → section card i ≡ entry_of card i
read_entry card i l h =
    entry-is card i refl (true_and _ _ (lt-ltb i (sections card) l) (le-leb (entry_at (i + 1)) (length card) (omega arith)))

-- ---- a walk

-- the body at the place after entry i is that of entry i + 1: both are nothing where the table has no entry i
pub next-body : (card : List ℕ) (i : ℕ) → body_at card (entry_after card i) ≡ body_at card (i + 1)
unfolding body_at
next-body card i = go (decide (has_entry card i))
  where
    go : Tested (has_entry card i) → body_at card (entry_after card i) ≡ body_at card (i + 1)
    go (inl t) = ap (body_at card) (sym (after-some card i refl t))
    go (inr f) =
        ap (body_at card) (sym (after_none card i refl f))
        ∙ ap (part_of card) (sym (no-entry card i refl f) ∙ no-entry card (i + 1) refl (has_not card i f))
