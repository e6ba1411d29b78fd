-- The three parts of a card put one after the other. Assumes nothing.
use mathlib.Core.Path.{◌∙◌, ◌≡◌, ap, ap₂, refl, sym}
use mathlib.Core.List.{List, [], ◌++◌, append_assoc, append-nil}
use Prim.Native.Nat.{◌+◌, ◌-◌, ℕ}
use borrow.Rule.Slice.PartMut.{put_mid}
use lib.ListN.{drop, drop_of_length-le, length, length-append, length-drop}
use lib.Seq.{drop_at, take_at}
use native.Mathlib.Omega.{arith}
use Rattle.model.specs.Bytes.{bytes_of}
use Rattle.model.specs.Layout.{row_size, size_with, table, table_size}
use Rattle.model.specs.Card.{card_of}
use Rattle.model.proofs.CardBack.{bytes-length}
use Rattle.network.specs.Bytes.{bytes-append}
use Rattle.card_writer.specs.Lent.{rows_of}

module _ (roads order : List ℕ) where
  abbrev pub table_of : List ℕ
  table_of = table (row_size roads) (row_size order)

  card-bytes : card_of (rows_of roads order) ≡ bytes_of table_of ++ (bytes_of roads ++ bytes_of order)
  card-bytes = bytes-append table_of (roads ++ order) ∙ ap (◌++◌ (bytes_of table_of)) (bytes-append roads order)

-- a part put after what stands before it
put-after : (p q y : List ℕ) (a k : ℕ) → length p ≡ a → put_mid a k (p ++ q) y ≡ p ++ (y ++ drop k q)
put-after p q y a k e = ap₂ (λ (x : List ℕ) (z : List ℕ). x ++ (y ++ drop k z)) (take_at p q a e) (drop_at p q a e)

-- the bodies, of a and b bytes, put behind a table p of t bytes: three parts that fill the area
module _ (area p q r : List ℕ) (t a b : ℕ) (ep : length p ≡ t) (eq : length q ≡ a) (el : length area ≡ t + a + b) where
  abbrev rest : List ℕ
  rest = drop t area

  two-parts : put_mid t (t + a - t) (p ++ drop t area) q ≡ (p ++ q) ++ drop a rest
  two-parts =
      let k : t + a - t ≡ a = omega arith in
      put-after p rest q t (t + a - t) ep ∙ ap (λ (k : ℕ). p ++ (q ++ drop k rest)) k ∙ sym (append_assoc p q (drop a rest))

  pub three_parts : put_mid (t + a) (t + a + b - (t + a)) (put_mid t (t + a - t) (p ++ drop t area) q) r ≡ p ++ (q ++ r)
  three_parts =
      let k : t + a + b - (t + a) ≡ b = omega arith in
      let lpq : length (p ++ q) ≡ t + a = length-append p q ∙ ap₂ ◌+◌ ep eq in
      let l1 = length-drop t area in
      let l2 = length-drop a rest in
      let none_left : drop b (drop a rest) ≡ [] = drop_of_length-le (drop a rest) {i = b} (omega (arith, l1, l2)) in
      ap₂ (λ (k : ℕ) (x : List ℕ). put_mid (t + a) k x r) k two-parts
      ∙ put-after (p ++ q) (drop a rest) r (t + a) b lpq
      ∙ ap (λ (x : List ℕ). (p ++ q) ++ (r ++ x)) none_left
      ∙ ap (◌++◌ (p ++ q)) (append-nil r) ∙ append_assoc p q r

-- what was put, with the table's bytes and the two rows' bytes q and r, is the card
pub card-put : (roads order area : List ℕ) {z q r : List ℕ} {a b : ℕ} → a ≡ row_size roads → b ≡ row_size order
    → length area ≡ size_with a b → z ≡ bytes_of (table a b) ++ drop (table_size 2) area → q ≡ bytes_of roads → r ≡ bytes_of order
    → put_mid (table_size 2 + a) (table_size 2 + a + b - (table_size 2 + a))
    (put_mid (table_size 2) (table_size 2 + a - table_size 2) z q) r
    ≡ card_of (rows_of roads order)
card-put roads order area {z} {q} {r} {a} {b} ea eb el ez eq er =
    let s = table_size 2 + a in
    ap (λ (x : List ℕ). put_mid s (s + b - s) (put_mid (table_size 2) (s - table_size 2) x q) r) ez
    ∙ three_parts area (bytes_of (table a b)) q r (table_size 2) a b refl (ap length eq ∙ bytes-length roads ∙ sym ea) el
    ∙ ap₂ ◌++◌ (ap₂ (λ (x : ℕ) (y : ℕ). bytes_of (table x y)) ea eb) (ap₂ ◌++◌ eq er) ∙ sym (card-bytes roads order)
