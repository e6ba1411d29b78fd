-- The ways through writing. Assumes nothing.
use mathlib.Core.Path.{◌∙◌, ◌≡◌, sym}
use mathlib.Core.Option.{none, some}
use mathlib.Core.List.{List}
use Prim.Native.Nat.{◌*◌, ◌/◌, ℕ}
use borrow.Author.Tests.{eqb-true}
use lib.Dec.{eqb}
use lib.ListN.{length}
use native.Mathlib.Omega.{arith}
use Rattle.std.specs.Prelude.{Result}
use Rattle.std.specs.Result.{IsErrAnd}
use Rattle.std.proofs.lemmas.Result.{err_from_is_err_and}
use Rattle.model.specs.Types.{Accepted, AreaLengths, Refusal, Refused}
use Rattle.model.specs.Layout.{card_size, road_size, row_size, size_with}
use Rattle.model.specs.Card.{ask, card_of, map_refusal, write_refusal}
use Rattle.model.proofs.Accept.{rows-facts, sizes-facts}
use Rattle.model.proofs.CardBack.{card-length, write_contract}
use Rattle.model.specs.Promises.{WriteContract}
use Rattle.network.specs.declared.Refusal as code
use Rattle.network.specs.Refusals.{refusal_in}
use Rattle.card_sections.proofs.Verdicts.{passed}
use Rattle.card_writer.specs.Lent.{Short, rows_of}
use Rattle.card.specs.Answers.{writing_in}

-- rows that pass questions 4 to 6 are short, and hold whole roads: the card of their map has the size that its n and m call for
pub record Passes (roads order : List ℕ) : Type 0 where
  pub none-refused : none ≡ map_refusal (rows_of roads order)
  pub short : Short roads order
  pub size : card_size (length order) (length roads / 3) ≡ size_with (row_size roads) (row_size order)

pub passes : (roads order : List ℕ) → none ≡ map_refusal (rows_of roads order) → Passes roads order
passes roads order e =
    let f = rows-facts (row_size roads) (row_size order) (rows_of roads order) (sym e) in
    let z = sizes-facts (row_size roads) (row_size order) f.sizes in
    let k : row_size roads ≡ road_size * (row_size roads / road_size) = omega (arith, z.roads-whole) in
    let t : length roads ≡ 3 * (row_size roads / road_size) = omega (arith, k) in
    let u : length roads / 3 ≡ row_size roads / road_size = omega (arith, t) in
    record { none-refused = e; short = (omega (arith, z.roads-high), omega (arith, z.order-high)); size = omega (arith, t, u) }

pub write_refused : (roads order area : List ℕ) {q : Refusal} → some q ≡ map_refusal (rows_of roads order)
    → WriteContract (rows_of roads order) area area (Refused q)
unfolding write_refusal
write_refused roads order area {q} e = write_contract (rows_of roads order) area area (Refused q) (rw (← e))

-- what the exit of a question returns
pub exit : (roads order area : List ℕ) (res : Result Unit code.Refusal) (q : code.Refusal) → IsErrAnd res (λ y. y ≡ q)
    → WriteContract (rows_of roads order) area area (Refused (refusal_in q))
    → WriteContract (rows_of roads order) area area (writing_in res)
exit roads order area res q e h = let p = err_from_is_err_and res e in rw (p.1, p.2) h

module _ {roads order : List ℕ} (p : Passes roads order) {size : ℕ} (z : size ≡ card_size (length order) (length roads / 3)) where
  long : length (card_of (rows_of roads order)) ≡ size
  long = card-length (rows_of roads order) ∙ sym (z ∙ p.size)

  pub write_7 : (area : List ℕ) {t : Refusal} → some t ≡ ask (eqb (length area) size) AreaLengths none
      → WriteContract (rows_of roads order) area area (Refused t)
  unfolding write_refusal
  write_7 area {t} h = write_contract (rows_of roads order) area area (Refused t) (rw (← p.none-refused, long, ← h))

  -- the length that writing the card asks for
  pub area-is : (area : List ℕ) → none ≡ ask (eqb (length area) size) AreaLengths none
      → length area ≡ size_with (row_size roads) (row_size order)
  area-is area h = eqb-true (length area) size (passed (eqb (length area) size) AreaLengths h) ∙ z ∙ p.size

  pub write_made : (area : List ℕ) {after : List ℕ} → none ≡ ask (eqb (length area) size) AreaLengths none
      → after ≡ card_of (rows_of roads order) → WriteContract (rows_of roads order) area after Accepted
  unfolding write_refusal
  write_made area {after} h y =
      write_contract (rows_of roads order) area after Accepted (rw (← p.none-refused, long, ← h, y))
