-- Reading, question by question: the first of questions 1 to 6 that refuses is the answer. Assumes nothing.
use mathlib.Core.Path.{◌∙◌, ◌≡◌, ap, ap₂, refl, sym}
use mathlib.Core.Bool.{Bool}
use mathlib.Core.Option.{Option, none, some}
use mathlib.Core.List.{List}
use Prim.Native.Nat.{◌/◌, ◌<◌, ℕ}
use lib.Dec.{leb}
use lib.ListN.{length}
use Rattle.std.specs.Prelude.{Result}
use Rattle.std.specs.Result.{IsErrAnd}
use Rattle.std.proofs.lemmas.Result.{err_from_is_err_and}
use native.Mathlib.Omega.{arith}
use Rattle.model.specs.Types.{Kinds, Read, Refusal, Short, Sizes, Starts}
use Rattle.model.specs.Layout.{access_fits, count_size, order_in, place_size, road_size, roads_in, roads_kind}
use Rattle.model.specs.Layout.{sections, sections_from, table_size}
use Rattle.model.specs.Card.{ask, bodies_refusal, card_refusal, count_ok, kinds_ok, map_on, read_card, reading, rows_of, starts_ok}
use Rattle.model.specs.Accept.{SizesFacts}
use Rattle.model.proofs.Accept.{rows-facts, sizes-facts}
use Rattle.model.specs.Promises.{ReadContract}
use Rattle.network.specs.declared.Refusal as code
use Rattle.network.specs.Refusals.{refusal_in}
use Rattle.card_sections.proofs.Roads.{arcs, junctions}
use Rattle.card_sections.proofs.Verdicts.{passed, refused}
use Rattle.card.specs.Answers.{reading_in}

-- ---- the questions of the table, in order, and what is asked after each

module _ (card : List ℕ) where
  abbrev pub after_fits : Option Refusal
  after_fits = bodies_refusal (roads_in card) (order_in card)

  abbrev pub after_starts : Option Refusal
  after_starts = ask (access_fits card (length (roads_in card) / road_size)) Sizes after_fits

  abbrev pub after_kinds : Option Refusal
  after_kinds = ask (starts_ok (table_size (sections card)) (sections_from card 0 (sections card)) (length card)) Starts after_starts

  abbrev pub after_table : Option Refusal
  after_table = ask (kinds_ok roads_kind (sections_from card 0 (sections card))) Kinds after_kinds

  abbrev pub after_count : Option Refusal
  after_count = ask (leb (table_size (sections card)) (length card)) Short after_table

  abbrev pub after_four : Option Refusal
  after_four = ask (count_ok (sections card)) Kinds after_count

  pub all_asked : card_refusal card ≡ ask (leb count_size (length card)) Short after_four
  unfolding card_refusal
  all_asked = refl

-- what was read, and what is asked of it
pub count-is : (card : List ℕ) {x : Bool} {k : ℕ} → x ≡ count_ok k → k ≡ sections card → x ≡ count_ok (sections card)
count-is card e k = e ∙ ap count_ok k

pub table-is : (card : List ℕ) {t k : ℕ} → t ≡ table_size k → k ≡ sections card
    → leb t (length card) ≡ leb (table_size (sections card)) (length card)
table-is card e k = ap (λ (t : ℕ). leb t (length card)) (e ∙ ap table_size k)

pub third-is : (card : List ℕ) {x : Bool} {roads : List ℕ} → x ≡ access_fits card (length roads / road_size) → roads ≡ roads_in card
    → x ≡ access_fits card (length (roads_in card) / road_size)
third-is card e r = e ∙ ap (λ (l : List ℕ). access_fits card (length l / road_size)) r

-- what the exit of a question returns
pub exit : (card : List ℕ) (res : Result (ℕ × ℕ) code.Refusal) (q : code.Refusal) → IsErrAnd res (λ y. y ≡ q)
    → card_refusal card ≡ some (refusal_in q) → ReadContract card (reading_in res)
exit card res q e h =
    let p = err_from_is_err_and res e in
    rw (p.1, p.2) (ap (reading (map_on card).vertices (map_on card).base.arcs) (sym h))

-- a question x is asked as the first of those that are left: it passes, and the others are left, or it refuses
module _ (card : List ℕ) (b : Bool) (q : Refusal) (rest : Option Refusal) {x : Bool}
    (left : card_refusal card ≡ ask b q rest) (is : x ≡ b) where
  pub step : none ≡ ask x q none → card_refusal card ≡ rest
  step h = left ∙ ap (λ (y : Bool). ask y q rest) (sym is ∙ passed x q h)

  pub stop : {t : Refusal} → some t ≡ ask x q none → card_refusal card ≡ some t
  stop h = left ∙ ap (λ (y : Bool). ask y q rest) (sym is) ∙ sym (refused x q rest h)

-- ---- the bodies pass: n and m are words

module _ (card : List ℕ) (passes : none ≡ after_fits card) where
  sizes : SizesFacts (length (roads_in card)) (length (order_in card))
  sizes =
      let a = length (roads_in card) in
      let b = length (order_in card) in
      sizes-facts a b (rows-facts a b (rows_of card) (sym passes)).sizes

  pub n-fits : {k : ℕ} → k ≡ length (order_in card) → k / place_size < 4294967296
  n-fits ek = omega (arith, ek, sizes.order-high)

  pub m-fits : {l : ℕ} → l ≡ length (roads_in card) → l / road_size < 4294967296
  m-fits el = omega (arith, el, sizes.roads-high)

  pub read_passed : {k l : ℕ} → card_refusal card ≡ after_fits card → k ≡ length (order_in card) → l ≡ length (roads_in card)
      → Read (k / place_size) (l / road_size) ≡ read_card card
  read_passed left ek el =
      let n = ap (◌/ place_size) ek ∙ sym (junctions (roads_in card) (order_in card)) in
      let m = ap (◌/ road_size) el ∙ sym (arcs (roads_in card) (order_in card)) in
      ap₂ Read n m ∙ ap (reading (map_on card).vertices (map_on card).base.arcs) (passes ∙ sym left)
