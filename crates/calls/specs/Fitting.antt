-- What a call may rely on once question 9 has passed. Assumes nothing.
use Rattle.std.proofs.Common.{◌∙◌, ap, leb-true, arith}
use Rattle.std.specs.Prelude.{◌≡◌, refl, ◌&&◌, None, Option, true, List, ◌*◌, ◌≤◌, ℕ, eqb, leb, length}
use Rattle.graph.proofs.Total.{and_true}
use Rattle.model.specs.Types.{Header}
use Rattle.model.specs.Limits.{most_junctions, most_pairs, most_roads}
use Rattle.model.specs.Layout.{access_fits, named, names, order_in, place_size, road_size, roads_in}
use Rattle.model.proofs.Accept.{names-length}
use Rattle.model.specs.Areas.{Areas, Each, lengths, lengths_fit}
use Rattle.graph.specs.Total.{Total}
use Rattle.model.specs.Set.{set_refusal}
use Rattle.model.specs.Calls.{known_of}
use Rattle.network.specs.declared.Junction.{Junction}
use Rattle.network.specs.declared.Sizes.{Sizes}
use Rattle.calls.specs.Shape.{header_in, held}
use Rattle.model.specs.State.{question9}
use Rattle.model.specs.Good.{LengthFacts}
use Rattle.model.proofs.Good.{lengths-facts}
use Rattle.search_junctions.specs.State.{Sized}
use Rattle.unit_questions.specs.Lending.{fits_by}

-- the header is in range, the card's bodies and the areas have the lengths that it calls for
pub record Fits (h : Header) (card : List ℕ) (l : Each ℕ) : Type 0 where
  pub n-high : h.n ≤ most_junctions
  pub m-high : h.m ≤ most_roads
  pub roads : length (roads_in card) ≡ road_size * h.m
  pub order : length (order_in card) ≡ place_size * h.n
  pub lengths : LengthFacts h.n h.m h.pairs l

pub fits-facts : {h : Header} {card : List ℕ} {l : Each ℕ} → fits_by h card l ≡ true → Fits h card l
unfolding question9 named
fits-facts {h} {card} {l} e =
    let areas = lengths_fit h.n h.m h.pairs l in
    let small = leb h.n most_junctions in
    let few = leb h.m most_roads in
    let sized = eqb (length card) h.card in
    let roads-named = names card 0 (road_size * h.m) in
    let order-named = names card 1 (place_size * h.n) in
    let (use-is, lengths-fit) = and_true (small && few && named card h.n h.m) (sized && areas) e in
    let (range-is, named-is) = and_true (small && few) (named card h.n h.m) use-is in
    let (small_is, few-is) = and_true small few range-is in
    let (both-are, _) = and_true (roads-named && order-named) (access_fits card h.m) named-is in
    let (roads_are, order_is) = and_true roads-named order-named both-are in
    let (_, areas-are) = and_true sized areas lengths-fit in
    record {
      n-high = leb-true h.n most_junctions small_is;
      m-high = leb-true h.m most_roads few-is;
      roads = names-length card 0 (road_size * h.m) roads_are;
      order = names-length card 1 (place_size * h.n) order_is;
      lengths = lengths-facts h.n h.m h.pairs l areas-are;
    }

module _ {h : Header} {card : List ℕ} {l : Each ℕ} (k : Fits h card l) where
  pub pairs-few : h.pairs ≤ most_pairs
  pairs-few = omega (arith, k.lengths.room, k.lengths.pairs-high)

  pub order-sized : {order : List ℕ} → order ≡ order_in card → length order ≡ 4 * h.n
  order-sized {order} e = ap length e ∙ k.order

-- what a search needs; t is the length of what stands in elapsed's place, and there are as many times `met` as live times
pub sized : (a : Areas) {h : Header} {card : List ℕ} → Fits h card (lengths a)
    → {roads order : List ℕ} → roads ≡ roads_in card → order ≡ order_in card → {met : ℕ} → met ≡ length a.live → {t : ℕ} → t ≡ h.n
    → Sized h.n h.m h.pairs (length roads) (length order) (length a.built.ranks) (length a.built.pairs)
    (length a.built.times) met (length a.aimed.down) (length a.aimed.estimates) t
sized a {h} {card} k er eo met-are elapsed-is = record {
  n-high = k.n-high;
  m-high = k.m-high;
  count-high = pairs-few k;
  roads_are = ap length er ∙ k.roads;
  order_is = order-sized k eo;
  ranks_are = k.lengths.ranks;
  pairs_are = k.lengths.room;
  times_are = rw k.lengths.times k.lengths.room;
  live-is = met-are ∙ k.lengths.live;
  down_is = k.lengths.down;
  estimates_are = k.lengths.estimates;
  elapsed-is = elapsed-is;
}

-- 9 to 11 ask nothing of the target: what is said of a header without one is said of each
pub fits-any : (s : Sizes) (t : Option Junction) (card : List ℕ) (l : Each ℕ)
    → fits_by (header_in (held s t)) card l ≡ fits_by (header_in (held s None)) card l
fits-any s t card l = refl

pub set_refusal-any : (s : Sizes) (t : Option Junction) (base : ℕ → Total) (road time : ℕ)
    → set_refusal (known_of base (header_in (held s t))) road time ≡ set_refusal (known_of base (header_in (held s None))) road time
unfolding set_refusal
set_refusal-any s t base road time = refl
