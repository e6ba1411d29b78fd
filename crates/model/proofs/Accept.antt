-- What questions 1 to 6 give: the map of an accepted card is valid, and its sizes are those of document 01. Assumes nothing.
use Rattle.std.proofs.Common.{◌∙◌, ap, sym, inl, inr, length-drop, get_or-drop, get_or-take, length-take-le, add_assoc, arith}
use Rattle.std.specs.Prelude.{◌≡◌, refl, ◌⊎◌, Bool, ◌&&◌, false, true, List, [], ◌∷◌, ◌%◌, ◌*◌, ◌+◌, ◌/◌, ◌<◌, ◌≤◌, suc, zero, ℕ, eqb, leb}
use Rattle.std.specs.Prelude.{drop, get_or, length, take}
use Rattle.std.proofs.Math.Bool.{not}
use Rattle.std.proofs.Math.Option.{none}
use borrow.Author.Tests.{eq-eqb, eqb-false, eqb-true, le-leb, leb-true, lt-ltb, ltb-true, not-false, not-true}
use Rattle.std.proofs.Math.Dec.{ltb}
use Rattle.std.proofs.Math.Decide.{ℕ_discrete, dec_lt}
use Rattle.graph.specs.Total.{Tested}
use Rattle.graph.proofs.Total.{and_true, decide, some-some}
use Rattle.graph.specs.Least.{every, first_below}
use Rattle.graph.proofs.Least.{every_true, first_below-least}
use Rattle.graph.specs.Network.{Arc}
use Rattle.graph.specs.Bound.{CostsAtMost}
use Rattle.graph.specs.Exact.{Positive}
use Rattle.graph.specs.Ranks.{Orders}
use Rattle.graph.specs.Map.{Valid}
use Rattle.model.specs.Types.{Kinds, Place, Road, Short, Sizes, Starts}
use Rattle.model.specs.Bytes.{word_at, words_at}
use Rattle.model.specs.Limits.{fewest_sections, most_junctions, most_roads, most_sections, most_time}
use Rattle.model.specs.Layout.{Section, access_fits, access_in, body, body_at, count_size, entry_at, entry_of, named, names}
use Rattle.model.specs.Layout.{order_in, order_kind, part_of}
use Rattle.model.specs.Layout.{place_size, road_size, roads_in, roads_kind, section, sections, sections_from, size_with, table_size}
use Rattle.model.specs.Layout.{words_in}
use Rattle.model.specs.Card.{Rows, card_refusal, count_ok, failing_place, failing_road, kinds_ok, map_of, map_on, place_ok}
use Rattle.model.specs.Card.{road_fits, road_ok, rows_of, rows_refusal, sizes_ok, starts_ok}
use Rattle.model.proofs.Laws.{ask-none, ask_each-none, listed-length, true_and}
use Rattle.model.proofs.Ends.{listed_same}
use Rattle.model.specs.Accept.{RoadFacts, RowsFacts, SizesFacts, Passed, CardFacts}

-- a question of each number below n, of which none fails
each-passes : (n : ℕ) (p : ℕ → Bool) → first_below n (λ i. not (p i)) ≡ none → (i : ℕ) → i < n → p i ≡ true
each-passes n p h i l = go (decide (not (p i)))
  where
    go : Tested (not (p i)) → p i ≡ true
    go (inl q) = let b = (first_below-least n (λ i. not (p i))).bound i (l, q) in absurd (rw h at b)
    go (inr q) = not-false (p i) q

road-facts : (r : Rows) (i : ℕ) → road_ok r i ≡ true → RoadFacts r i
unfolding road_fits
road-facts r i h =
    let t = get_or r.roads (3 * i) 0 in
    let u = get_or r.roads (3 * i + 1) 0 in
    let b = get_or r.roads (3 * i + 2) 0 in
    let n = length r.order in
    let p = and_true (ltb t n && ltb u n && not (eqb t u) && leb 1 b) (leb b most_time) h in
    let q = and_true (ltb t n && ltb u n && not (eqb t u)) (leb 1 b) p.0 in
    let s = and_true (ltb t n && ltb u n) (not (eqb t u)) q.0 in
    let v = and_true (ltb t n) (ltb u n) s.0 in
    record { tail = ltb-true t n v.0; head = ltb-true u n v.1; low = leb-true 1 b q.1; high = leb-true b most_time p.1 }

pub rows-facts : (a b : ℕ) (r : Rows) → rows_refusal a b r ≡ none → RowsFacts a b r
unfolding rows_refusal
rows-facts a b r h =
    let p = ask-none (sizes_ok a b) Sizes _ h in
    let q = ask_each-none (failing_road r) Road _ p.1 in
    let s = ask_each-none (failing_place r) Place none q.1 in
    record {
      sizes = p.0;
      roads = λ i l. road-facts r i (each-passes (length r.roads / 3) (road_ok r) q.0 i l);
      places = λ k l. each-passes (length r.order) (place_ok r) s.0 k l;
    }

module _ {a b : ℕ} {r : Rows} (f : RowsFacts a b r) where
  pub place-parts : (k : ℕ) → k < length r.order
      → (get_or r.order k 0 < length r.order) × ((e : ℕ) → e < k → get_or r.order e 0 ≡ get_or r.order k 0 → ⊥)
  unfolding place_ok
  place-parts k l =
      let t = ltb (get_or r.order k 0) (length r.order) in
      let p = and_true t (every k (λ e. not (eqb (get_or r.order e 0) (get_or r.order k 0)))) (f.places k l) in (
        ltb-true (get_or r.order k 0) (length r.order) p.0,
        λ e el q. eqb-false (get_or r.order e 0) (get_or r.order k 0)
            (not-true (eqb (get_or r.order e 0) (get_or r.order k 0))
            (every_true k (λ e. not (eqb (get_or r.order e 0) (get_or r.order k 0))) p.1 e el)) q,
      )

  orders : Orders (length r.order) (λ k. get_or r.order k 0)
  orders = record { below = λ k l. (place-parts k l).0; new = once }
    where
      once : (i j : ℕ) → i < length r.order → j < length r.order → get_or r.order i 0 ≡ get_or r.order j 0 → i ≡ j
      once i j li lj e = go (ℕ_discrete i j) (dec_lt i j)
        where
          go : Dec (i ≡ j) → Dec (i < j) → i ≡ j
          go (yes s) d = s
          go (no s) (yes l) = absurd ((place-parts j lj).1 i l e)
          go (no s) (no l) = absurd ((place-parts i li).1 j (omega arith) (sym e))

  pub rows-valid : Valid (map_of r)
  rows-valid = record {
    orders = orders;
    inside = record { tails = λ i l. (f.roads i l).tail; heads = λ i l. (f.roads i l).head };
  }

  pub rows-most : CostsAtMost (Arc (map_of r).base) most_time
  rows-most x y c e = rw (some-some refl e.at.costs) at (f.roads e.index e.below).high

  -- roads take time
  pub rows-positive : Positive (Arc (map_of r).base)
  rows-positive x y c e = rw (some-some refl e.at.costs) at (f.roads e.index e.below).low

pub sizes-facts : (a b : ℕ) → sizes_ok a b ≡ true → SizesFacts a b
unfolding sizes_ok
sizes-facts a b h =
    let x = eqb (a % road_size) 0 in
    let y = leb a (road_size * most_roads) in
    let z = eqb (b % place_size) 0 in
    let p = and_true (x && y && z && leb place_size b) (leb b (place_size * most_junctions)) h in
    let q = and_true (x && y && z) (leb place_size b) p.0 in
    let s = and_true (x && y) z q.0 in
    let t = and_true x y s.0 in
    record {
      roads-whole = eqb-true (a % road_size) 0 t.0;
      roads-high = leb-true a (road_size * most_roads) t.1;
      order-whole = eqb-true (b % place_size) 0 s.1;
      order-low = leb-true place_size b q.1;
      order-high = leb-true b (place_size * most_junctions) p.1;
    }

-- ---- what questions 2 and 3 say

-- the number of sections is 2 or 3
pub count-is : (count : ℕ) → count_ok count ≡ true → (count ≡ 2) ⊎ (count ≡ 3)
unfolding count_ok
count-is count h =
    let p = and_true (leb fewest_sections count) (leb count most_sections) h in
    go (ℕ_discrete count 2) (leb-true fewest_sections count p.0) (leb-true count most_sections p.1)
  where
    go : Dec (count ≡ 2) → fewest_sections ≤ count → count ≤ most_sections → (count ≡ 2) ⊎ (count ≡ 3)
    go (yes e) a b = inl e
    go (no e) a b = inr (omega arith)

-- no sum of starts and lengths wraps, so the card is not as long as that
pub ends_low : (at : ℕ) (l : List Section) (end : ℕ) → at < 4294967296 → starts_ok at l end ≡ true → end < 4294967296
unfolding starts_ok
ends_low at [] end low h = let e = eqb-true at end h in omega (arith, e)
ends_low at (s ∷ l) end low h =
    let p = and_true (eqb s.start at && ltb (at + s.size) 4294967296) (starts_ok (at + s.size) l end) h in
    let q = and_true (eqb s.start at) (ltb (at + s.size) 4294967296) p.0 in
    ends_low (at + s.size) l end (ltb-true (at + s.size) 4294967296 q.1) p.1

-- the entries of a card with two sections, and its length
pub record TwoSections (card : List ℕ) : Type 0 where
  pub count-is : sections card ≡ 2
  pub first_kind : (section card 0).kind ≡ roads_kind
  pub first-start : (section card 0).start ≡ table_size 2
  pub second-kind : (section card 1).kind ≡ order_kind
  pub second-start : (section card 1).start ≡ table_size 2 + (section card 0).size
  pub end_is : size_with (section card 0).size (section card 1).size ≡ length card

-- ---- a body by its place in the card

part_byte : (card : List ℕ) (s l j : ℕ) → j < l → get_or (take l (drop s card)) j 0 ≡ get_or card (s + j) 0
part_byte card s l j h = get_or-take l (drop s card) j 0 h ∙ get_or-drop s card j 0

pub part-word : (card : List ℕ) (s l j : ℕ) → j + 4 ≤ l → word_at (take l (drop s card)) j ≡ word_at card (s + j)
unfolding word_at
part-word card s l j h =
    rw (
      part_byte card s l j (omega arith),
      part_byte card s l (j + 1) (omega arith),
      part_byte card s l (j + 2) (omega arith),
      part_byte card s l (j + 3) (omega arith),
      ← add_assoc s j 1,
      ← add_assoc s j 2,
      ← add_assoc s j 3,
    )

pub part_length : (card : List ℕ) (s l : ℕ) → s + l ≤ length card → length (take l (drop s card)) ≡ l
part_length card s l h = let d = length-drop s card in length-take-le l (drop s card) (omega (arith, d))

-- the words of a body that ends within the card are those of the card, from its start on
pub part-words : (card : List ℕ) (s : Section) → s.start + s.size ≤ length card
    → words_in (body card s) ≡ words_at card s.start (s.size / 4)
part-words card s h =
    ap (λ (k : ℕ). words_at (body card s) 0 (k / 4)) (part_length card s.start s.size h)
    ∙ listed_same (s.size / 4) (λ i. word_at (body card s) (0 + 4 * i)) (λ i. word_at card (s.start + 4 * i)) (λ i l. at i l)
  where
    at : (i : ℕ) → i < s.size / 4 → word_at (body card s) (0 + 4 * i) ≡ word_at card (s.start + 4 * i)
    at i l =
        let z : 0 + 4 * i ≡ 4 * i = omega arith in
        part-word card s.start s.size (0 + 4 * i) (omega arith) ∙ ap (λ (k : ℕ). word_at card (s.start + k)) z

pub passed : (card : List ℕ) → card_refusal card ≡ none → Passed card
unfolding card_refusal
passed card h =
    let c = sections card in
    let l = sections_from card 0 c in
    let p = ask-none (leb count_size (length card)) Short _ h in
    let q = ask-none (count_ok c) Kinds _ p.1 in
    let s = ask-none (leb (table_size c) (length card)) Short _ q.1 in
    let t = ask-none (kinds_ok roads_kind l) Kinds _ s.1 in
    let u = ask-none (starts_ok (table_size c) l (length card)) Starts _ t.1 in
    let v = ask-none (access_fits card (length (roads_in card) / road_size)) Sizes _ u.1 in
    record {
      count = count-is c q.0;
      long = leb-true (table_size c) (length card) s.0;
      kinds = t.0;
      starts = u.0;
      access = v.0;
      bodies = v.1;
    }

-- the body of an entry that the table has
pub body_is : (card : List ℕ) (i : ℕ) → i < sections card → entry_at (i + 1) ≤ length card
    → (section card i).start + (section card i).size ≤ length card → body_at card i ≡ body card (section card i)
unfolding body_at
body_is card i l h k =
    let s = section card i in
    rw (lt-ltb i (sections card) l, le-leb (entry_at (i + 1)) (length card) h) (
    let q = le-leb (s.start + s.size) (length card) k in
    rw q)

-- the body of an entry that the table has not
no_body : (card : List ℕ) (i : ℕ) → ltb i (sections card) ≡ false → length (body_at card i) ≡ 0
unfolding body_at
no_body card i h = rw h (empty (decide (leb (0 + 0) (length card))))
  where
    empty : Tested (leb (0 + 0) (length card))
        → length (part_of card (record { kind = 0; start = 0; size = 0 })) ≡ 0
    empty (inl q) = rw q
    empty (inr q) = rw q

-- ---- bodies that the table names

-- a body that an entry names has its bytes
pub names-length : (card : List ℕ) (i k : ℕ) → names card i k ≡ true → length (body_at card i) ≡ k
unfolding names body_at part_of
names-length card i k h =
    let s = entry_of card i in
    let p = and_true (eqb s.size k) (leb (s.start + s.size) (length card)) h in
    rw p.1 (part_length card s.start s.size (leb-true (s.start + s.size) (length card) p.1) ∙ eqb-true s.size k p.0)

-- by 3 every body ends within the card
starts-within : (at : ℕ) (l : List Section) (end : ℕ) → starts_ok at l end ≡ true → at ≤ end
unfolding starts_ok
starts-within at [] end h = let e = eqb-true at end h in omega (arith, e)
starts-within at (s ∷ l) end h =
    let p = and_true (eqb s.start at && ltb (at + s.size) 4294967296) (starts_ok (at + s.size) l end) h in
    let rest = starts-within (at + s.size) l end p.1 in
    omega (arith, rest)

entry-within : (card : List ℕ) (at i count : ℕ) → starts_ok at (sections_from card i count) (length card) ≡ true
    → (k : ℕ) → i ≤ k → k < i + count → (section card k).start + (section card k).size ≤ length card
unfolding starts_ok
entry-within card at i zero h k low high = absurd (omega (arith, low, high))
entry-within card at i (suc count) h k low high =
    let s = section card i in
    let rest = sections_from card (suc i) count in
    let here = eqb s.start at && ltb (at + s.size) 4294967296 in
    let p = and_true here (starts_ok (at + s.size) rest (length card)) h in
    let starts = eqb-true s.start at (and_true (eqb s.start at) (ltb (at + s.size) 4294967296) p.0).0 in
    let ends = starts-within (at + s.size) rest (length card) p.1 in
    go (ℕ_discrete k i) (omega (arith, starts, ends)) (λ l. entry-within card (at + s.size) (suc i) count p.1 k l (omega (arith, high)))
  where
    Within : ℕ → Type 0
    Within j = (section card j).start + (section card j).size ≤ length card

    go : Dec (k ≡ i) → Within i → (suc i ≤ k → Within k) → Within k
    go (yes e) first later = rw e first
    go (no e) first later = later (omega (arith, low))

-- so an accepted card names each of its bodies
names-body : (card : List ℕ) → Passed card → (i : ℕ) → i < sections card → names card i (length (body_at card i)) ≡ true
unfolding names entry_of
names-body card p i l =
    let s = section card i in
    let h : entry_at (i + 1) ≤ length card = omega (arith, l, p.long) in
    let k = entry-within card (table_size (sections card)) 0 (sections card) p.starts i (omega arith) (omega (arith, l)) in
    let size = ap length (body_is card i l h k) ∙ part_length card s.start s.size k in
    rw (
      lt-ltb i (sections card) l,
      le-leb (entry_at (i + 1)) (length card) h,
      eq-eqb s.size (length (body_at card i)) (sym size),
      le-leb (s.start + s.size) (length card) k,
    )

-- a third section has a byte for each road
third : (card : List ℕ) (m : ℕ) → access_fits card m ≡ true → (length (access_in card) ≡ 0) ⊎ (length (access_in card) ≡ m)
third card m h = go (decide (ltb 2 (sections card)))
  where
    go : Tested (ltb 2 (sections card)) → (length (access_in card) ≡ 0) ⊎ (length (access_in card) ≡ m)
    go (inl q) = inr (names-length card 2 m (and_true (true && leb (entry_at 3) (length card)) (names card 2 m) (rw q at h)).1)
    go (inr q) = inl (no_body card 2 q)

pub card-facts : (card : List ℕ) → card_refusal card ≡ none → CardFacts card
unfolding named
card-facts card h =
    let a = length (roads_in card) in
    let b = length (order_in card) in
    let p = passed card h in
    let f = rows-facts a b (rows_of card) p.bodies in
    let z = sizes-facts a b f.sizes in
    let n : (map_on card).vertices ≡ b / 4 = listed-length (b / 4) _ in
    let r : length (rows_of card).roads ≡ a / 4 = listed-length (a / 4) _ in
    let m : a / road_size ≡ (map_on card).base.arcs = omega (arith, r) in
    let roads : a ≡ road_size * (map_on card).base.arcs = omega (arith, m, z.roads-whole) in
    let order : b ≡ place_size * (map_on card).vertices = omega (arith, n, z.order-whole) in
    let access : access_fits card (map_on card).base.arcs ≡ true = rw m at p.access in
    record {
      valid = rows-valid f;
      most = rows-most f;
      positive = rows-positive f;
      roads = f.roads;
      vertices-low = omega (arith, n, z.order-whole, z.order-low);
      vertices-high = omega (arith, n, z.order-high);
      arcs-high = omega (arith, m, roads, z.roads-high);
      roads-length = roads;
      order-length = order;
      access-length = third card (map_on card).base.arcs access;
      named-is =
          let two = at_least_two p.count in
          let first : names card 0 (road_size * (map_on card).base.arcs) ≡ true = rw (← roads) (names-body card p 0 (omega (arith, two))) in
          let second : names card 1 (place_size * (map_on card).vertices)
          ≡ true = rw (← order) (names-body card p 1 (omega (arith, two))) in
          true_and _ _ (true_and _ _ first second) access;
      size = low p.count p.starts;
    }
  where
    at_least_two : (sections card ≡ 2) ⊎ (sections card ≡ 3) → 2 ≤ sections card
    at_least_two (inl e) = omega (arith, e)
    at_least_two (inr e) = omega (arith, e)

    low : (sections card ≡ 2) ⊎ (sections card ≡ 3)
        → starts_ok (table_size (sections card)) (sections_from card 0 (sections card)) (length card) ≡ true → length card < 4294967296
    low (inl e) s = ends_low (table_size (sections card)) (sections_from card 0 (sections card)) (length card) (omega (arith, e)) s
    low (inr e) s = ends_low (table_size (sections card)) (sections_from card 0 (sections card)) (length card) (omega (arith, e)) s

-- ---- an accepted card with two sections

pub two-sections : (card : List ℕ) → Passed card → sections card ≡ 2 → TwoSections card
unfolding kinds_ok starts_ok
two-sections card p c =
    let first = section card 0 in
    let second = section card 1 in
    let start = table_size 2 in
    let middle = start + first.size in
    let k : kinds_ok roads_kind (first ∷ second ∷ []) ≡ true = rw c at p.kinds in
    let s : starts_ok start (first ∷ second ∷ []) (length card) ≡ true = rw c at p.starts in
    let q = and_true (eqb first.kind roads_kind) (eqb second.kind order_kind && true) k in
    let r = and_true (eqb second.kind order_kind) true q.1 in
    let t = and_true (eqb first.start start && ltb middle 4294967296) _ s in
    let u = and_true (eqb first.start start) (ltb middle 4294967296) t.0 in
    let last = middle + second.size in
    let v = and_true (eqb second.start middle && ltb last 4294967296) (eqb last (length card)) t.1 in
    let w = and_true (eqb second.start middle) (ltb last 4294967296) v.0 in
    record {
      count-is = c;
      first_kind = eqb-true first.kind roads_kind q.0;
      first-start = eqb-true first.start start u.0;
      second-kind = eqb-true second.kind order_kind r.0;
      second-start = eqb-true second.start middle w.0;
      end_is = eqb-true last (length card) v.1;
    }
