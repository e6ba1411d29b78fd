-- The records in the two areas, appended, and the zeros after them. Assumes nothing.
use mathlib.Core.Path.{◌∙◌, ◌≡◌, ap, ap₂, refl, sym}
use mathlib.Core.Bool.{Bool, false, true}
use mathlib.Core.List.{List, [], ◌++◌, ◌∷◌, append_assoc, append-nil}
use Prim.Native.Nat.{◌*◌, ◌+◌, ◌-◌, ◌/◌, ◌<◌, ◌≤◌, min, suc, zero, ℕ}
use lib.ListN.{drop, drop_of_length-le, get_or, length, length-append, length-drop, replicate, set, take}
use lib.Seq.{get_or-set_other, get_or-set_same, length-take-le, take_at}
use native.Mathlib.Decide.{dec_lt, ℕ_discrete}
use native.Mathlib.Numerals.{add-one}
use native.Mathlib.Omega.{arith}
use Rattle.graph.specs.Path.{Weights}
use Rattle.graph.specs.Pairs.{down, up}
use Rattle.graph.specs.Records.{Pair, exists, pair_of, row, rows}
use Rattle.graph.proofs.Records.{begins-length, row-begins, row-blank, row_kept, row_low}
use Rattle.model.specs.Word.{none_word, of_word, word}
use Rattle.model.proofs.Word.{of_word-none}
use Rattle.model.specs.Areas.{rank_words, record_size, time_words, zeros_after}
use Rattle.pairs_rows.specs.Rows.{block}
use Rattle.network.specs.Width.{fit, fit_is, fit-of_word}
use Rattle.pairs_records.specs.Words.{with_record}
use Rattle.pairs_fronts.specs.Fronts.{Holds}
use Rattle.pairs_storing.specs.Storing.{RowAppended, RowTimes, cleared}
use Rattle.std.specs.Prelude.{None, Some}

-- ---- one record more

-- the words of one pair more
words_more : (l : List Pair) (p : Pair) → (rank_words (l ++ (p ∷ [])) ≡ rank_words l ++ (p.low ∷ p.high ∷ []))
    × (time_words (l ++ (p ∷ [])) ≡ time_words l ++ (word p.up_time ∷ word p.down_time ∷ []))
words_more [] p = (refl, refl)
words_more (q ∷ l) p =
    let (ranks, times) = words_more l p in
    (ap (λ (x : List ℕ). q.low ∷ q.high ∷ x) ranks, ap (λ (x : List ℕ). word q.up_time ∷ word q.down_time ∷ x) times)

-- an area that begins with the words of k records, and one more is written
record_more : {words area' : List ℕ} (k first second : ℕ) (area : List ℕ) → record_size * k ≤ length area
    → take (record_size * k) area ≡ words → area' ≡ with_record area k first second
    → take (record_size * (k + 1)) area' ≡ words ++ (first ∷ second ∷ [])
record_more k first second area room begins written =
    let before = take (record_size * k) area in
    let two : record_size * k + record_size ≡ record_size * (k + 1) = omega arith in
    let long : length (before ++ (first ∷ second ∷ [])) ≡ record_size * (k + 1) = length-append before (first ∷ second ∷ [])
    ∙ ap (λ (j : ℕ). j + record_size) (length-take-le (record_size * k) area room) ∙ two in
    ap (take (record_size * (k + 1))) written
    ∙ take_at (before ++ (first ∷ second ∷ [])) (drop (record_size * k + record_size) area) (record_size * (k + 1)) long
    ∙ ap (λ (x : List ℕ). x ++ (first ∷ second ∷ [])) begins

holds_more : {l : List Pair} {k : ℕ} {pairs times pairs' times' : List ℕ} (p : Pair) → Holds l k pairs times
    → pairs' ≡ with_record pairs k p.low p.high → length pairs' ≡ length pairs
    → times' ≡ with_record times k (word p.up_time) (word p.down_time) → length times' ≡ length times
    → record_size * k + record_size ≤ length pairs
    → Holds (l ++ (p ∷ [])) (k + 1) pairs' times'
holds_more {l} {k} {pairs} {times} p h ranks-put pairs-kept times-put times-kept room =
    let (ranks, words) = words_more l p in
    record {
      count-is = omega (arith, h.count-is, length-append l (p ∷ []));
      room = omega arith;
      same-room = times-kept ∙ h.same-room ∙ sym pairs-kept;
      ranks_are = record_more k p.low p.high pairs h.room h.ranks_are ranks-put ∙ sym ranks;
      times_are =
          record_more k (word p.up_time) (word p.down_time) times (omega (arith, h.room, h.same-room)) h.times_are times-put
          ∙ sym words;
    }

-- ---- the answers

all_same : {a b : ℕ} → Some a ≡ Some b → a ≡ b
all_same e = cc

all-full : {a : ℕ} → Some a ≡ None → ⊥
all-full e = let z : ◌≡◌ {A = ℕ} 0 1 = cc in omega arith

-- ---- the loop over the highs

-- the entries below h are handed out
pub record Emptied (r h : ℕ) (row₀ row : List ℕ) : Type 0 where
  pub done : (j : ℕ) → r < j → j < h → get_or row j 0 ≡ none_word
  pub rest : (j : ℕ) → h ≤ j → get_or row j 0 ≡ get_or row₀ j 0

emptied_start : {r : ℕ} {row₀ : List ℕ} → Emptied r (r + 1) row₀ row₀
emptied_start {r} {row₀} = record { done = λ j a b. absurd (omega arith); rest = λ j a. refl }

emptied_turn : {r h : ℕ} {row₀ row row' : List ℕ} → h < length row → row' ≡ set row h none_word → Emptied r h row₀ row
    → Emptied r (h + 1) row₀ row'
emptied_turn {r} {h} {row₀} {row} l e m =
    rw e (record {
      done = λ j a b. at j a b (ℕ_discrete j h);
      rest = λ j a. get_or-set_other row h j none_word 0 (λ q. omega arith) ∙ m.rest j (omega arith);
    })
  where
    at : (j : ℕ) → r < j → j < h + 1 → Dec (j ≡ h) → get_or (set row h none_word) j 0 ≡ none_word
    at j a b (yes q) = ap (λ (x : ℕ). get_or (set row h none_word) x 0) q ∙ get_or-set_same row h none_word 0 l
    at j a b (no q) = get_or-set_other row h j none_word 0 q ∙ m.done j a (omega arith)

emptied_over : {r h g : ℕ} {row₀ row : List ℕ} → h ≤ g → ((j : ℕ) → r < j → h ≤ j → j < g → get_or row₀ j 0 ≡ none_word)
    → Emptied r h row₀ row → Emptied r g row₀ row
emptied_over {r} {h} {g} {row₀} {row} l z m = record { done = λ j a b. at j a b (dec_lt j h); rest = λ j a. m.rest j (omega arith) }
  where
    at : (j : ℕ) → r < j → j < g → Dec (j < h) → get_or row j 0 ≡ none_word
    at j a b (yes q) = m.done j a q
    at j a b (no q) = m.rest j (omega arith) ∙ z j a (omega arith) b

-- the records of the highs below h stand in the areas
pub record Appending (w : Weights) (n r h k : ℕ) (ups₀ downs₀ ups downs pairs times : List ℕ) : Type 0 where
  pub holds : Holds (rows w n r ++ row w r h) k pairs times
  pub ups-left : Emptied r h ups₀ ups
  pub downs-left : Emptied r h downs₀ downs

-- the two times of h are handed out, and b is the test whether its pair is kept
pub record Taken (n r h u d : ℕ) (ups downs ups' downs' : List ℕ) (b : Bool) : Type 0 where
  pub above : r < h
  pub below : h < n
  pub up_in : h < length ups
  pub down_in : h < length downs
  pub up_is : u ≡ get_or ups h 0
  pub down_is : d ≡ get_or downs h 0
  pub ups_are : ups' ≡ set ups h none_word
  pub downs_are : downs' ≡ set downs h none_word
  pub test-is : b ≡ exists (of_word u) (of_word d)

module _ {w : Weights} {n r count : ℕ} {touched ups₀ downs₀ pairs₀ times₀ : List ℕ}
    (g : RowTimes w n r count touched ups₀ downs₀ pairs₀ times₀) where
  up-entry : (h : ℕ) → r < h → h < n → fit (up w r h) ≡ up w r h
  up-entry h rh hn = fit_is (up w r h) (λ t e. g.narrow.ups r h t (omega arith) hn e)

  down-entry : (h : ℕ) → r < h → h < n → fit (down w r h) ≡ down w r h
  down-entry h rh hn = fit_is (down w r h) (λ t e. g.narrow.downs r h t (omega arith) hn e)

  -- the two words of an entry are the times of the pair
  entry-words : (h u d : ℕ) → r < h → h < n → u ≡ get_or ups₀ h 0 → d ≡ get_or downs₀ h 0 → (u ≡ word (up w r h)) × (d ≡ word (down w r h))
  entry-words h u d rh hn eu ed = (
    eu ∙ g.ups_are.at h rh hn ∙ ap word (up-entry h rh hn),
    ed ∙ g.downs_are.at h rh hn ∙ ap word (down-entry h rh hn),
  )

  -- the test is that of the pair
  tested : (h u d : ℕ) → r < h → h < n → u ≡ get_or ups₀ h 0 → d ≡ get_or downs₀ h 0
      → exists (of_word u) (of_word d) ≡ exists (up w r h) (down w r h)
  tested h u d rh hn eu ed =
      ap₂ exists
      (ap of_word (eu ∙ g.ups_are.at h rh hn) ∙ fit-of_word (up w r h) ∙ up-entry h rh hn)
      (ap of_word (ed ∙ g.downs_are.at h rh hn) ∙ fit-of_word (down w r h) ∙ down-entry h rh hn)

  pub append-start : Appending w n r (r + 1) count ups₀ downs₀ ups₀ downs₀ pairs₀ times₀
  append-start =
      let e : row w r (r + 1) ≡ [] = row_low w r (r + 1) (omega arith) in
      record { holds = rw (e, append-nil (rows w n r)) g.holds; ups-left = emptied_start; downs-left = emptied_start }

  -- ---- a block that is not touched

  -- no pair with these highs is kept
  blank : (d h : ℕ) → r < h → h + d ≤ n → ((j : ℕ) → h ≤ j → j < h + d → get_or touched (j / block) 0 ≡ 0) → row w r (h + d) ≡ row w r h
  blank zero h rh hn z = let e : h + 0 ≡ h = omega arith in ap (row w r) e
  blank (suc d) h rh hn z =
      let e : h + suc d ≡ suc (h + d) = omega arith in
      let k : h + d < n = omega arith in
      let t = z (h + d) (omega arith) (omega arith) in
      let u : none_word ≡ get_or ups₀ (h + d) 0 = sym (g.marked.ups-none (h + d) (omega arith) k t) in
      let v : none_word ≡ get_or downs₀ (h + d) 0 = sym (g.marked.downs-none (h + d) (omega arith) k t) in
      let x : exists (of_word none_word) (of_word none_word) ≡ false = ap₂ exists of_word-none of_word-none in
      let q : exists (up w r (h + d)) (down w r (h + d)) ≡ false = sym (tested (h + d) none_word none_word (omega arith) k u v) ∙ x in
      ap (row w r) e ∙ row-blank w r (h + d) q ∙ blank d h rh (omega arith) (λ j a b. z j a (omega arith))

  pub append-over : {h to k : ℕ} {ups downs pairs times : List ℕ} → r < h → h < n → to ≡ min (block * (h / block) + block) n
      → get_or touched (h / block) 0 ≡ 0
      → Appending w n r h k ups₀ downs₀ ups downs pairs times → Appending w n r to k ups₀ downs₀ ups downs pairs times
  append-over {h} {to} rh hn et t inv = record {
    holds = rw same inv.holds;
    ups-left = emptied_over (omega arith) (λ j a b c. g.marked.ups-none j a (omega arith) (all j b c)) inv.ups-left;
    downs-left = emptied_over (omega arith) (λ j a b c. g.marked.downs-none j a (omega arith) (all j b c)) inv.downs-left;
  }
    where
      all : (j : ℕ) → h ≤ j → j < to → get_or touched (j / block) 0 ≡ 0
      all j a b = let q : j / block ≡ h / block = omega arith in ap (λ (x : ℕ). get_or touched x 0) q ∙ t

      same : row w r to ≡ row w r h
      same =
          let e : to ≡ h + (to - h) = omega arith in
          ap (row w r) e ∙ blank (to - h) h rh (omega arith) (λ j a b. all j a (omega arith))

  -- ---- the entry of h is handed out

  module _ {h u d k : ℕ} {ups downs ups' downs' pairs times : List ℕ} {b : Bool} (t : Taken n r h u d ups downs ups' downs' b)
      (inv : Appending w n r h k ups₀ downs₀ ups downs pairs times) where
    up_first : u ≡ get_or ups₀ h 0
    up_first = t.up_is ∙ inv.ups-left.rest h (omega arith)

    down-first : d ≡ get_or downs₀ h 0
    down-first = t.down_is ∙ inv.downs-left.rest h (omega arith)

    -- b says whether the pair exists
    test-is : exists (up w r h) (down w r h) ≡ b
    test-is = sym (tested h u d t.above t.below up_first down-first) ∙ sym t.test-is

    ups_emptied : Emptied r (h + 1) ups₀ ups'
    ups_emptied = emptied_turn t.up_in t.ups_are inv.ups-left

    downs_emptied : Emptied r (h + 1) downs₀ downs'
    downs_emptied = emptied_turn t.down_in t.downs_are inv.downs-left

    pub append-skip : b ≡ false → Appending w n r (h + 1) k ups₀ downs₀ ups' downs' pairs times
    append-skip e = record {
      holds = rw (add-one h, row-blank w r h (test-is ∙ e)) inv.holds;
      ups-left = ups_emptied;
      downs-left = downs_emptied;
    }

    more : b ≡ true → row w r (suc h) ≡ row w r h ++ (pair_of w r h ∷ [])
    more e = row_kept w r h (test-is ∙ e)

    pub append-put : {pairs' times' : List ℕ} → b ≡ true → pairs' ≡ with_record pairs k r h → length pairs' ≡ length pairs
        → times' ≡ with_record times k u d → length times' ≡ length times → record_size * k + record_size ≤ length pairs
        → Appending w n r (h + 1) (k + 1) ups₀ downs₀ ups' downs' pairs' times'
    append-put e ranks-put pairs-kept times-put times-kept room =
        let (eu, ed) = entry-words h u d t.above t.below up_first down-first in
        record {
          holds = rw (add-one h, more e, ← (append_assoc (rows w n r) (row w r h) (pair_of w r h ∷ [])))
              (holds_more (pair_of w r h) inv.holds ranks-put pairs-kept (rw (eu, ed) at times-put) times-kept room);
          ups-left = ups_emptied;
          downs-left = downs_emptied;
        }

    pub append-full : b ≡ true → length pairs < record_size * k + record_size → RowAppended w n r ups' downs' pairs times None
    append-full e full =
        let all-rows = ap (λ (l : List Pair). length l) (ap (rows w n) (add-one r)) ∙ length-append (rows w n r) (row w r n) in
        let one_more = ap length (more e) ∙ length-append (row w r h) (pair_of w r h ∷ []) in
        let so_far = inv.holds.count-is ∙ length-append (rows w n r) (row w r h) in
        record {
          appended = record {
            all = λ j q. absurd (all-full (sym q));
            full = λ q. omega (arith, all-rows, one_more, so_far, begins-length (row-begins w r (suc h) n t.below));
          };
          ups-none = λ j q. absurd (all-full (sym q));
          downs-none = λ j q. absurd (all-full (sym q));
        }

  pub append-end : {h k : ℕ} {ups downs pairs times : List ℕ} → h ≤ n → n ≤ h → length ups ≡ length ups₀ → length downs ≡ length downs₀
      → Appending w n r h k ups₀ downs₀ ups downs pairs times
      → RowAppended w n r ups downs pairs times (Some k)
  append-end {h} {k} {pairs} {times} hn nh lu ld inv =
      let e : h ≡ n = omega arith in
      let i = inv.holds in
      let s : Holds (rows w n (r + 1)) k pairs times = rw (add-one r) (rw e at i) in
      record {
        appended = record { all = λ j q. rw (all_same q) at s; full = λ q. absurd (all-full q) };
        ups-none = λ j q. record { wide = omega (arith, g.ups_are.wide); at = λ a ra an. inv.ups-left.done a ra (omega arith) };
        downs-none = λ j q. record { wide = omega (arith, g.downs_are.wide); at = λ a ra an. inv.downs-left.done a ra (omega arith) };
      }

-- ---- zeros after the last

-- the part of an area after its first `count` records, filled as an area of its own
pub rest-filled : (count k : ℕ) (area rest : List ℕ) → k ≡ record_size * count → record_size * count ≤ length area
    → rest ≡ replicate (length (take (length area - k) (drop k area))) 0
    → take k area ++ (rest ++ drop (length area - k) (drop k area)) ≡ cleared count area
rest-filled count k area rest e room f =
    let left = length area - k in
    let n : length (drop k area) ≡ left = length-drop k area in
    let t : length (take left (drop k area)) ≡ left = length-take-le left (drop k area) (omega arith) in
    let z : drop left (drop k area) ≡ [] = drop_of_length-le (drop k area) {i = left} (omega arith) in
    let m : left ≡ length area - length (take k area) = omega (arith, length-take-le k area (omega arith)) in
    ap (λ (x : List ℕ). take k area ++ (rest ++ x)) z
    ∙ ap (◌++◌ (take k area)) (append-nil rest ∙ f ∙ ap (λ (j : ℕ). replicate j 0) (t ∙ m))
    ∙ ap (λ (j : ℕ). zeros_after (take j area) (length area)) e
