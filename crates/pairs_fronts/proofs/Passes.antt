-- A lower rank v relaxes the row of r: record by record (`Relaxing`, `Going`), from v's pair with r on (`Meeting`), and so the row passes
-- from stage to stage (`stage-skip`, `stage-pass`). Assumes nothing.
use mathlib.Core.Path.{◌∙◌, ◌≡◌, ap, ap₂, sym}
use mathlib.Core.Logic.{inl, inr}
use mathlib.Core.Bool.{cond, false, true}
use mathlib.Core.Option.{none}
use mathlib.Core.List.{List, [], ◌∷◌}
use Prim.Native.Nat.{◌*◌, ◌+◌, ◌-◌, ◌/◌, ◌<◌, ◌≤◌, min, suc, ℕ}
use borrow.Author.Tests.{eq-eqb, le-ltb, lt-ltb, ne_eqb}
use lib.Dec.{eqb, ltb}
use lib.ListN.{get_or-eq_default, get_or, length, length-append, length-drop, length-set, set, take}
use lib.Seq.{get_or-drop, get_or-set_other, get_or-set_same, take_all}
use native.Mathlib.Decide.{dec_lt, ℕ_discrete}
use native.Mathlib.Numerals.{add-one}
use native.Mathlib.Omega.{arith}
use Rattle.graph.specs.Total.{Tested, Total, ◌⊓◌, ◌⊕◌}
use Rattle.graph.proofs.Total.{cond_no, cond_yes, decide, ⊓-assoc, ⊓-none}
use Rattle.graph.specs.Path.{Weights}
use Rattle.graph.specs.Level.{level}
use Rattle.graph.specs.Pairs.{down, up}
use Rattle.graph.specs.Records.{Pair, edge, exists, min_over, pair_of, row}
use Rattle.graph.proofs.Records.{begins-length, min_over-take, row-ahead, row_at, row-begins}
use Rattle.graph.specs.Records.{rows}
use Rattle.graph.proofs.Records.{row-blank, row_kept, row-place, rows_at, rows-length}
use Rattle.graph.specs.Folds.{later, through}
use Rattle.graph.proofs.Folds.{over-blank, over-downs, over-ups}
use Rattle.model.specs.Word.{of_word, word}
use Rattle.model.proofs.Word.{of_word-word}
use Rattle.model.specs.Areas.{record_size}
use Rattle.model.specs.Use.{RecordAt}
use Rattle.network.specs.Width.{fit, fit-min}
use Rattle.pairs_records.specs.Words.{down_in, high_in, up_in}
use Rattle.pairs_rows.specs.Rows.{Marked, Row, block}
use Rattle.pairs_rows.specs.Entries.{marked-set, row_same, row-set}
use Rattle.pairs_fronts.specs.Fronts.{Front, Over, Reached, Relaxed, Stage, Times}
use Rattle.pairs_fronts.specs.Holding.{holds_at}

-- ---- one row of records

-- the records before i have relaxed the row
pub record Relaxing (pairs times : List ℕ) (from to : ℕ) (time_in : List ℕ → ℕ → ℕ) (first i : ℕ) (row row' : List ℕ) : Type 0 where
  pub by : (r n : ℕ) (l : List Pair) (time : Pair → Total) (x : ℕ → Total) → Times pairs times from time_in time l → from + length l ≡ to
      → Row r n row x
      → Row r n row' (λ h. x h ⊓ min_over (through (of_word first) time h) (take (i - from) l))

module _ {pairs times : List ℕ} {from to : ℕ} {time_in : List ℕ → ℕ → ℕ} {first : ℕ} {row₀ : List ℕ} where
  pub relaxing_start : Relaxing pairs times from to time_in first from row₀ row₀
  relaxing_start = record {
    by = λ r n l time x t e w.
        let z : from - from ≡ 0 = omega arith in
        row_same (λ h. x h ⊓ min_over (through (of_word first) time h) (take (from - from) l)) w (λ h rh hn. rw z (⊓-none (x h)));
  }

  pub relaxing_turn : {i b a : ℕ} {row row' : List ℕ} → from ≤ i → i < to → b ≡ high_in pairs i → a ≡ time_in times i
      → row' ≡ set row b (min (get_or row b 0) (word (fit (of_word first ⊕ of_word a))))
      → Relaxing pairs times from to time_in first i row₀ row
      → Relaxing pairs times from to time_in first (i + 1) row₀ row'
  relaxing_turn {i} {b} {a} {row} fi it eb ea er g = rw er (record { by = one })
    where
      v : ℕ
      v = min (get_or row b 0) (word (fit (of_word first ⊕ of_word a)))

      one : (r n : ℕ) (l : List Pair) (time : Pair → Total) (x : ℕ → Total) → Times pairs times from time_in time l → from + length l ≡ to
          → Row r n row₀ x
          → Row r n (set row b v) (λ h. x h ⊓ min_over (through (of_word first) time h) (take (i + 1 - from) l))
      one r n l time x t e w = row-set becomes b v row-was here there
        where
          -- record i, as a pair, and what it gives for h
          p : Pair
          p = get_or l (i - from) (edge 0)

          f : ℕ → Pair → Total
          f h = through (of_word first) time h

          -- the times before the turn, and after it
          was : ℕ → Total
          was h = x h ⊓ min_over (f h) (take (i - from) l)

          becomes : ℕ → Total
          becomes h = x h ⊓ min_over (f h) (take (i + 1 - from) l)

          row-was : Row r n row was
          row-was = g.by r n l time x t e w

          place : from + (i - from) ≡ i
          place = omega arith

          high : b ≡ p.high
          high = eb ∙ ap (λ (y : ℕ). high_in pairs y) (sym place) ∙ t.high (i - from) (edge 0) (omega arith)

          own : of_word a ≡ time p
          own = ap of_word ea ∙ ap (λ (y : ℕ). of_word (time_in times y)) (sym place) ∙ t.time-is (i - from) (edge 0) (omega arith)

          more : (h : ℕ) → becomes h ≡ was h ⊓ f h p
          more h =
              let s : i + 1 - from ≡ suc (i - from) = omega arith in
              ap (λ (y : ℕ). x h ⊓ min_over (f h) (take y l)) s ∙ ap (◌⊓◌ (x h)) (min_over-take (f h) l (i - from) (edge 0) (omega arith))
              ∙ sym (⊓-assoc (x h) (min_over (f h) (take (i - from) l)) (f h p))

          hit : f b p ≡ of_word first ⊕ time p
          hit = cond_yes (eqb p.high b) (of_word first ⊕ time p) none (eq-eqb p.high b (sym high))

          miss : (h : ℕ) → (h ≡ b → ⊥) → f h p ≡ none
          miss h ne = cond_no (eqb p.high h) (of_word first ⊕ time p) none (ne_eqb p.high h (λ q. ne (sym q ∙ sym high)))

          here : r < b → b < n → v ≡ word (fit (becomes b))
          here rb bn =
              ap₂ min (row-was.at b rb bn) (ap (λ (y : Total). word (fit (of_word first ⊕ y))) own)
              ∙ fit-min (was b) (of_word first ⊕ time p)
              ∙ ap (λ (y : Total). word (fit (was b ⊓ y))) (sym hit) ∙ ap (λ (y : Total). word (fit y)) (sym (more b))

          there : (h : ℕ) → r < h → (h ≡ b → ⊥) → becomes h ≡ was h
          there h rh ne = more h ∙ ap (◌⊓◌ (was h)) (miss h ne) ∙ ⊓-none (was h)

  pub relaxing_end : {i : ℕ} {row : List ℕ} → i ≤ to → to ≤ i → Relaxing pairs times from to time_in first i row₀ row
      → Relaxed pairs times from to time_in first row₀ row
  relaxing_end {i} h k g = record {
    by = λ r n l time x t e w.
        row_same (λ h. x h ⊓ min_over (through (of_word first) time h) l) (g.by r n l time x t e w)
        (λ h rh hn. ap (λ (y : List Pair). x h ⊓ min_over (through (of_word first) time h) y) (sym (take_all (i - from) l (omega arith))));
  }

-- ---- both rows, and the marks

-- the records from `from` to before j have relaxed them
pub record Going (pairs times : List ℕ) (from to down up j : ℕ) (ups₀ downs₀ touched₀ ups downs touched : List ℕ) : Type 0 where
  pub ups-by : Relaxing pairs times from to up_in down j ups₀ ups
  pub downs-by : Relaxing pairs times from to down_in up j downs₀ downs
  pub marks : (r n : ℕ) → Marked r n touched₀ ups₀ downs₀ → Marked r n touched ups downs

module _ {pairs times : List ℕ} {from to down up : ℕ} {ups₀ downs₀ touched₀ : List ℕ} where
  pub going_start : Going pairs times from to down up from ups₀ downs₀ touched₀ ups₀ downs₀ touched₀
  going_start = record { ups-by = relaxing_start; downs-by = relaxing_start; marks = λ r n m. m }

  pub going_turn : {j h a b : ℕ} {ups downs touched ups' downs' touched' : List ℕ} → from ≤ j → j < to → h ≡ high_in pairs j
      → a ≡ up_in times j → ups' ≡ set ups h (min (get_or ups h 0) (word (fit (of_word down ⊕ of_word a))))
      → b ≡ down_in times j → downs' ≡ set downs h (min (get_or downs h 0) (word (fit (of_word up ⊕ of_word b))))
      → h < block * length touched → touched' ≡ set touched (h / block) 1
      → Going pairs times from to down up j ups₀ downs₀ touched₀ ups downs touched
      → Going pairs times from to down up (j + 1) ups₀ downs₀ touched₀ ups' downs' touched'
  going_turn {j} {h} {a} {b} {ups} {downs} fj jt eh ea eu eb ed lh et g = record {
    ups-by = relaxing_turn fj jt eh ea eu g.ups-by;
    downs-by = relaxing_turn fj jt eh eb ed g.downs-by;
    marks = λ r n m. marked-set lh et (λ k ne. ap (λ (x : List ℕ). get_or x k 0) eu ∙ get_or-set_other ups h k u 0 ne)
        (λ k ne. ap (λ (x : List ℕ). get_or x k 0) ed ∙ get_or-set_other downs h k d 0 ne) (g.marks r n m);
  }
    where
      u : ℕ
      u = min (get_or ups h 0) (word (fit (of_word down ⊕ of_word a)))

      d : ℕ
      d = min (get_or downs h 0) (word (fit (of_word up ⊕ of_word b)))

pub going_end : {pairs times : List ℕ} {i end down up j : ℕ} {ups₀ downs₀ touched₀ ups downs touched : List ℕ} → j ≤ end → end ≤ j
    → down ≡ down_in times i → up ≡ up_in times i → Going pairs times (i + 1) end down up j ups₀ downs₀ touched₀ ups downs touched
    → Over pairs times i end ups₀ downs₀ touched₀ ups downs touched
going_end h k ed eu g = record {
  ups-by = rw ed at (relaxing_end h k g.ups-by);
  downs-by = rw eu at (relaxing_end h k g.downs-by);
  marks = g.marks;
}

-- ---- the row of a lower rank v, where its pair with r is kept

pub record Meeting (w : Weights) (n r v i end : ℕ) (pairs times : List ℕ) : Type 0 where
  pub next_in : i < end
  pub end_in : record_size * end ≤ length pairs
  pub first-up : of_word (up_in times i) ≡ up w v r
  pub first-down : of_word (down_in times i) ≡ down w v r
  pub end_is : i + 1 + length (later w n v r) ≡ end
  pub ups : Times pairs times (i + 1) up_in (λ p. p.up_time) (later w n v r)
  pub downs : Times pairs times (i + 1) down_in (λ p. p.down_time) (later w n v r)
  pub highs : (j : ℕ) → i + 1 ≤ j → j < end → high_in pairs j < n
  -- the front of v, passed up to r
  pub place_is : i + 1 ≡ length (rows w n v) + length (row w v (suc r))
  pub ahead-is : cond (ltb (i + 1) end) (high_in pairs (i + 1)) n ≡ (get_or (row w v n) (length (row w v (suc r))) (edge n)).high

-- the word of a pair's time u, which is t, gives it back
same-time : {x : ℕ} {t u : Total} → x ≡ word u → u ≡ t → of_word (word t) ≡ t → of_word x ≡ u
same-time q e f = ap of_word (q ∙ ap word e) ∙ f ∙ sym e

module _ {w : Weights} {n r v : ℕ} {pairs times cursor ahead ends ups downs touched : List ℕ}
    (s : Stage w n r v pairs times cursor ahead ends ups downs touched) (vr : v < r) where
  rn : r < n
  rn = s.inside

  front : Front w n v r cursor ahead ends
  front = s.waiting v (omega arith) vr

  -- v's pair with r is kept, exactly if r is ahead
  kept : get_or ahead v 0 ≡ r → exists (up w v r) (down w v r) ≡ true
  kept e = go (decide (exists (up w v r) (down w v r)))
    where
      go : Tested (exists (up w v r) (down w v r)) → exists (up w v r) (down w v r) ≡ true
      go (inl t) = t
      go (inr t) =
          let a = row-ahead w v (suc r) n rn in
          let q : (get_or (row w v n) (length (row w v (suc r))) (edge n)).high ≡ r =
          ap (λ (y : List Pair). (get_or (row w v n) (length y) (edge n)).high) (row-blank w v r t) ∙ sym front.ahead-is ∙ e in
          absurd (omega (arith, a, q))

  blank : (get_or ahead v 0 ≡ r → ⊥) → exists (up w v r) (down w v r) ≡ false
  blank ne = go (decide (exists (up w v r) (down w v r)))
    where
      go : Tested (exists (up w v r) (down w v r)) → exists (up w v r) (down w v r) ≡ false
      go (inl t) = absurd (ne (front.ahead-is ∙ ap (λ (p : Pair). p.high) (row-place w v r n (edge n) rn t)))
      go (inr t) = t

  -- record j of v
  record_of : (j : ℕ) (d : Pair) → j < length (row w v n) → RecordAt pairs times (length (rows w n v) + j) (get_or (row w v n) j d)
  record_of j d l = rw (rows_at w n v r j d vr l) at (holds_at s.holds (length (rows w n v) + j) d (omega (
    arith,
    s.holds.count-is,
    rows-length w n v r vr,
  )))

  up_of : (h : ℕ) → h < n → of_word (word (up w v h)) ≡ up w v h
  up_of h hn = of_word-word (up w v h) (λ t e. let q = s.narrow.ups v h t (omega arith) hn e in omega (arith, q))

  down_of : (h : ℕ) → h < n → of_word (word (down w v h)) ≡ down w v h
  down_of h hn = of_word-word (down w v h) (λ t e. let q = s.narrow.downs v h t (omega arith) hn e in omega (arith, q))

  module _ (e : get_or ahead v 0 ≡ r) where
    abbrev i : ℕ
    i = get_or cursor v 0

    abbrev end : ℕ
    end = get_or ends v 0

    size : length (row w v (suc r)) ≡ length (row w v r) + 1
    size = ap length (row_kept w v r (kept e)) ∙ length-append (row w v r) (pair_of w v r ∷ [])

    within : length (row w v (suc r)) ≤ length (row w v n)
    within = begins-length (row-begins w v (suc r) n rn)

    next-is : i + 1 ≡ length (rows w n v) + length (row w v (suc r))
    next-is = omega (arith, front.cursor-is, size)

    later-length : length (later w n v r) ≡ length (row w v n) - length (row w v (suc r))
    later-length = length-drop (length (row w v (suc r))) (row w v n)

    -- record j after i + 1
    later-at : (j : ℕ) (d : Pair) → j < length (later w n v r) → RecordAt pairs times (i + 1 + j) (get_or (later w n v r) j d)
    later-at j d l =
        let q : length (rows w n v) + (length (row w v (suc r)) + j) ≡ i + 1 + j = omega (arith, next-is) in
        let a = record_of (length (row w v (suc r)) + j) d (omega (arith, later-length)) in
        rw (q, ← get_or-drop (length (row w v (suc r))) (row w v n) j d) at a

    later-pair : (j : ℕ) (d : Pair) → j < length (later w n v r) → (h : ℕ) × (get_or (later w n v r) j d ≡ pair_of w v h) × (h < n)
    later-pair j d l =
        let a = row_at w v n (length (row w v (suc r)) + j) d (omega (arith, later-length)) in
        (a.0, get_or-drop (length (row w v (suc r))) (row w v n) j d ∙ a.1, a.2)

    first_record : RecordAt pairs times i (pair_of w v r)
    first_record =
        let a = record_of (length (row w v r)) (edge n) (omega (arith, size, within)) in
        rw (← front.cursor-is, row-place w v r n (edge n) rn (kept e)) at a

    front-ahead : cond (ltb (i + 1) end) (high_in pairs (i + 1)) n ≡ (get_or (row w v n) (length (row w v (suc r))) (edge n)).high
    front-ahead = go (dec_lt (i + 1) end)
      where
        go : Dec (i + 1 < end) → cond (ltb (i + 1) end) (high_in pairs (i + 1)) n ≡ (get_or (row w v n) (length (row w v (suc r)))
            (edge n)).high
        go (yes h) =
            let a = record_of (length (row w v (suc r))) (edge n) (omega (arith, next-is, front.end_is)) in
            rw (lt-ltb (i + 1) end h, next-is) a.high
        go (no h) =
            let q : get_or (row w v n) (length (row w v (suc r))) (edge n) ≡ edge n = get_or-eq_default (row w v n) (edge n)
            {n = length (row w v (suc r))} (omega (arith, next-is, front.end_is)) in
            rw (le-ltb (i + 1) end (omega arith)) (sym (ap (λ (p : Pair). p.high) q))

    later-below : (j : ℕ) → j < length (later w n v r) → high_in pairs (i + 1 + j) < n
    later-below j l =
        let a = later-pair j (edge n) l in
        let b : (get_or (later w n v r) j (edge n)).high ≡ a.0 = ap (λ (p : Pair). p.high) a.1 in
        omega (arith, (later-at j (edge n) l).high, b, a.2)

    high-below : (j : ℕ) → i + 1 ≤ j → j < end → high_in pairs j < n
    high-below j ij je =
        let q : i + 1 + (j - (i + 1)) ≡ j = omega arith in
        rw q at (later-below (j - (i + 1)) (omega (arith, next-is, front.end_is, later-length)))

    pub meeting : Meeting w n r v (get_or cursor v 0) (get_or ends v 0) pairs times
    meeting = record {
      next_in = omega (arith, next-is, front.end_is, within);
      end_in = omega (arith, front.end_is, rows-length w n v r vr, s.holds.count-is, s.holds.room);
      first-up = ap of_word first_record.ups ∙ up_of r rn;
      first-down = ap of_word first_record.downs ∙ down_of r rn;
      end_is = omega (arith, next-is, front.end_is, later-length, within);
      ups = record {
        high = λ j d l. (later-at j d l).high;
        time-is = λ j d l. let a = later-pair j d l in
            same-time (later-at j d l).ups (ap (λ (p : Pair). p.up_time) a.1) (up_of a.0 a.2);
      };
      downs = record {
        high = λ j d l. (later-at j d l).high;
        time-is = λ j d l. let a = later-pair j d l in
            same-time (later-at j d l).downs (ap (λ (p : Pair). p.down_time) a.1) (down_of a.0 a.2);
      };
      highs = high-below;
      place_is = next-is;
      ahead-is = front-ahead;
    }

    pub reached : Reached pairs (get_or cursor v 0 + 1) (get_or ends v 0) ups downs touched
    reached = record {
      ups_in = λ j ij je. omega (arith, high-below j ij je, s.ups_are.wide);
      downs_in = λ j ij je. omega (arith, high-below j ij je, s.downs_are.wide);
      marks_in = λ j ij je. omega (arith, high-below j ij je, s.marked.wide);
    }

-- ---- the stages

module _ {w : Weights} {n r v : ℕ} {pairs times cursor ahead ends ups downs touched : List ℕ}
    (s : Stage w n r v pairs times cursor ahead ends ups downs touched) (vr : v < r) where
  -- the pair of v with r is not kept
  pub stage-skip : (get_or ahead v 0 ≡ r → ⊥) → Stage w n r (v + 1) pairs times cursor ahead ends ups downs touched
  stage-skip ne =
      let b = blank s vr ne in
      rw (add-one v) (record {
        inside = s.inside;
        wide = s.wide;
        area = s.area;
        narrow = s.narrow;
        count = s.count;
        holds = s.holds;
        passed = λ u h. front u h (ℕ_discrete u v);
        waiting = λ u h l. s.waiting u (omega arith) l;
        ups_are = row_same (λ h. level w (suc v) r h) s.ups_are (λ h rh hn. (over-blank w n v r h rh hn vr b).0);
        downs_are = row_same (λ h. level w (suc v) h r) s.downs_are (λ h rh hn. (over-blank w n v r h rh hn vr b).1);
        marked = s.marked;
      })
    where
      front : (u : ℕ) → u < suc v → Dec (u ≡ v) → Front w n u (suc r) cursor ahead ends
      front u h (yes e) =
          let b = row-blank w v r (blank s vr ne) in
          let f = s.waiting v (omega arith) vr in
          rw e (record {
            cursor-is = f.cursor-is ∙ ap (λ (y : List Pair). length (rows w n v) + length y) (sym b);
            ahead-is = f.ahead-is ∙ ap (λ (y : List Pair). (get_or (row w v n) (length y) (edge n)).high) (sym b);
            end_is = f.end_is;
          })
      front u h (no e) = s.passed u (omega arith)

  -- it is kept, and v's row is passed
  pub stage-pass : {i end x : ℕ} {ups' downs' touched' : List ℕ} → Meeting w n r v i end pairs times
      → Over pairs times i end ups downs touched ups' downs' touched'
      → x ≡ cond (ltb (i + 1) end) (high_in pairs (i + 1)) n
      → Stage w n r (v + 1) pairs times (set cursor v (i + 1)) (set ahead v x) ends ups' downs' touched'
  stage-pass {i} {x} m o ex =
      rw (add-one v) (record {
        inside = s.inside;
        wide = record {
          cursors = omega (arith, s.wide.cursors, length-set cursor v (i + 1));
          aheads = omega (arith, s.wide.aheads, length-set ahead v x);
          ends_too = s.wide.ends_too;
        };
        area = s.area;
        narrow = s.narrow;
        count = s.count;
        holds = s.holds;
        passed = λ u h. front u h (ℕ_discrete u v);
        waiting = λ u h l. apart u (λ e. omega arith) (s.waiting u (omega arith) l);
        ups_are = row_same (λ h. level w (suc v) r h)
            (o.ups-by.by r n (later w n v r) (λ p. p.up_time) (λ h. level w v r h) m.ups m.end_is s.ups_are)
            (λ h rh hn. over-ups w n v r h rh hn vr ∙ ap (λ (y : Total). level w v r h ⊓ min_over (through y (λ p. p.up_time) h)
            (later w n v r)) (sym m.first-down));
        downs_are = row_same (λ h. level w (suc v) h r)
            (o.downs-by.by r n (later w n v r) (λ p. p.down_time) (λ h. level w v h r) m.downs m.end_is s.downs_are)
            (λ h rh hn. over-downs w n v r h rh hn vr ∙
            ap (λ (y : Total). level w v h r ⊓ min_over (through y (λ p. p.down_time) h) (later w n v r)) (sym m.first-up));
        marked = o.marks r n s.marked;
      })
    where
      apart : {q : ℕ} (u : ℕ) → (u ≡ v → ⊥) → Front w n u q cursor ahead ends → Front w n u q (set cursor v (i + 1)) (set ahead v x) ends
      apart u ne f = record {
        cursor-is = get_or-set_other cursor v u (i + 1) 0 ne ∙ f.cursor-is;
        ahead-is = get_or-set_other ahead v u x 0 ne ∙ f.ahead-is;
        end_is = f.end_is;
      }

      front : (u : ℕ) → u < suc v → Dec (u ≡ v) → Front w n u (suc r) (set cursor v (i + 1)) (set ahead v x) ends
      front u h (yes e) =
          let c : v < length cursor = omega (arith, s.wide.cursors, s.inside) in
          let a : v < length ahead = omega (arith, s.wide.aheads, s.inside) in
          rw e (record {
            cursor-is = get_or-set_same cursor v (i + 1) 0 c ∙ m.place_is;
            ahead-is = get_or-set_same ahead v x 0 a ∙ ex ∙ m.ahead-is;
            end_is = (s.waiting v (omega arith) vr).end_is;
          })
      front u h (no e) = apart u e (s.passed u (omega arith))

-- ---- the high ahead
