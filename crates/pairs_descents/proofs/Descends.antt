-- The ways in which the pass over the records meets its contract. On a map that the areas hold, the records below k have made the totals
-- that the pass of the model makes of its first k pairs (`made`), and those of all records are the down totals (`end-at`).
use mathlib.Core.Path.{◌∙◌, ◌≡◌, ap, ap₂, refl, subst, sym}
use mathlib.Core.Option.{none, some}
use mathlib.Core.List.{List, [], ◌++◌, ◌∷◌}
use Prim.Native.Nat.{◌*◌, ◌+◌, ◌<◌, ◌≤◌, min, suc, zero, ℕ}
use borrow.Author.Tests.{eq-eqb, ne_eqb}
use lib.Dec.{eqb}
use lib.ListN.{get_or, get_or-replicate, length, length-replicate, replicate, set, take}
use lib.Seq.{get_or-set_other, get_or-set_same, set-get_or, take_all}
use native.Mathlib.Decide.{ℕ_discrete}
use native.Mathlib.Nat.{not-suc-le-zero}
use native.Mathlib.Numerals.{add-one}
use native.Mathlib.Omega.{arith}
use Rattle.graph.specs.Total.{Total, ◌⊓◌, ◌⊕◌}
use Rattle.graph.proofs.Total.{cond_no, cond_yes, ⊕-none}
use Rattle.graph.specs.Records.{Pair}
use Rattle.graph.specs.Folds.{hand, pass, seed}
use Rattle.graph.proofs.Folds.{hand-all, pass-append}
use Rattle.graph.proofs.Ranks.{rank_below, vertex_of_rank}
use Rattle.graph.specs.Map.{Map, down_total_of, pairs_of, rank, weights}
use Rattle.graph.proofs.Rows.{ranked-down}
use Rattle.model.proofs.LimitLaws.{totals_fit}
use Rattle.model.specs.Bytes.{word_at}
use Rattle.model.specs.Word.{none_word, of_word, unasked, word}
use Rattle.model.proofs.Word.{of_word-none, of_word-word}
use Rattle.model.proofs.Ends.{listed-is}
use Rattle.model.specs.Use.{pair_in}
use Rattle.network.specs.Width.{Fits, fit, fit_is, fit-min, fit-of_word, fit-out, fit_word, fits, fits_in, fits_out}
use Rattle.network.specs.Bodies.{map_in}
use Rattle.pairs_records.specs.Holds.{Holds, Ranked, down-small, order-rank, prepared-holds, ranked}
use Rattle.pairs_records.specs.Words.{down_in, high_in, low_in}
use Rattle.pairs_descents.specs.Downs.{Descended, Descending, Handed, higher_in, lower_in}

-- ---- sums

-- what does not fit adds nothing
fit-sum : (x y : Total) → fit (x ⊕ fit y) ≡ fit (x ⊕ y)
fit-sum none y = refl
fit-sum (some a) none = refl
fit-sum (some a) (some b) = go (fits b)
  where
    go : Fits b → fit (some a ⊕ fit (some b)) ≡ fit (some a ⊕ some b)
    go (fits_in h e) = ap (λ (y : Total). fit (some a ⊕ y)) e
    go (fits_out h e) = ap (λ (y : Total). fit (some a ⊕ y)) e ∙ sym (fit-out (a + b) (omega arith))

-- a minimum's next step, on words of what fits
relaxed : {u w : ℕ} (v : ℕ) (x y z : Total) → u ≡ word (fit x) → of_word v ≡ y → w ≡ word (fit z)
    → min u (word (fit (of_word v ⊕ of_word w))) ≡ word (fit (x ⊓ (y ⊕ z)))
relaxed v x y z p q r =
    ap₂ min p (ap (λ (a : Total). word (fit a)) (ap₂ ◌⊕◌ q (ap of_word r ∙ fit-of_word z)) ∙ ap word (fit-sum y z)) ∙ fit-min x (y ⊕ z)

-- ---- one record more

take_next : (l : List Pair) (k : ℕ) → k < length l → take (suc k) l ≡ take k l ++ (pair_in l k ∷ [])
take_next [] k h = absurd (not-suc-le-zero h)
take_next (p ∷ l) zero h = refl
take_next (p ∷ l) (suc k) h = ap (λ (x : List Pair). p ∷ x) (take_next l k (omega arith))

module _ {M : Map} {n : ℕ} {order pairs times : List ℕ} {count : ℕ} (o : Holds M n order pairs times count) where
  -- ranks tell junctions apart
  same_rank : {v u : ℕ} → v < M.vertices → u < M.vertices → rank M v ≡ rank M u → v ≡ u
  same_rank {v} {u} lv lu e = sym (vertex_of_rank o.valid.orders v lv) ∙ ap M.order e ∙ vertex_of_rank o.valid.orders u lu

  -- a down time is below the marks
  down_time-small : {i u : ℕ} → i < count → (pair_in (pairs_of M) i).down_time ≡ some u → u < unasked
  down_time-small {i} {u} l e =
      let k = ranked o i l in
      let b = totals_fit o.vertices-high (ranked-down o.valid o.most (pair_in (pairs_of M) i).low (pair_in (pairs_of M) i).high
      k.below (sym k.down_is ∙ e)) in
      omega (arith, b)

  -- the totals that the records below k have made
  made : ℕ → ℕ → ℕ → Total
  made t k = pass hand (take k (pairs_of M)) (seed (rank M t))

  made-next : (t k h : ℕ) → k < count → made t (suc k) h ≡ hand (pair_in (pairs_of M) k) (made t k) h
  unfolding made
  made-next t k h l =
      ap (λ (x : List Pair). pass hand x (seed (rank M t)) h) (take_next (pairs_of M) k (omega (arith, l, o.count-is)))
      ∙ ap (λ (g : ℕ → Total). g h) (pass-append hand (take k (pairs_of M)) (pair_in (pairs_of M) k ∷ []) (seed (rank M t)))

  start-at : {t v : ℕ} {d : List ℕ} → t < M.vertices → d ≡ replicate n none_word → v < M.vertices
      → get_or (set d t 0) v 0 ≡ word (fit (seed (rank M t) (rank M v)))
  start-at {t} {v} {d} lt e lv = go (ℕ_discrete v t)
    where
      long : t < length d
      long = omega (arith, lt, o.vertices_are, ap length e, length-replicate n none_word)

      go : Dec (v ≡ t) → get_or (set d t 0) v 0 ≡ word (fit (seed (rank M t) (rank M v)))
      go (yes q) =
          ap (λ (x : ℕ). get_or (set d t 0) x 0) q ∙ get_or-set_same d t 0 0 long
          ∙ sym (ap (λ (x : Total). word (fit x)) (cond_yes (eqb (rank M v) (rank M t)) (some 0) none
          (eq-eqb (rank M v) (rank M t) (ap (rank M) q))))
      go (no q) =
          get_or-set_other d t v 0 0 q ∙ ap (λ (x : List ℕ). get_or x v 0) e
          ∙ get_or-replicate n v none_word 0 (omega (arith, lv, o.vertices_are))
          ∙ sym (ap (λ (x : Total). word (fit x)) (cond_no (eqb (rank M v) (rank M t)) (some 0) none
          (ne_eqb (rank M v) (rank M t) (λ z. q (same_rank lv lt z)))))

  -- record k: its pair p, its lower junction a and its higher one b
  module _ {k : ℕ} (l : k < count) where
    abbrev p : Pair
    p = pair_in (pairs_of M) k

    abbrev a : ℕ
    a = lower_in order pairs k

    abbrev b : ℕ
    b = higher_in order pairs k

    rk : Ranked M k p.low p.high
    rk = ranked o k l

    low-is : low_in pairs k ≡ p.low
    low-is = (o.records k l).low

    high_is : high_in pairs k ≡ p.high
    high_is = (o.records k l).high

    low_below : low_in pairs k < M.vertices
    low_below = omega (arith, low-is, rk.rises, rk.below)

    high-below : high_in pairs k < M.vertices
    high-below = omega (arith, high_is, rk.below)

    a-is : a ≡ M.order (low_in pairs k)
    a-is = o.junction (low_in pairs k) low_below

    b-is : b ≡ M.order (high_in pairs k)
    b-is = o.junction (high_in pairs k) high-below

    a-below : a < M.vertices
    a-below = omega (arith, a-is, o.valid.orders.below (low_in pairs k) low_below)

    b-below : b < M.vertices
    b-below = omega (arith, b-is, o.valid.orders.below (high_in pairs k) high-below)

    a-rank : rank M a ≡ p.low
    a-rank = ap (rank M) a-is ∙ order-rank o (low_in pairs k) low_below ∙ low-is

    b-rank : rank M b ≡ p.high
    b-rank = ap (rank M) b-is ∙ order-rank o (high_in pairs k) high-below ∙ high_is

    time-is : of_word (down_in times k) ≡ p.down_time
    time-is = ap of_word (o.records k l).downs
        ∙ of_word-word p.down_time (λ u q. let small = down_time-small l q in omega (arith, small))

    -- it hands down
    module _ (t : ℕ) {d z : List ℕ} (len : length d ≡ n)
        (old : (v : ℕ) → v < M.vertices → get_or d v 0 ≡ word (fit (made t k (rank M v)))) (s : Handed n order pairs times k d z) where
      abbrev x : ℕ
      x = min (get_or d b 0) (word (fit (of_word (down_in times k) ⊕ of_word (get_or d a 0))))

      z-is : z ≡ set d b x
      z-is = s.exact (omega (arith, low_below, o.vertices_are)) (omega (arith, high-below, o.vertices_are)) (omega (
        arith,
        a-below,
        o.vertices_are,
      )) (omega (arith, b-below, o.vertices_are)) (rw (old b b-below) (fit_word (made t k (rank M b))))

      turn_at : (v : ℕ) → v < M.vertices → get_or z v 0 ≡ word (fit (made t (suc k) (rank M v)))
      turn_at v lv = ap (λ (y : List ℕ). get_or y v 0) z-is ∙ go (ℕ_discrete v b)
          ∙ sym (ap (λ (y : Total). word (fit y)) (made-next t k (rank M v) l))
        where
          -- at the higher junction: the total that is handed down
          handed-on : get_or (set d b x) b 0 ≡ word (fit (made t k (rank M b) ⊓ (p.down_time ⊕ made t k p.low)))
          handed-on =
              get_or-set_same d b x 0 (omega (arith, b-below, o.vertices_are, len))
              ∙ relaxed (down_in times k) (made t k (rank M b)) p.down_time (made t k (rank M a)) (old b b-below) time-is (old a a-below)
              ∙ ap (λ (y : ℕ). word (fit (made t k (rank M b) ⊓ (p.down_time ⊕ made t k y)))) a-rank

          go : Dec (v ≡ b) → get_or (set d b x) v 0 ≡ word (fit (hand p (made t k) (rank M v)))
          go (yes q) =
              ap (λ (y : ℕ). get_or (set d b x) y 0) q ∙ handed-on
              ∙ ap (λ (y : ℕ). word (fit (made t k (rank M y) ⊓ (p.down_time ⊕ made t k p.low)))) (sym q)
              ∙ sym (ap (λ (y : Total). word (fit y)) (cond_yes (eqb (rank M v) p.high)
              (made t k (rank M v) ⊓ (p.down_time ⊕ made t k p.low)) (made t k (rank M v))
              (eq-eqb (rank M v) p.high (ap (rank M) q ∙ b-rank))))
          go (no q) =
              get_or-set_other d b v x 0 q ∙ old v lv
              ∙ sym (ap (λ (y : Total). word (fit y)) (cond_no (eqb (rank M v) p.high)
              (made t k (rank M v) ⊓ (p.down_time ⊕ made t k p.low)) (made t k (rank M v))
              (ne_eqb (rank M v) p.high (λ e. q (same_rank lv b-below (e ∙ sym b-rank))))))

  -- all records have handed theirs down
  end-at : {k v x : ℕ} (t : ℕ) → count ≤ k → v < M.vertices → x ≡ word (fit (made t k (rank M v))) → x ≡ word (down_total_of M t v)
  unfolding made
  end-at {k} {v} t ck lv e =
      let r = rank_below o.valid.orders v lv in
      e ∙ ap (λ (x : List Pair). word (fit (pass hand x (seed (rank M t)) (rank M v)))) (take_all k (pairs_of M) (omega (
        arith,
        ck,
        o.count-is,
      )))
      ∙ ap (λ (x : Total). word (fit x)) (hand-all (weights M) M.vertices (rank M t) (rank M v) r)
      ∙ ap word (fit_is (down_total_of M t v) (λ u q. down-small o t (rank M v) u r q))

-- ---- the pass

module _ {n count t : ℕ} {order pairs times : List ℕ} where
  pub descend_start : {m x : ℕ} {d : List ℕ} → t < n → m ≡ n → d ≡ replicate m none_word → x ≡ 0
      → Descending n order pairs times count t 0 (set d t x)
  unfolding made
  descend_start {d = d} l k e q = record {
    exact = λ M o v lv. ap (λ (y : ℕ). get_or (set d t y) v 0) q
        ∙ start-at o (omega (arith, l, o.vertices_are)) (e ∙ ap (λ (y : ℕ). replicate y none_word) k) lv;
  }

  pub descend_turn : {k : ℕ} {d z : List ℕ} → k < count → length d ≡ n → Descending n order pairs times count t k d
      → Handed n order pairs times k d z → Descending n order pairs times count t (k + 1) z
  unfolding made
  descend_turn {k} {d} {z} l len w s = record {
    exact = λ M o v lv.
        subst (λ (y : ℕ). get_or z v 0 ≡ word (fit (pass hand (take y (pairs_of M)) (seed (rank M t)) (rank M v)))) (sym (add-one k))
        (turn_at o l t len (w.exact M o) s v lv);
  }

  pub descend_end : {k : ℕ} {d : List ℕ} → count ≤ k → length d ≡ n → length order ≡ 4 * n → Descending n order pairs times count t k d
      → Descended order pairs times count d t
  unfolding made
  descend_end {d = d} ck len lo w = record {
    exact = λ roads ranks p.
        let o = prepared-holds p n lo in
        listed-is (map_in roads order).vertices (λ v. word (down_total_of (map_in roads order) t v)) d (len ∙ sym o.vertices_are)
        (λ v lv. end-at o t ck lv (w.exact (map_in roads order) o v lv));
  }

-- ---- one record on any contents; a is its lower junction, b the higher one

-- the junction at a rank that was read
pub junction-at : {r s j : ℕ} (order : List ℕ) → r ≡ s → j ≡ word_at order (4 * r) → j ≡ word_at order (4 * s)
junction-at order e g = rw e at g

module _ {n i : ℕ} {order pairs times d : List ℕ} where
  -- a lower junction without a total has nothing to hand down
  pub no-rest : {a rest : ℕ} → a ≡ lower_in order pairs i → rest ≡ get_or d a 0 → rest ≡ none_word → Handed n order pairs times i d d
  no-rest {a} {rest} ea er en =
      let q : get_or d (lower_in order pairs i) 0 ≡ none_word = sym (er ∙ ap (λ (j : ℕ). get_or d j 0) ea) ∙ en in
      record { exact = λ l h lr hr w. sym (ap (set d (higher_in order pairs i)) (kept q w) ∙ set-get_or d (higher_in order pairs i) 0) }
    where
      kept : get_or d (lower_in order pairs i) 0 ≡ none_word → get_or d (higher_in order pairs i) 0 ≤ none_word
          → min (get_or d (higher_in order pairs i) 0)
          (word (fit (of_word (down_in times i) ⊕ of_word (get_or d (lower_in order pairs i) 0))))
          ≡ get_or d (higher_in order pairs i) 0
      kept q w = rw (q, of_word-none, ⊕-none) (omega arith)
