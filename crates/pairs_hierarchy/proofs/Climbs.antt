-- The ways in which the walk and the estimate of a rank meet their contracts. On a map that the areas hold, each record that the walk meets
-- adds to the least over the records so far (`Risen`); on any contents what is filled stays.
use mathlib.Core.Path.{◌∙◌, ◌≡◌, ap, ap₂, refl, subst, sym}
use mathlib.Core.Logic.{◌⊎◌, inl, inr}
use mathlib.Core.Bool.{Bool, false, true}
use mathlib.Core.Option.{none, some}
use mathlib.Core.List.{List}
use Prim.Native.Nat.{◌*◌, ◌+◌, ◌<◌, ◌≤◌, min, suc, ℕ}
use borrow.Author.Tests.{eqb-false, eqb-true, le-ltb, lt-ltb}
use lib.Dec.{eqb}
use lib.ListN.{get_or, length, length-set, set}
use lib.Seq.{get_or-set_other, get_or-set_same}
use native.Mathlib.Decide.{dec_lt, ℕ_discrete}
use native.Mathlib.Numerals.{add-one}
use native.Mathlib.Omega.{arith}
use Rattle.graph.specs.Total.{Total, ◌⊓◌, ◌⊕◌, Tested}
use Rattle.graph.proofs.Total.{none-some, true_false, decide, ⊓-assoc, ⊓-none}
use Rattle.graph.specs.Least.{min_below}
use Rattle.graph.proofs.Least.{min_below-none, min_below-skip}
use Rattle.graph.specs.Pairs.{up}
use Rattle.graph.specs.Records.{Pair}
use Rattle.graph.specs.Reach.{reaches}
use Rattle.graph.proofs.Reach.{reaches-path}
use Rattle.graph.proofs.Ranks.{rank_below, vertex_of_rank}
use Rattle.graph.specs.Map.{Map, down_total_of, estimate_of, rank, weights}
use Rattle.model.specs.Word.{none_word, of_word, unasked, word}
use Rattle.model.proofs.Word.{of_word-word}
use Rattle.model.specs.Bytes.{word_at}
use Rattle.model.specs.Estimate.{filled}
use Rattle.model.proofs.Laws.{kept_refl, kept_trans, listed_at}
use Rattle.model.specs.Good.{AimFacts, Filled}
use Rattle.model.proofs.Good.{filled-no, filled_yes}
use Rattle.model.proofs.Ends.{filled_is}
use Rattle.network.specs.Width.{fit, fit_is, fit-min}
use Rattle.pairs_hierarchy.specs.Estimates.{aim-filled}
use Rattle.pairs_hierarchy.specs.Walks.{AboveFilled, Climbed, Risen, Walked, above, down_at, estimate_at, least_below, over, pair_at}
use Rattle.pairs_hierarchy.specs.Walks.{standing}
use Rattle.pairs_hierarchy.specs.Lending.{KnownAsked, Lent, RankAsked}
use Rattle.pairs_records.specs.Holds.{Holds, Ranked, down-small, order-rank, ranked}
use Rattle.pairs_records.specs.Words.{Starts, answer, high_in, leads, low_in, up_in}
use Rattle.pairs_records.specs.Tests.{Leads, answer-asked, answer-other, leads-facts, leads_read}
use Rattle.pairs_hierarchy.proofs.Facts.{above-closed, above-here, above-link, ascending, climbs, estimate-small, idle}
use Rattle.pairs_hierarchy.proofs.Facts.{over-all, over-here, over-idle, over-other, placed, up_small}

-- ---- on a map that the order and the records hold, with a target

module _ {M : Map} {n : ℕ} {order pairs times : List ℕ} {count : ℕ} (o : Holds M n order pairs times count) where
  target-rank : {t : ℕ} {down e : List ℕ} → AimFacts M t down e → rank M t < M.vertices
  target-rank {t} a = rank_below o.valid.orders t a.below

  -- the number of an estimate is no mark
  not_unasked : {r x : ℕ} (t : ℕ) → rank M t < M.vertices → r < M.vertices → x ≡ word (estimate_at M t r) → x ≡ unasked → ⊥
  not_unasked {r} {x} t lt lr e q = go (estimate_at M t r) refl
    where
      go : (y : Total) → estimate_at M t r ≡ y → ⊥
      go none f = let z : x ≡ none_word = e ∙ ap word f in omega arith
      go (some u) f = let z : x ≡ u = e ∙ ap word f in let b = estimate-small o t lt lr f in omega arith

  -- the least over records that give none
  least-none : {r : ℕ} (t s : ℕ) → r < M.vertices → ((i : ℕ) → i < s → (pair_at M i).low ≡ r → ⊥)
      → word (fit (least_below M t r s)) ≡ word (down_at M t r)
  least-none {r} t s lr off =
      let none_yet = min_below-none s (over M t r) (λ i l. over-other o t r i (off i l)) in
      ap (λ (x : Total). word (fit x)) (ap (◌⊓◌ (down_at M t r)) none_yet ∙ ⊓-none (down_at M t r))
      ∙ ap word (fit_is (down_at M t r) (λ u q. down-small o t r u lr q))

  least-same : (t r k : ℕ) → over M t r k ≡ none → least_below M t r (suc k) ≡ least_below M t r k
  least-same t r k e = ap (◌⊓◌ (down_at M t r)) (ap (◌⊓◌ (min_below k (over M t r))) e ∙ ⊓-none (min_below k (over M t r)))

  module _ {t r : ℕ} {down e₀ : List ℕ} (lr : r < M.vertices) where
    -- no record of r is met yet
    risen_start : {own s : ℕ} → Starts pairs count r s → AimFacts M t down e₀ → own ≡ word (down_at M t r)
        → Risen M t r s down e₀ e₀ own
    risen_start {own} {s} st a d = record {
      best-is = d ∙ sym (least-none t s lr off);
      aims = a;
      reached = λ i c l q. absurd (off i l q);
      apart = λ v l q. refl;
    }
      where
        off : (i : ℕ) → i < s → (pair_at M i).low ≡ r → ⊥
        off i l q = let x = st.before (ascending o) i l in let y = (o.records i (omega (arith, st.bound))).low in omega arith

    module _ {k best : ℕ} {e : List ℕ} (w : Risen M t r k down e₀ e best) where
      -- a record that does not lead up gives none
      risen_skip : k < count → leads n r (low_in pairs k) (high_in pairs k) (up_in times k) ≡ false → Risen M t r (suc k) down e₀ e best
      risen_skip l f = record {
        best-is = w.best-is ∙ sym (ap (λ (x : Total). word (fit x)) (least-same t r k (over-idle o t r k l f)));
        aims = w.aims;
        reached = λ i c il q u. at i c (ℕ_discrete i k) il q u;
        apart = w.apart;
      }
        where
          at : (i c : ℕ) → Dec (i ≡ k) → i < suc k → (pair_at M i).low ≡ r → (pair_at M i).up_time ≡ some c
              → AboveFilled M t (pair_at M i).high e
          at i c (yes p) il q u = absurd (none-some (idle o {i = i} (omega arith) (rw (← p) at f) q) u)
          at i c (no p) il q u = w.reached i c (omega arith) q u

      -- one that does gives its up time plus the estimate of its high, and what is above that is filled
      risen_take : {v best' : ℕ} {z : List ℕ} → k < count → Leads n r (low_in pairs k) (high_in pairs k) (up_in times k)
          → Climbed n order pairs times count down e z (high_in pairs k) v
          → best' ≡ min best (word (fit (of_word (up_in times k) ⊕ of_word v))) → Risen M t r (suc k) down e₀ z best'
      risen_take {v} {best'} {z} l f c b = record {
        best-is = b ∙ ap₂ min w.best-is (ap (λ (y : Total). word (fit y)) sum)
            ∙ fit-min (least_below M t r k) (over M t r k)
            ∙ ap (λ (y : Total). word (fit y)) (⊓-assoc (down_at M t r) (min_below k (over M t r)) (over M t r k));
        aims = subst (AimFacts M t down) (sym z-is) (aim-filled M t (above M h) down e (above-closed M h) w.aims);
        reached = λ i c' il q u v' lv p. at i c' (ℕ_discrete i k) il q u v' lv p;
        apart = λ v' lv p. ap (λ (y : List ℕ). get_or y v' 0) z-is ∙ filled-no M t (above M h) e v' lv (below v' p (decide (above M h v')))
            ∙ w.apart v' lv p;
      }
        where
          h : ℕ
          h = (pair_at M k).high

          rk : Ranked M k (pair_at M k).low (pair_at M k).high
          rk = ranked o k l

          low-is : (pair_at M k).low ≡ r
          low-is = sym (o.records k l).low ∙ f.low-is

          there : up (weights M) r h ≡ (pair_at M k).up_time
          there = sym (rk.up_is ∙ ap (λ (y : ℕ). up (weights M) y h) low-is)

          ex : (v ≡ word (estimate_at M t h)) × (z ≡ filled M t (above M h) e)
          ex = (subst (λ (y : ℕ). Climbed n order pairs times count down e z y v) (o.records k l).high c).exact M o t w.aims

          z-is : z ≡ filled M t (above M h) e
          z-is = ex.1

          up_is : of_word (up_in times k) ≡ (pair_at M k).up_time
          up_is = ap of_word (o.records k l).ups ∙ of_word-word (pair_at M k).up_time (λ u q. let s = up_small o l q in omega arith)

          estimate-is : of_word v ≡ estimate_at M t h
          estimate-is = ap of_word ex.0 ∙ of_word-word (estimate_at M t h)
              (λ u q. let s = estimate-small o t (target-rank w.aims) rk.below q in omega arith)

          sum : of_word (up_in times k) ⊕ of_word v ≡ over M t r k
          sum = ap₂ ◌⊕◌ up_is estimate-is ∙ sym (over-here o t r k low-is)

          below : (v' : ℕ) → above M r v' ≡ false → Tested (above M h v') → above M h v' ≡ false
          below v' p (inr q) = q
          below v' p (inl q) = absurd (go (up (weights M) r h) refl)
            where
              go : (y : Total) → up (weights M) r h ≡ y → ⊥
              go none g = f.there ((o.records k l).ups ∙ ap word (sym there ∙ g))
              go (some c') g = true_false (above-link M r h c' v' g rk.below q) p

          at : (i c' : ℕ) → Dec (i ≡ k) → i < suc k → (pair_at M i).low ≡ r → (pair_at M i).up_time ≡ some c'
              → AboveFilled M t (pair_at M i).high z
          at i c' (yes p) il q u v' lv a = ap (λ (y : List ℕ). get_or y v' 0) z-is
              ∙ filled_yes M t (above M h) e v' lv (subst (λ (y : ℕ). above M (pair_at M y).high v' ≡ true) p a)
          at i c' (no p) il q u v' lv a =
              let d = w.reached i c' (omega arith) q u v' lv a in
              let b = rank_below o.valid.orders v' lv in
              c.kept.stays v' (λ g. not_unasked t (target-rank w.aims) b d g) ∙ d

      -- the records from k on are those of higher ranks
      risen_off : k ≤ count → ((i : ℕ) → k ≤ i → i < count → (pair_at M i).low ≡ r → ⊥) → Risen M t r count down e₀ e best
      risen_off kc off = record {
        best-is = w.best-is ∙ sym (ap (λ (x : Total). word (fit (down_at M t r ⊓ x)))
            (min_below-skip k count (over M t r) kc (λ i ki ic. over-other o t r i (off i ki ic))));
        aims = w.aims;
        reached = λ i c ic q u. at i c (dec_lt i k) ic q u;
        apart = w.apart;
      }
        where
          at : (i c : ℕ) → Dec (i < k) → i < count → (pair_at M i).low ≡ r → (pair_at M i).up_time ≡ some c
              → AboveFilled M t (pair_at M i).high e
          at i c (yes p) ic q u = w.reached i c p q u
          at i c (no p) ic q u = absurd (off i (omega arith) ic q)

    -- what is reached from r is r, or is reached over one of its records
    risen_all : {best : ℕ} {e : List ℕ} → Risen M t r count down e₀ e best → (v : ℕ) → v < M.vertices → above M r v ≡ true
        → (v ≡ M.order r) ⊎ (get_or e v 0 ≡ word (estimate_of M t v))
    risen_all {best} {e} w v lv p = go (climbs (weights M) M.vertices (reaches-path (weights M) M.vertices r (rank M v) p).1)
      where
        go : (r ≡ rank M v) ⊎ ((g c : ℕ) × (up (weights M) r g ≡ some c) × (g < M.vertices) ×
            (reaches (weights M) M.vertices g (rank M v) ≡ true))
            → (v ≡ M.order r) ⊎ (get_or e v 0 ≡ word (estimate_of M t v))
        go (inl q) = inl (sym (ap M.order q ∙ vertex_of_rank o.valid.orders v lv))
        go (inr (g, c, u, gn, q)) =
            let i = placed o r g c lr gn u in
            inr (w.reached i.0 c i.1 (ap (λ (y : Pair). y.low) i.2) (ap (λ (y : Pair). y.up_time) i.2 ∙ u) v lv
            (subst (λ (y : ℕ). above M y v ≡ true) (sym (ap (λ (y : Pair). y.high) i.2)) q))

-- ---- the walk

-- the words of record k as the walk reads them
pub record RecordRead (pairs times : List ℕ) (k low high up : ℕ) : Type 0 where
  pub low-is : low ≡ low_in pairs k
  pub high_is : high ≡ high_in pairs k
  pub up_is : up ≡ up_in times k

pub leads-taken : {n r low high up : ℕ} {b : Bool} → b ≡ leads n r low high up → b ≡ true → Leads n r low high up
leads-taken {n} {r} {low} {high} {up} e q = leads-facts n r low high up (sym e ∙ q)

-- a rank of the n is one of the map
on-map : {M : Map} {n r count : ℕ} {order pairs times : List ℕ} → Holds M n order pairs times count → r < n → r < M.vertices
on-map o lr = omega (arith, lr, o.vertices_are)

module _ {n : ℕ} {order pairs times : List ℕ} {count : ℕ} {down e₀ : List ℕ} {r own : ℕ} (lr : r < n) where
  pub walk_start : {s : ℕ} → Starts pairs count r s → Walked n order pairs times count down e₀ e₀ r own s own
  walk_start st = record { kept = kept_refl; exact = λ M o t a d. risen_start o (on-map o lr) st a d }

  module _ {k best : ℕ} {e : List ℕ} (w : Walked n order pairs times count down e₀ e r own k best) where
    -- a record that does not lead up
    pub walk_skip : {low high up : ℕ} → k < count → RecordRead pairs times k low high up → leads n r low high up ≡ false
        → Walked n order pairs times count down e₀ e r own (k + 1) best
    walk_skip {low} {high} {up} l rd f =
        let g = leads_read n r (low_in pairs k) (high_in pairs k) (up_in times k) low high up false (sym f) rd.low-is rd.high_is
        rd.up_is in
        record {
          kept = w.kept;
          exact = λ M o t a d.
              subst (λ (y : ℕ). Risen M t r y down e₀ e best) (sym (add-one k)) (risen_skip o (on-map o lr) (w.exact M o t a d) l g);
        }

    -- one that does, with the estimate v of its high
    pub walk_take : {low high up v best' : ℕ} {z : List ℕ} → k < count → RecordRead pairs times k low high up → Leads n r low high up
        → Climbed n order pairs times count down e z high v → best' ≡ min best (word (fit (of_word up ⊕ of_word v)))
        → Walked n order pairs times count down e₀ z r own (k + 1) best'
    walk_take {v = v} {best'} {z} l rd f c b = record {
      kept = kept_trans w.kept c.kept;
      exact = λ M o t a d.
          let f' = rw (rd.low-is, rd.high_is, rd.up_is) at f in
          let c' = rw rd.high_is at c in
          let b' = rw rd.up_is at b in
          subst (λ (y : ℕ). Risen M t r y down e₀ z best') (sym (add-one k)) (risen_take o (on-map o lr) (w.exact M o t a d) l f' c' b');
    }

    walk_off : k ≤ count → ((M : Map) → Holds M n order pairs times count → (i : ℕ) → k ≤ i → i < count → (pair_at M i).low ≡ r → ⊥)
        → Walked n order pairs times count down e₀ e r own count best
    walk_off kc off = record {
      kept = w.kept;
      exact = λ M o t a d. risen_off o (on-map o lr) (w.exact M o t a d) kc (off M o);
    }

    -- the first record of a higher rank
    pub walk_stop : {low : ℕ} → k < count → low ≡ low_in pairs k → r < low → Walked n order pairs times count down e₀ e r own count best
    walk_stop {low} l q h = walk_off (omega arith) (λ M o i ki ic p. let x = ascending o k i ki ic in
        let y = (o.records i ic).low in omega (arith, x, y, p))

    pub walk_end : k ≤ count → count ≤ k → Walked n order pairs times count down e₀ e r own count best
    walk_end l h = walk_off l (λ M o i ki ic p. omega arith)

-- ---- the estimate of a rank; i is the junction that the order has there

module _ {n : ℕ} {order pairs times : List ℕ} {count r i : ℕ} (lr : r < n) (i-is : i ≡ word_at order (4 * r)) where
  vertex : {M : Map} → Holds M n order pairs times count → i ≡ M.order r
  vertex o = i-is ∙ o.junction r (on-map o lr)

  ranks : {M : Map} (o : Holds M n order pairs times count) → rank M i ≡ r
  ranks {M} o = ap (rank M) (vertex o) ∙ order-rank o r (on-map o lr)

  vertices : {M : Map} (o : Holds M n order pairs times count) → i < M.vertices
  vertices o = let x = vertex o in let y = o.valid.orders.below r (on-map o lr) in omega (arith, x, y)

  module _ {down e : List ℕ} where
    -- a rank without a junction: this is no order
    pub astray : n ≤ i → Climbed n order pairs times count down e e r none_word
    astray h = record {
      kept = kept_refl;
      stored = λ l. absurd (omega arith);
      answered = λ q. omega arith;
      exact = λ M o t a. absurd (omega (arith, vertices o, o.vertices_are));
    }

    -- an entry that is filled is the answer
    pub known : {v : ℕ} → v ≡ get_or e i 0 → length e ≡ n → (v ≡ unasked → ⊥) → Climbed n order pairs times count down e e r v
    known {v} q len h = record {
      kept = kept_refl;
      stored = λ l. sym (q ∙ ap (λ (y : ℕ). get_or e y 0) i-is);
      answered = h;
      exact = λ M o t a.
          let f = full M t o (a.entries i (vertices o)) in (
            q ∙ f i (vertices o) (above-here M r i (ranks o)) ∙ ap (λ (y : ℕ). word (estimate_at M t y)) (ranks o),
            filled_is M t (above M r) e e (omega (arith, len, o.vertices_are)) (λ u lu p. f u lu p) (λ u lu p. refl),
          );
    }
      where
        full : (M : Map) (t : ℕ) (o : Holds M n order pairs times count) → (get_or e i 0 ≡ unasked) ⊎ Filled M t e i
            → AboveFilled M t r e
        full M t o (inl z) = absurd (h (q ∙ z))
        full M t o (inr f) = λ u lu p. f u lu (subst (λ (y : ℕ). reaches (weights M) M.vertices y (rank M u) ≡ true) (sym (ranks o)) p)

    -- an entry that is unasked is filled by the walk's answer
    pub computed : {own best v x : ℕ} {z : List ℕ} → get_or e i 0 ≡ unasked → length z ≡ n → own ≡ get_or down i 0
        → Walked n order pairs times count down e z r own count best → v ≡ answer best → x ≡ v
        → Climbed n order pairs times count down e (set z i x) r v
    computed {own} {best} {v} {x} {z} h len d w b xv = rw xv (record {
      kept = record { stays = λ j q. get_or-set_other z i j v 0 (λ p. q (ap (λ (y : ℕ). get_or e y 0) p ∙ h)) ∙ w.kept.stays j q };
      stored = λ l. ap (λ (y : ℕ). get_or (set z i v) y 0) (sym i-is) ∙ get_or-set_same z i v 0 (omega (arith, l, i-is, len));
      answered = λ q. answer-asked best (sym b ∙ q);
      exact = λ M o t a. right M o t a;
    })
      where
        right : (M : Map) → Holds M n order pairs times count → (t : ℕ) → AimFacts M t down e → (v ≡ word (estimate_at M t r))
            × (set z i v ≡ filled M t (above M r) e)
        right M o t a = (
          v-is,
          filled_is M t (above M r) e (set z i v) (length-set z i v ∙ len ∙ sym o.vertices_are) (λ u lu p. reach u lu p (ℕ_discrete u i))
              (λ u lu p. apart u lu p),
        )
          where
            rv : r < M.vertices
            rv = on-map o lr

            own_is : own ≡ word (down_at M t r)
            own_is =
                d ∙ ap (λ (y : List ℕ). get_or y i 0) a.downs ∙ listed_at M.vertices (λ v. word (down_total_of M t v)) i (vertices o)
                ∙ ap (λ (y : ℕ). word (down_at M t y)) (ranks o)

            s : Risen M t r count down e z best
            s = w.exact M o t a own_is

            best-is : best ≡ word (estimate_at M t r)
            best-is = s.best-is ∙ over-all o t r (target-rank o a) rv

            v-is : v ≡ word (estimate_at M t r)
            v-is = b ∙ sym (answer-other best (not_unasked o t (target-rank o a) rv best-is)) ∙ best-is

            here : (u : ℕ) → u ≡ i → get_or (set z i v) u 0 ≡ word (estimate_of M t u)
            here u q =
                ap (λ (y : ℕ). get_or (set z i v) y 0) q ∙ get_or-set_same z i v 0 (omega (arith, vertices o, o.vertices_are, len)) ∙ v-is
                ∙ sym (ap (λ (y : ℕ). word (estimate_at M t y)) (ap (rank M) q ∙ ranks o))

            reach : (u : ℕ) → u < M.vertices → above M r u ≡ true → Dec (u ≡ i) → get_or (set z i v) u 0 ≡ word (estimate_of M t u)
            reach u lu p (yes q) = here u q
            reach u lu p (no q) = get_or-set_other z i u v 0 q ∙ go (risen_all o rv s u lu p)
              where
                go : (u ≡ M.order r) ⊎ (get_or z u 0 ≡ word (estimate_of M t u)) → get_or z u 0 ≡ word (estimate_of M t u)
                go (inl x) = absurd (q (x ∙ sym (vertex o)))
                go (inr x) = x

            apart : (u : ℕ) → u < M.vertices → above M r u ≡ false → get_or (set z i v) u 0 ≡ get_or e u 0
            apart u lu p = get_or-set_other z i u v 0 (λ q. true_false (above-here M r u (ap (rank M) q ∙ ranks o)) p) ∙ s.apart u lu p

-- ---- what stands for a rank; i is its junction

-- at another rank h, with other estimates e, the same may be asked
module _ {n count r h : ℕ} {a : Lent} {e : List ℕ} (asked : RankAsked n count r a) (hn : h < n) (len : length e ≡ n) where
  pub known-at : KnownAsked n h a.order e
  known-at = record { rank_in = hn; n-high = asked.n-high; order_is = asked.order_is; estimates_are = len }

  pub rank-at : RankAsked n count h (record a { estimates = e })
  rank-at = record {
    rank_in = hn;
    n-high = asked.n-high;
    order_is = asked.order_is;
    down_is = asked.down_is;
    estimates_are = len;
    records_in = asked.records_in;
    times_in = asked.times_in;
    count-high = asked.count-high;
  }

pub known-asked : {n count r : ℕ} {a : Lent} → RankAsked n count r a → KnownAsked n r a.order a.estimates
known-asked asked = known-at asked asked.rank_in asked.estimates_are

module _ {n r i : ℕ} {order e : List ℕ} (asked : KnownAsked n r order e) (i-is : i ≡ word_at order (4 * r)) where
  pub standing-none : n ≤ i → none_word ≡ standing n order e r
  unfolding standing
  standing-none h = rw (le-ltb (word_at order (4 * r)) n (omega (arith, h, i-is)))

  pub standing-entry : {v : ℕ} → i < n → v ≡ get_or e i 0 → v ≡ standing n order e r
  unfolding standing
  standing-entry h q = q ∙ ap (λ (y : ℕ). get_or e y 0) i-is ∙ rw (lt-ltb (word_at order (4 * r)) n (omega (arith, h, i-is)))

  -- where it is unasked, as a test b says, there is a junction, and its entry is unasked
  pub unasked-entry : {v : ℕ} {b : Bool} → v ≡ standing n order e r → b ≡ eqb v unasked → b ≡ true → (i < n) × (get_or e i 0 ≡ unasked)
  unasked-entry {v} v-is b-is b-true = go (dec_lt i n)
    where
      u : standing n order e r ≡ unasked
      u = sym v-is ∙ eqb-true v unasked (sym b-is ∙ b-true)

      go : Dec (i < n) → (i < n) × (get_or e i 0 ≡ unasked)
      go (yes h) = (h, standing-entry h refl ∙ u)
      go (no h) = let z = standing-none (omega (arith, h)) in absurd (omega (arith, z, u))

-- where it is not unasked, it is the answer
pub stands : {n r v count : ℕ} {b : Bool} {order pairs times down e : List ℕ} → KnownAsked n r order e → v ≡ standing n order e r
    → b ≡ eqb v unasked → b ≡ false → Climbed n order pairs times count down e e r v
stands {n} {r} {v} {count} {b} {order} {pairs} {times} {down} {e} asked q b-is b-false = go (dec_lt (word_at order (4 * r)) n)
  where
    h : v ≡ unasked → ⊥
    h = eqb-false v unasked (sym b-is ∙ b-false)

    go : Dec (word_at order (4 * r) < n) → Climbed n order pairs times count down e e r v
    go (yes l) = known asked.rank_in refl (q ∙ sym (standing-entry asked refl l refl)) asked.estimates_are h
    go (no l) =
        let z : n ≤ word_at order (4 * r) = omega (arith, l) in
        subst (λ (y : ℕ). Climbed n order pairs times count down e e r y) (standing-none asked refl z ∙ sym q)
        (astray asked.rank_in refl z)
