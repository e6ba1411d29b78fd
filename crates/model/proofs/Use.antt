-- What the proofs of the code take from a good state: the entries of the areas, by place. Assumes nothing.
use Rattle.std.proofs.Common.{◌∙◌, ap, subst₂, sym, ne_eqb, not-suc-le-zero, arith}
use Rattle.std.specs.Prelude.{◌≡◌, refl, ◌⊎◌, ◌*◌, ◌+◌, ◌<◌, ◌≤◌, suc, zero, ℕ, length}
use Rattle.std.proofs.Math.Logic.{inl, inr}
use Rattle.std.proofs.Math.Bool.{true}
use Rattle.std.proofs.Math.Option.{some}
use mathlib.Core.List.{List, Memᴰ, [], ◌++◌, ◌∷◌}
use Rattle.std.proofs.Math.ListN.{get_or}
use Rattle.std.proofs.Math.Decide.{ℕ_discrete}
use Rattle.graph.proofs.Ranks.{rank_below}
use Rattle.graph.specs.Pairs.{down, up}
use Rattle.graph.specs.Records.{Kept, Pair}
use Rattle.graph.proofs.Records.{rows_member}
use Rattle.graph.proofs.Rows.{ranked-down, ranked-down_total, ranked-up}
use Rattle.graph.specs.Map.{down_total_of, estimate_of, pairs_of, rank, weights}
use Rattle.graph.proofs.Map.{estimate_of-bound}
use Rattle.model.proofs.LimitLaws.{totals_fit}
use Rattle.model.specs.Word.{none_word, of_word, unasked, word}
use Rattle.model.specs.Limits.{most_time, most_total}
use Rattle.model.specs.Card.{map_on, rows_of}
use Rattle.model.specs.Areas.{rank_words, time_words}
use Rattle.model.specs.State.{State}
use Rattle.model.specs.Set.{settable}
use Rattle.model.proofs.Laws.{listed_at}
use Rattle.model.proofs.Accept.{card-facts}
use Rattle.model.specs.Good.{AimFacts, Filled, Good}
use Rattle.model.proofs.Good.{fills_self, settable-most, settable_slower}
use Rattle.model.specs.Use.{pair_in, RecordAt}

-- behind another record
pub record_later : {pairs times : List ℕ} {i : ℕ} {p : Pair} (a b c d : ℕ) → RecordAt pairs times i p
    → RecordAt (a ∷ b ∷ pairs) (c ∷ d ∷ times) (suc i) p
record_later {i = i} a b c d r =
    let e0 : 2 * suc i ≡ suc (suc (2 * i)) = omega arith in
    let e1 : 2 * suc i + 1 ≡ suc (suc (2 * i + 1)) = omega arith in
    record { low = rw e0 r.low; high = rw e1 r.high; ups = rw e0 r.ups; downs = rw e1 r.downs }

pub words-at : (l : List Pair) (rest more : List ℕ) (i : ℕ) → i < length l
    → RecordAt (rank_words l ++ rest) (time_words l ++ more) i (pair_in l i)
words-at [] rest more i h = absurd (not-suc-le-zero h)
words-at (p ∷ l) rest more zero h = record { low = refl; high = refl; ups = refl; downs = refl }
words-at (p ∷ l) rest more (suc i) h =
    record_later p.low p.high (word p.up_time) (word p.down_time) (words-at l rest more i (omega arith))

pub pair_in-mem : (l : List Pair) (i : ℕ) → i < length l → Memᴰ (pair_in l i) l
pair_in-mem [] i h = absurd (not-suc-le-zero h)
pair_in-mem (p ∷ l) zero h = Memᴰ.head refl
pair_in-mem (p ∷ l) (suc i) h = Memᴰ.tail (pair_in-mem l i (omega arith))

-- ---- a good state

module _ {card : List ℕ} {s : State} (g : Good card s) where
  pub rank-at : (j : ℕ) → j < (map_on card).vertices → get_or s.areas.built.ranks j 0 ≡ rank (map_on card) j
  rank-at j l = ap (λ (x : List ℕ). get_or x j 0) g.ranks_are ∙ listed_at (map_on card).vertices (rank (map_on card)) j l

  pub record_at : (i : ℕ) → i < s.header.pairs
      → RecordAt s.areas.built.pairs s.areas.built.times i (pair_in (pairs_of (map_on card)) i)
  record_at i l =
      subst₂ (λ (x : List ℕ) (y : List ℕ). RecordAt x y i (pair_in (pairs_of (map_on card)) i)) (sym g.pairs_are) (sym g.times_are)
      (words-at (pairs_of (map_on card)) _ _ i (omega (arith, l, g.pairs_is)))

  -- a live time is closed, or from the base time to the largest one
  pub live_at : (i : ℕ) → i < (map_on card).base.arcs
      → (get_or s.areas.live i 0 ≡ none_word)
      ⊎ ((get_or (rows_of card).roads (3 * i + 2) 0 ≤ get_or s.areas.live i 0) × (get_or s.areas.live i 0 ≤ most_time))
  unfolding of_word
  live_at i l = go (ℕ_discrete (get_or s.areas.live i 0) none_word) (g.times i l)
    where
      go : Dec (get_or s.areas.live i 0 ≡ none_word) → settable ((map_on card).base.cost i) (of_word (get_or s.areas.live i 0)) ≡ true
          → (get_or s.areas.live i 0 ≡ none_word)
          ⊎ ((get_or (rows_of card).roads (3 * i + 2) 0 ≤ get_or s.areas.live i 0) × (get_or s.areas.live i 0 ≤ most_time))
      go (yes e) h = inl e
      go (no e) h =
          let base = (map_on card).base.cost i in
          let t = get_or s.areas.live i 0 in
          let k : settable base (some t) ≡ true = rw (ne_eqb (get_or s.areas.live i 0) none_word e) at h in
          inr (settable_slower base (some t) k, settable-most base t k)

  -- a target's down totals and estimates, from the facts that `g.aims` computes to
  module _ (z : ℕ) (a : AimFacts (map_on card) z s.areas.aimed.down s.areas.aimed.estimates) where
    pub down-at : (v : ℕ) → v < (map_on card).vertices → get_or s.areas.aimed.down v 0 ≡ word (down_total_of (map_on card) z v)
    down-at v l =
        ap (λ (x : List ℕ). get_or x v 0) a.downs ∙ listed_at (map_on card).vertices (λ v. word (down_total_of (map_on card) z v)) v l

    -- an estimate that is not unasked is right, and so are all reached from it
    pub estimate-known : (v : ℕ) → v < (map_on card).vertices → (get_or s.areas.aimed.estimates v 0 ≡ unasked → ⊥)
        → Filled (map_on card) z s.areas.aimed.estimates v
    estimate-known v l ne = go (a.entries v l)
      where
        go : (get_or s.areas.aimed.estimates v 0 ≡ unasked) ⊎ Filled (map_on card) z s.areas.aimed.estimates v
            → Filled (map_on card) z s.areas.aimed.estimates v
        go (inl e) = absurd (ne e)
        go (inr f) = f

    pub estimate-at : (v : ℕ) → v < (map_on card).vertices → (get_or s.areas.aimed.estimates v 0 ≡ unasked → ⊥)
        → get_or s.areas.aimed.estimates v 0 ≡ word (estimate_of (map_on card) z v)
    estimate-at v l ne = estimate-known v l ne v l (fills_self (map_on card) v)

  -- every number fits below the marks
  pub estimate-small : (z v u : ℕ) → z < (map_on card).vertices → v < (map_on card).vertices → estimate_of (map_on card) z v ≡ some u
      → u ≤ most_total
  estimate-small z v u lz lv e =
      let c = card-facts card g.accepted in
      totals_fit c.vertices-high (estimate_of-bound c.valid z lz c.most v lv e)

  pub down-small : (z v u : ℕ) → v < (map_on card).vertices → down_total_of (map_on card) z v ≡ some u → u ≤ most_total
  down-small z v u lv e =
      let c = card-facts card g.accepted in
      let below = rank_below c.valid.orders v lv in
      totals_fit c.vertices-high (ranked-down_total c.valid c.most (rank (map_on card) z) (rank (map_on card) v) below e)

  -- a record's ranks and times are those of a kept pair: low below high below n
  pub record_kept : (i : ℕ) → i < s.header.pairs
      → Kept (weights (map_on card)) (map_on card).vertices (map_on card).vertices (pair_in (pairs_of (map_on card)) i)
  record_kept i l =
      let listed = pair_in-mem (pairs_of (map_on card)) i (omega (arith, l, g.pairs_is)) in
      rows_member (weights (map_on card)) (map_on card).vertices (map_on card).vertices listed

  module _ (low high u : ℕ) where
    pub up_small : low < (map_on card).vertices → up (weights (map_on card)) low high ≡ some u → u ≤ most_total
    up_small l e =
        let c = card-facts card g.accepted in
        totals_fit c.vertices-high (ranked-up c.valid c.most low high l e)

    pub down_time-small : high < (map_on card).vertices → down (weights (map_on card)) low high ≡ some u → u ≤ most_total
    down_time-small l e =
        let c = card-facts card g.accepted in
        totals_fit c.vertices-high (ranked-down c.valid c.most low high l e)
