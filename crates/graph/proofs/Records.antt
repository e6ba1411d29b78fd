-- The pairs that are kept, ascending by low and then by high; minima over them: a pair
-- that is not kept adds nothing; and the place of each in the list. Assumes nothing.
use Rattle.std.proofs.Common.{◌∙◌, ap, ap₂, sym, inl, inr, append_assoc, append-nil, eq-eqb, ne_eqb, length-append, get_or-append-add}
use Rattle.std.proofs.Common.{take-suc, le_refl, not-suc-le-zero, arith}
use Rattle.std.specs.Prelude.{◌≡◌, refl, ◌⊎◌, Bool, cond, false, true, [], ◌++◌, ◌∷◌, ◌+◌, ◌-◌, ◌<◌, ◌≤◌, suc, zero, ℕ, eqb, get_or, length}
use Rattle.std.specs.Prelude.{take}
use Rattle.std.proofs.Math.Option.{none, some}
use mathlib.Core.List.Memᴰ
use mathlib.Core.List.{List, Memᴰ}
use Rattle.std.proofs.Math.ListN.{get_or-append, get_or-eq_default}
use Rattle.std.proofs.Math.Seq.{get_or-append_seam}
use Rattle.std.proofs.lemmas.List.{get_or_at}
use Rattle.std.proofs.Math.Decide.{dec_lt}
use Rattle.graph.specs.Total.{Tested, Total, ◌⊓◌, ◌⊕◌}
use Rattle.graph.proofs.Total.{cond_no, cond_same, cond_yes, decide, true_false, ⊓-assoc, ⊓-none}
use Rattle.graph.specs.Least.{min_below}
use Rattle.graph.proofs.Least.{min_below_cong, min_below-only}
use Rattle.graph.specs.Path.{Weights}
use Rattle.graph.specs.Pairs.{down, up}
use Rattle.graph.proofs.Pairs.{down_lt, down-none, up_lt, up_none}
use Rattle.graph.specs.Records.{Pair, pair_of, exists, keep, row, rows, min_over, Blank, Kept, Begins, edge}

pub min_over-append : (g : Pair → Total) (l m : List Pair) → min_over g (l ++ m) ≡ min_over g l ⊓ min_over g m
min_over-append g [] m = refl
min_over-append g (p ∷ l) m = ap (◌⊓◌ (g p)) (min_over-append g l m) ∙ sym (⊓-assoc (g p) (min_over g l) (min_over g m))

-- one record more
pub min_over-take : (g : Pair → Total) (l : List Pair) (i : ℕ) (d : Pair) → i < length l
    → min_over g (take (suc i) l) ≡ min_over g (take i l) ⊓ g (get_or l i d)
min_over-take g l i d h =
    ap (min_over g) (take-suc l i d h) ∙ min_over-append g (take i l) (get_or l i d ∷ [])
    ∙ ap (◌⊓◌ (min_over g (take i l))) (⊓-none (g (get_or l i d)))

module _ (g : Pair → Total) (blank : Blank g) where
  min_over-keep : (l h : ℕ) (x y : Total) →
      let p : Pair = record { low = l; high = h; up_time = x; down_time = y } in
      min_over g (keep p) ≡ g p
  min_over-keep l h none none = sym (blank l h)
  min_over-keep l h none (some d) = ⊓-none (g (record { low = l; high = h; up_time = none; down_time = some d }))
  min_over-keep l h (some u) y = ⊓-none (g (record { low = l; high = h; up_time = some u; down_time = y }))

  pub min_over-row : (w : Weights) (l k : ℕ) → min_over g (row w l k) ≡ min_below k (λ h. g (pair_of w l h))
  min_over-row w l zero = refl
  min_over-row w l (suc k) =
      min_over-append g (row w l k) (keep (pair_of w l k)) ∙ ap₂ ◌⊓◌ (min_over-row w l k) (min_over-keep l k (up w l k) (down w l k))

  pub min_over-rows : (w : Weights) (n k : ℕ) → min_over g (rows w n k) ≡ min_below k (λ l. min_below n (λ h. g (pair_of w l h)))
  min_over-rows w n zero = refl
  min_over-rows w n (suc k) = min_over-append g (rows w n k) (row w k n) ∙ ap₂ ◌⊓◌ (min_over-rows w n k) (min_over-row w k n)

-- the up times of a, with a total for each higher rank
pub ups-row : (w : Weights) (f : ℕ → Total) (a n : ℕ)
    → min_over (λ p. p.up_time ⊕ f p.high) (row w a n) ≡ min_below n (λ h. up w a h ⊕ f h)
ups-row w f a n = min_over-row (λ p. p.up_time ⊕ f p.high) (λ l h. refl) w a n

-- the down times to the ranks below k, with a total for each
pub downs-rows : (w : Weights) (f : ℕ → Total) (n k h : ℕ) → h < n
    → min_over (λ p. cond (eqb p.high h) (p.down_time ⊕ f p.low) none) (rows w n k) ≡ min_below k (λ l. down w l h ⊕ f l)
downs-rows w f n k h hn =
    min_over-rows (λ p. cond (eqb p.high h) (p.down_time ⊕ f p.low) none) (λ l g. cond_same (eqb g h) none) w n k
    ∙ min_below_cong k (λ l. min_below n (at l)) (λ l. down w l h ⊕ f l) (λ l _. min_below-only n h (at l) hn (other l) ∙ here l)
  where
    at : ℕ → ℕ → Total
    at l g = cond (eqb g h) (down w l g ⊕ f l) none

    other : (l g : ℕ) → g < n → (g ≡ h → ⊥) → at l g ≡ none
    other l g gn ne = cond_no (eqb g h) (down w l g ⊕ f l) none (ne_eqb g h ne)

    here : (l : ℕ) → at l h ≡ down w l h ⊕ f l
    here l = cond_yes (eqb h h) (down w l h ⊕ f l) none (eq-eqb h h refl)

kept_wider : {w : Weights} {n k n' k' : ℕ} {p : Pair} → n ≤ n' → k ≤ k' → Kept w n k p → Kept w n' k' p
kept_wider a b r = record {
  l = r.l;
  h = r.h;
  is = r.is;
  timed = r.timed;
  less = r.less;
  lows = omega (arith, r.lows);
  highs = omega (arith, r.highs);
}

keep_member : {p : Pair} (w : Weights) (l h : ℕ) → Memᴰ p (keep (pair_of w l h))
    → (p ≡ pair_of w l h) × (exists (up w l h) (down w l h) ≡ true) × (l < h)
keep_member {p} w l h m = go (up w l h) (down w l h) refl refl m
  where
    go : (x y : Total) → up w l h ≡ x → down w l h ≡ y → Memᴰ p (cond (exists x y) (pair_of w l h ∷ []) [])
        → (p ≡ pair_of w l h) × (exists (up w l h) (down w l h) ≡ true) × (l < h)
    go none none e f m = absurd (Memᴰ.not-nil m)
    go none (some d) e f m = (Memᴰ.eq_of_singleton m, rw (e, f), down_lt w l h d f)
    go (some u) y e f m = (Memᴰ.eq_of_singleton m, rw e, up_lt w l h u e)

row_member : {p : Pair} (w : Weights) (l n : ℕ) → Memᴰ p (row w l n) → Kept w n (suc l) p
row_member w l zero m = absurd (Memᴰ.not-nil m)
row_member {p} w l (suc n) m = go (Memᴰ.append_cases (row w l n) m) (λ q. row_member w l n q)
  where
    go : Memᴰ p (row w l n) ⊎ Memᴰ p (keep (pair_of w l n)) → (Memᴰ p (row w l n) → Kept w n (suc l) p)
        → Kept w (suc n) (suc l) p
    go (inl q) rec = kept_wider (omega arith) (omega arith) (rec q)
    go (inr q) rec =
        let (is, timed, less) = keep_member w l n q in
        record { l = l; h = n; is = is; timed = timed; less = less; lows = omega arith; highs = omega arith }

pub rows_member : {p : Pair} (w : Weights) (n k : ℕ) → Memᴰ p (rows w n k) → Kept w n k p
rows_member w n zero m = absurd (Memᴰ.not-nil m)
rows_member {p} w n (suc k) m = go (Memᴰ.append_cases (rows w n k) m) (λ q. rows_member w n k q)
  where
    go : Memᴰ p (rows w n k) ⊎ Memᴰ p (row w k n) → (Memᴰ p (rows w n k) → Kept w n k p) → Kept w n (suc k) p
    go (inl q) rec = kept_wider (omega arith) (omega arith) (rec q)
    go (inr q) rec = row_member w k n q

begins_self : (l : List Pair) → Begins l l
begins_self l = record { rest = []; is = sym (append-nil l) }

begins-more : {l m : List Pair} (r : List Pair) → Begins l m → Begins l (m ++ r)
begins-more {l} r b = record { rest = b.rest ++ r; is = ap (λ (x : List Pair). x ++ r) b.is ∙ append_assoc l b.rest r }

pub begins-at : {l m : List Pair} → Begins l m → (i : ℕ) (d : Pair) → i < length l → get_or m i d ≡ get_or l i d
begins-at {l} b i d h = ap (λ (x : List Pair). get_or x i d) b.is ∙ get_or-append l b.rest d i h

pub begins-length : {l m : List Pair} → Begins l m → length l ≤ length m
begins-length {l} b = let e = ap length b.is ∙ length-append l b.rest in omega arith

keep_yes : (b : Bool) (p : Pair) → b ≡ true → cond b (p ∷ []) [] ≡ p ∷ []
keep_yes b p e = rw e

keep-no : (b : Bool) (p : Pair) → b ≡ false → cond b (p ∷ []) [] ≡ []
keep-no b p e = rw e

pub exists_false : (x y : Total) → exists x y ≡ false → (x ≡ none) × (y ≡ none)
exists_false none none e = (refl, refl)
exists_false none (some d) e = absurd (true_false refl e)
exists_false (some u) y e = absurd (true_false refl e)

module _ (w : Weights) (v : ℕ) where
  pub row-begins : (j k : ℕ) → j ≤ k → Begins (row w v j) (row w v k)
  row-begins j zero h = let e : j ≡ 0 = omega arith in rw e (begins_self [])
  row-begins j (suc k) h = go (dec_lt j (suc k)) (λ g. row-begins j k g)
    where
      go : Dec (j < suc k) → (j ≤ k → Begins (row w v j) (row w v k)) → Begins (row w v j) (row w v (suc k))
      go (yes lt) rec = begins-more (keep (pair_of w v k)) (rec (omega arith))
      go (no ge) rec = let e : j ≡ suc k = omega arith in rw e (begins_self (row w v (suc k)))

  pub row_kept : (k : ℕ) → exists (up w v k) (down w v k) ≡ true → row w v (suc k) ≡ row w v k ++ (pair_of w v k ∷ [])
  row_kept k e = ap (◌++◌ (row w v k)) (keep_yes (exists (up w v k) (down w v k)) (pair_of w v k) e)

  pub row-blank : (k : ℕ) → exists (up w v k) (down w v k) ≡ false → row w v (suc k) ≡ row w v k
  row-blank k e = ap (◌++◌ (row w v k)) (keep-no (exists (up w v k) (down w v k)) (pair_of w v k) e) ∙ append-nil (row w v k)

  -- the low is the lower of the two
  pub row_low : (k : ℕ) → k ≤ suc v → row w v k ≡ []
  row_low zero h = refl
  row_low (suc k) h =
      let e : exists (up w v k) (down w v k) ≡ false = rw (up_none w v k (omega arith), down-none w v k (omega arith)) in
      row-blank k e ∙ row_low k (omega arith)

  -- the pair of a record
  pub row_at : (k i : ℕ) (d : Pair) → i < length (row w v k) → (h : ℕ) × (get_or (row w v k) i d ≡ pair_of w v h) × (h < k)
  row_at zero i d l = absurd (not-suc-le-zero l)
  row_at (suc k) i d l = go (dec_lt i (length (row w v k))) (decide (exists (up w v k) (down w v k))) (λ h. row_at k i d h)
    where
      go : Dec (i < length (row w v k)) → Tested (exists (up w v k) (down w v k))
          → (i < length (row w v k) → (h : ℕ) × (get_or (row w v k) i d ≡ pair_of w v h) × (h < k))
          → (h : ℕ) × (get_or (row w v (suc k)) i d ≡ pair_of w v h) × (h < suc k)
      go (yes lt) t rec =
          let r = rec lt in
          (r.0, get_or-append (row w v k) (keep (pair_of w v k)) d i lt ∙ r.1, omega (arith, r.2))
      go (no ge) (inl t) rec =
          let e = row_kept k t in
          let n = ap length e ∙ length-append (row w v k) (pair_of w v k ∷ []) in
          let at : length (row w v k) ≡ i = omega (arith, n) in
          (k, ap (λ (x : List Pair). get_or x i d) e ∙ get_or_at (row w v k) (pair_of w v k) [] d i at, omega arith)
      go (no ge) (inr t) rec =
          let n = ap length (row-blank k t) in
          absurd (omega (arith, n))

  -- a kept pair stands after those with the lower highs
  pub row-place : (k n : ℕ) (d : Pair) → k < n → exists (up w v k) (down w v k) ≡ true
      → get_or (row w v n) (length (row w v k)) d ≡ pair_of w v k
  row-place k n d h e =
      let s = row_kept k e in
      let n1 = ap length s ∙ length-append (row w v k) (pair_of w v k ∷ []) in
      begins-at (row-begins (suc k) n h) (length (row w v k)) d (omega (arith, n1))
      ∙ ap (λ (x : List Pair). get_or x (length (row w v k)) d) s ∙ get_or-append_seam (row w v k) (pair_of w v k) [] d

  -- what stands there has a high of at least k; where no pair is left, n stands for it
  pub row-ahead : (k n : ℕ) → k ≤ n → k ≤ (get_or (row w v n) (length (row w v k)) (edge n)).high
  row-ahead k n h = down_to (n - k) k (omega arith)
    where
      down_to : (j k : ℕ) → n ≡ j + k → k ≤ (get_or (row w v n) (length (row w v k)) (edge n)).high
      down_to zero k e =
          let s : k ≡ n = omega arith in
          let past = le_refl (length (row w v n)) in
          let p : get_or (row w v n) (length (row w v n)) (edge n) ≡ edge n = get_or-eq_default (row w v n) (edge n) past in
          rw (s, p) (le_refl n)
      down_to (suc j) k e = go (decide (exists (up w v k) (down w v k))) (down_to j (suc k) (omega arith))
        where
          go : Tested (exists (up w v k) (down w v k)) → suc k ≤ (get_or (row w v n) (length (row w v (suc k))) (edge n)).high
              → k ≤ (get_or (row w v n) (length (row w v k)) (edge n)).high
          go (inl t) g = rw (row-place k n (edge n) (omega arith) t) (omega arith)
          go (inr t) g = let f = rw (row-blank k t) at g in omega (arith, f)

module _ (w : Weights) (n : ℕ) where
  pub rows-begins : (j k : ℕ) → j ≤ k → Begins (rows w n j) (rows w n k)
  rows-begins j zero h = let e : j ≡ 0 = omega arith in rw e (begins_self [])
  rows-begins j (suc k) h = go (dec_lt j (suc k)) (λ g. rows-begins j k g)
    where
      go : Dec (j < suc k) → (j ≤ k → Begins (rows w n j) (rows w n k)) → Begins (rows w n j) (rows w n (suc k))
      go (yes lt) rec = begins-more (row w k n) (rec (omega arith))
      go (no ge) rec = let e : j ≡ suc k = omega arith in rw e (begins_self (rows w n (suc k)))

  -- the records of v stand one after the other
  pub rows_at : (v k i : ℕ) (d : Pair) → v < k → i < length (row w v n)
      → get_or (rows w n k) (length (rows w n v) + i) d ≡ get_or (row w v n) i d
  rows_at v k i d h l =
      begins-at (rows-begins (suc v) k h) (length (rows w n v) + i) d (omega (arith, length-append (rows w n v) (row w v n)))
      ∙ get_or-append-add (rows w n v) (row w v n) i d

  pub rows-length : (v k : ℕ) → v < k → length (rows w n v) + length (row w v n) ≤ length (rows w n k)
  rows-length v k h = omega (arith, begins-length (rows-begins (suc v) k h), length-append (rows w n v) (row w v n))
