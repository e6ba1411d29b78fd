-- What a loop over the kept pairs computes: each loop is a pass over the list of pairs, one act for each; here is what the passes come to.
-- Assumes nothing.
use Rattle.std.proofs.Common.{◌∙◌, ap, ap₂, sym, eq-eqb, le-ltb, lt-ltb, ne_eqb, arith}
use Rattle.std.specs.Prelude.{◌≡◌, refl, Bool, cond, false, true, List, [], ◌++◌, ◌∷◌, ◌<◌, ◌≤◌, suc, zero, ℕ, eqb, ltb, drop, length}
use Rattle.std.proofs.Math.Option.{none, some}
use Rattle.std.proofs.Math.Seq.{drop-append_seam}
use Rattle.std.proofs.Math.Decide.{dec_lt, ℕ_discrete}
use Rattle.graph.specs.Total.{Total, ◌⊓◌, ◌⊕◌}
use Rattle.graph.proofs.Total.{cond_no, cond_same, cond_yes, ⊓-none, ⊕-comm, ⊕-none}
use Rattle.graph.proofs.Least.{min_below-none, min_below-only}
use Rattle.graph.specs.Path.{Weights}
use Rattle.graph.specs.Level.{level}
use Rattle.graph.specs.Pairs.{down, up}
use Rattle.graph.proofs.Pairs.{down-none, level-step}
use Rattle.graph.specs.Records.{Pair, exists, keep, min_over, pair_of, row, rows}
use Rattle.graph.proofs.Records.{exists_false, min_over-append, min_over-row, row-begins}
use Rattle.graph.specs.Estimate.{down_total, pushed}
use Rattle.graph.proofs.Estimate.{pushed-done, pushed-first, pushed-next}
use Rattle.graph.specs.Folds.{pass, upto, hand, seed, through, later}

module _ {S : Type 0} where
  pub pass-append : (act : Pair → S → S) (l m : List Pair) (s : S) → pass act (l ++ m) s ≡ pass act m (pass act l s)
  pass-append act [] m s = refl
  pass-append act (p ∷ l) m s = pass-append act l m (act p s)

upto_in : (x k : ℕ) (y : Total) → x < k → upto x k y ≡ y
upto_in x k y h = rw (lt-ltb x k h)

upto-out : (x k : ℕ) (y : Total) → k ≤ x → upto x k y ≡ none
upto-out x k y h = rw (le-ltb x k h)

upto-other : (x k : ℕ) (y : Total) → (x ≡ k → ⊥) → upto x (suc k) y ≡ upto x k y
upto-other x k y h = go (dec_lt x k)
  where
    go : Dec (x < k) → upto x (suc k) y ≡ upto x k y
    go (yes lt) = upto_in x (suc k) y (omega arith) ∙ sym (upto_in x k y lt)
    go (no ge) = upto-out x (suc k) y (omega arith) ∙ sym (upto-out x k y (omega arith))

upto-none : (x k : ℕ) (y : Total) → y ≡ none → upto x k y ≡ none
upto-none x k y e = rw e (cond_same (ltb x k) none)

other : (x k : ℕ) (y z : Total) → (x ≡ k → ⊥) → cond (eqb x k) y z ≡ z
other x k y z ne = rw (ne_eqb x k ne)

module _ (w : Weights) where
  hand-keep : (k j : ℕ) (f : ℕ → Total) (h : ℕ) → pass hand (keep (pair_of w k j)) f h ≡ hand (pair_of w k j) f h
  hand-keep k j f h = go (up w k j) (down w k j)
    where
      go : (x y : Total) → pass hand (keep (record { low = k; high = j; up_time = x; down_time = y })) f h
          ≡ hand (record { low = k; high = j; up_time = x; down_time = y }) f h
      go none none = blank (eqb h j)
        where
          blank : (b : Bool) → f h ≡ cond b (f h ⊓ none) (f h)
          blank true = sym (⊓-none (f h))
          blank false = refl
      go none (some d) = refl
      go (some u) y = refl

  hand-row : (k j : ℕ) (f : ℕ → Total) (h : ℕ) → pass hand (row w k j) f h ≡ f h ⊓ upto h j (down w k h ⊕ f k)
  hand-row k zero f h = sym (rw (upto-out h 0 (down w k h ⊕ f k) (omega arith)) (⊓-none (f h)))
  hand-row k (suc j) f h =
      ap (λ (g : ℕ → Total). g h) (pass-append hand (row w k j) (keep (pair_of w k j)) f)
      ∙ hand-keep k j (pass hand (row w k j) f) h ∙ go (hand-row k j f h) (hand-row k j f k) (ℕ_discrete h j)
    where
      g : ℕ → Total
      g = pass hand (row w k j) f

      go : g h ≡ f h ⊓ upto h j (down w k h ⊕ f k) → g k ≡ f k ⊓ upto k j (down w k k ⊕ f k) → Dec (h ≡ j)
          → cond (eqb h j) (g h ⊓ (down w k j ⊕ g k)) (g h) ≡ f h ⊓ upto h (suc j) (down w k h ⊕ f k)
      go e e' (yes p) =
          let gh : g h ≡ f h = e ∙ ap (◌⊓◌ (f h)) (upto-out h j (down w k h ⊕ f k) (omega arith)) ∙ ⊓-none (f h) in
          let gk : g k ≡ f k = e' ∙ ap (◌⊓◌ (f k)) (upto-none k j (down w k k ⊕ f k) (rw (down-none w k k (omega arith)))) ∙ ⊓-none (f k) in
          cond_yes (eqb h j) (g h ⊓ (down w k j ⊕ g k)) (g h) (eq-eqb h j p)
          ∙ ap₂ ◌⊓◌ gh (ap₂ ◌⊕◌ (ap (down w k) (sym p)) gk)
          ∙ ap (◌⊓◌ (f h)) (sym (upto_in h (suc j) (down w k h ⊕ f k) (omega arith)))
      go e e' (no p) = other h j (g h ⊓ (down w k j ⊕ g k)) (g h) p ∙ e ∙ ap (◌⊓◌ (f h)) (sym (upto-other h j (down w k h ⊕ f k) p))

  pub hand-rows : (n t k h : ℕ) → k ≤ n → h < n → pass hand (rows w n k) (seed t) h ≡ pushed w t k h
  hand-rows n t zero h kn hn = sym (pushed-first w t h)
  hand-rows n t (suc k) h kn hn =
      ap (λ (g : ℕ → Total). g h) (pass-append hand (rows w n k) (row w k n) (seed t))
      ∙ hand-row k n (pass hand (rows w n k) (seed t)) h
      ∙ ap₂ ◌⊓◌ (hand-rows n t k h (omega arith) hn)
      (upto_in h n (down w k h ⊕ pass hand (rows w n k) (seed t) k) hn
      ∙ ap (◌⊕◌ (down w k h)) (hand-rows n t k k (omega arith) (omega arith) ∙ pushed-done w t k k (omega arith)))
      ∙ sym (pushed-next w t k h)

  -- the whole list gives the down totals
  pub hand-all : (n t h : ℕ) → h < n → pass hand (rows w n n) (seed t) h ≡ down_total w t h
  hand-all n t h hn = hand-rows n t n h (omega arith) hn ∙ pushed-done w t n h (omega arith)

module _ (w : Weights) (n v r h : ℕ) (rh : r < h) (hn : h < n) where
  -- they meet each h above r once
  through-later : (a : Total) (time : Pair → Total)
      → ((l g : ℕ) → time (record { low = l; high = g; up_time = none; down_time = none }) ≡ none)
      → min_over (through a time h) (later w n v r) ≡ a ⊕ time (pair_of w v h)
  through-later a time blank =
      sym (ap₂ ◌⊓◌ below refl)
      ∙ sym (min_over-append (through a time h) (row w v (suc r)) (later w n v r))
      ∙ ap (min_over (through a time h)) (sym split)
      ∙ min_over-row (through a time h) none-there w v n
      ∙ min_below-only n h (λ g. through a time h (pair_of w v g)) hn
      (λ g gn ne. cond_no (eqb g h) (a ⊕ time (pair_of w v g)) none (ne_eqb g h ne))
      ∙ cond_yes (eqb h h) (a ⊕ time (pair_of w v h)) none (eq-eqb h h refl)
    where
      none-there : (l g : ℕ) → through a time h (record { low = l; high = g; up_time = none; down_time = none }) ≡ none
      none-there l g = rw (blank l g, ⊕-none a) (cond_same (eqb g h) none)

      below : min_over (through a time h) (row w v (suc r)) ≡ none
      below =
          min_over-row (through a time h) none-there w v (suc r)
          ∙ min_below-none (suc r) (λ g. through a time h (pair_of w v g))
          (λ g gr. cond_no (eqb g h) (a ⊕ time (pair_of w v g)) none (ne_eqb g h (λ e. omega arith)))

      split : row w v n ≡ row w v (suc r) ++ later w n v r
      split =
          let b = row-begins w v (suc r) n (omega arith) in
          let rest = sym (drop-append_seam (row w v (suc r)) b.rest) ∙ ap (drop (length (row w v (suc r)))) (sym b.is) in
          b.is ∙ ap (◌++◌ (row w v (suc r))) rest

  module _ (vr : v < r) where
    pub over-ups : level w (suc v) r h ≡ level w v r h ⊓ min_over (through (down w v r) (λ p. p.up_time) h) (later w n v r)
    over-ups =
        level-step w v r h vr (omega arith) ∙ ap (◌⊓◌ (level w v r h)) (sym (through-later (down w v r) (λ p. p.up_time) (λ l g. refl)))

    pub over-downs : level w (suc v) h r ≡ level w v h r ⊓ min_over (through (up w v r) (λ p. p.down_time) h) (later w n v r)
    over-downs =
        level-step w v h r (omega arith) vr
        ∙ ap (◌⊓◌ (level w v h r)) (⊕-comm (down w v h) (up w v r) ∙ sym (through-later (up w v r) (λ p. p.down_time) (λ l g. refl)))

    -- a pair that is not kept adds nothing
    pub over-blank : exists (up w v r) (down w v r) ≡ false → (level w (suc v) r h ≡ level w v r h) × (level w (suc v) h r ≡ level w v h r)
    over-blank e =
        let b = exists_false (up w v r) (down w v r) e in (
          level-step w v r h vr (omega arith) ∙ ap (λ (x : Total). level w v r h ⊓ (x ⊕ up w v h)) b.1 ∙ ⊓-none (level w v r h),
          level-step w v h r (omega arith) vr ∙ ap (λ (x : Total). level w v h r ⊓ (down w v h ⊕ x)) b.0
              ∙ ap (◌⊓◌ (level w v h r)) (⊕-none (down w v h)) ∙ ⊓-none (level w v h r),
        )
