-- Proves that the search logs the candidate that comes before every other (`next-is`), and that there is no second (`next_unique`).
-- Assumes nothing.
use Rattle.std.proofs.Common.{◌∙◌, ap, sym, inl, inr}
use Rattle.std.specs.Prelude.{◌≡◌, ◌⊎◌, Bool, cond, false, true, List, eqb, ltb}
use Rattle.std.proofs.Math.Path.{refl}
use Rattle.std.proofs.Math.Option.{Option, none, some}
use Prim.Native.Nat.{◌+◌, ◌<◌, ◌≤◌, suc, zero, ℕ}
use borrow.Author.Tests.{eqb-false, eqb-true, leb-false, leb-true, ltb-false, ltb-true}
use Rattle.std.proofs.Math.Decide.{ℕ_discrete}
use Rattle.std.proofs.Math.Nat.{not-suc-le-zero}
use native.Mathlib.Omega.{arith}
use Rattle.graph.specs.Total.{Tested, Total}
use Rattle.graph.proofs.Total.{decide, none-some, some-some, true_false}
use Rattle.graph.specs.Search.{Entry, Problem, before, below_or, best_below, better, consider, next, offered, time_in}
use Rattle.graph.specs.Choice.{Candidate, Prior, BestOf, finished, chosen, NextIs}

-- The test of the order.
module _ (x y : ℕ) (b : Bool) where
  pub below_or_true : below_or x y b ≡ true → (x ≤ y) × (x ≡ y → b ≡ true)
  unfolding below_or
  below_or_true h = go (decide (ltb x y)) (decide (eqb x y))
    where
      go : Tested (ltb x y) → Tested (eqb x y) → (x ≤ y) × (x ≡ y → b ≡ true)
      go (inl l) e = let lt : x < y = ltb-true x y l in (omega arith, λ q. absurd (omega arith))
      go (inr l) (inl e) = let q : x ≡ y = eqb-true x y e in (omega arith, λ q'. rw (l, e) at h)
      go (inr l) (inr e) = absurd (true_false refl (sym (rw (l, e) at h)))

  pub below_or_false : below_or x y b ≡ false → (y ≤ x) × (x ≡ y → b ≡ false)
  unfolding below_or
  below_or_false h = go (decide (ltb x y)) (decide (eqb x y))
    where
      go : Tested (ltb x y) → Tested (eqb x y) → (y ≤ x) × (x ≡ y → b ≡ false)
      go (inl l) e = absurd (true_false refl (rw l at h))
      go (inr l) (inl e) = (ltb-false x y l, λ q'. rw (l, e) at h)
      go (inr l) (inr e) = (ltb-false x y l, λ q'. absurd (eqb-false x y e q'))

module _ (G : Problem) where
  pub prior_of_true : (c d : Entry) → before G c d ≡ true → Prior G c d
  unfolding before
  prior_of_true c d h =
      let k = below_or_true c.key d.key _ h in
      record {
        keys = k.0;
        ties = λ q. (below_or_true (G.tie c.time) (G.tie d.time) _ (k.1 q)).0;
        numbers = λ q r. leb-true c.vertex d.vertex ((below_or_true (G.tie c.time) (G.tie d.time) _ (k.1 q)).1 r);
      }

  pub prior_of_false : (c d : Entry) → before G c d ≡ false → Prior G d c
  unfolding before
  prior_of_false c d h =
      let k = below_or_false c.key d.key _ h in
      record {
        keys = k.0;
        ties = λ q. (below_or_false (G.tie c.time) (G.tie d.time) _ (k.1 (sym q))).0;
        numbers = λ q r. (
            let tied = below_or_false (G.tie c.time) (G.tie d.time) _ (k.1 (sym q)) in
            omega (arith, leb-false c.vertex d.vertex (tied.1 (sym r))));
      }

  pub prior_self : (c : Entry) → Prior G c c
  prior_self c = record { keys = omega arith; ties = λ q. omega arith; numbers = λ q r. omega arith }

  pub prior_trans : (b c d : Entry) → Prior G b c → Prior G c d → Prior G b d
  prior_trans b c d p q =
      record {
        keys = omega arith;
        ties = λ e. omega (arith, p.ties (omega arith), q.ties (omega arith));
        numbers = λ e f. (
            let t : G.tie b.time ≤ G.tie c.time = p.ties (omega arith) in
            let u : G.tie c.time ≤ G.tie d.time = q.ties (omega arith) in
            omega (arith, p.numbers (omega arith) (omega arith), q.numbers (omega arith) (omega arith)));
      }

  module _ {Q R : Entry → Type 0} where
    -- The same entries by another description.
    pub best-map : {x : Option Entry} → ((e : Entry) → Q e → R e) → ((e : Entry) → R e → Q e) → BestOf G Q x → BestOf G R x
    best-map f g (finished n) = finished (λ e r. n e (g e r))
    best-map f g (chosen {c} q p) = chosen (f c q) (λ e r. p e (g e r))

  -- One offer more.
  pub best-step : {Q : Entry → Type 0} {x : Option Entry} (c : Entry) → BestOf G Q x → BestOf G (λ e. Q e ⊎ (e ≡ c)) (better G c x)
  unfolding better
  best-step {Q} c (finished n) = chosen (inr refl) only
    where
      only : (e : Entry) → Q e ⊎ (e ≡ c) → Prior G c e
      only e (inl q) = absurd (n e q)
      only e (inr i) = rw i (prior_self c)
  best-step {Q} c (chosen {c = b} q p) = pick (decide (before G c b))
    where
      over-c : Prior G c b → (e : Entry) → Q e ⊎ (e ≡ c) → Prior G c e
      over-c k e (inl r) = prior_trans c b e k (p e r)
      over-c k e (inr i) = rw i (prior_self c)

      over-b : Prior G b c → (e : Entry) → Q e ⊎ (e ≡ c) → Prior G b e
      over-b k e (inl r) = p e r
      over-b k e (inr i) = rw i k

      pick : Tested (before G c b) → BestOf G (λ e. Q e ⊎ (e ≡ c)) (some (cond (before G c b) c b))
      pick (inl t) = rw t (chosen (inr refl) (over-c (prior_of_true c b t)))
      pick (inr f) = rw f (chosen (inl q) (over-b (prior_of_false c b f)))

module _ (G : Problem) (H : List Entry) where
  same-candidate : (c d : Entry) → Candidate G H c → Candidate G H d → c.vertex ≡ d.vertex → c ≡ d
  same-candidate c d k l q = λ i. record { vertex = q i; time = qt i; key = qk i }
    where
      qt : c.time ≡ d.time
      qt = some-some k.time-is (ap (offered G H) q ∙ l.time-is)

      qp : k.estimate ≡ l.estimate
      qp = some-some k.pot-is (ap G.pot q ∙ l.pot-is)

      qk : c.key ≡ d.key
      qk = omega (arith, k.key-is, l.key-is, qt, qp)

  -- What is logged next is determined.
  pub next_unique : {x y : Option Entry} → NextIs G H x → NextIs G H y → x ≡ y
  next_unique (finished m) (finished n) = refl
  next_unique (finished m) (chosen {c} k p) = absurd (m c k)
  next_unique (chosen {c} k p) (finished n) = absurd (n c k)
  next_unique (chosen {c} k p) (chosen {c = d} l r) =
      let same : c.vertex ≡ d.vertex = omega (arith, pd.numbers qk qt, pc.numbers (sym qk) (sym qt)) in
      ap some (same-candidate c d k l same)
    where
      pd : Prior G c d
      pd = p d l

      pc : Prior G d c
      pc = r c k

      qk : c.key ≡ d.key
      qk = omega (arith, pd.keys, pc.keys)

      qt : G.tie c.time ≡ G.tie d.time
      qt = omega (arith, pd.ties qk, pc.ties (sym qk))

  -- The best below n is the best of the candidates below n.
  abbrev Below : ℕ → Entry → Type 0
  Below n c = Candidate G H c × (c.vertex < n)

  best-below : (n : ℕ) → n ≤ G.size → BestOf G (Below n) (best_below G H n)
  unfolding best_below consider
  best-below zero le = finished (λ c q. not-suc-le-zero q.1)
  best-below (suc v) le = go (time_in H v) (G.pot v) (offered G H v) refl refl refl (best-below v (omega arith))
    where
      -- v is none, or its candidate is the one
      skip : {x : Option Entry} → ((c : Entry) → Candidate G H c → c.vertex ≡ v → ⊥) → BestOf G (Below v) x → BestOf G (Below (suc v)) x
      skip never = best-map G (λ c q. (q.0, omega (arith, q.1))) (λ c q. (q.0, at c q (ℕ_discrete c.vertex v)))
        where
          at : (c : Entry) → Below (suc v) c → Dec (c.vertex ≡ v) → c.vertex < v
          at c q (yes e) = absurd (never c q.0 e)
          at c q (no ne) = omega (arith, q.1)

      take : {x : Option Entry} (c : Entry) → Candidate G H c → c.vertex ≡ v → BestOf G (Below v) x
          → BestOf G (Below (suc v)) (better G c x)
      take c k e b = best-map G into (λ d q. out d q (ℕ_discrete d.vertex v)) (best-step G c b)
        where
          into : (d : Entry) → Below v d ⊎ (d ≡ c) → Below (suc v) d
          into d (inl q) = (q.0, omega (arith, q.1))
          into d (inr i) = rw i (k, omega arith)

          out : (d : Entry) → Below (suc v) d → Dec (d.vertex ≡ v) → Below v d ⊎ (d ≡ c)
          out d q (yes f) = inr (same-candidate d c q.0 k (f ∙ sym e))
          out d q (no ne) = inl (q.0, omega (arith, q.1))

      go : (l p t : Total) → time_in H v ≡ l → G.pot v ≡ p → offered G H v ≡ t → {x : Option Entry} → BestOf G (Below v) x
          → BestOf G (Below (suc v)) (consider G v l p t x)
      go (some l) p t el ep et = skip (λ c k e. none-some k.unlogged (ap (time_in H) e ∙ el))
      go none none t el ep et = skip (λ c k e. none-some (ap G.pot e ∙ ep) k.pot-is)
      go none (some p) none el ep et = skip (λ c k e. none-some (ap (offered G H) e ∙ et) k.time-is)
      go none (some p) (some t) el ep et =
          take (record { vertex = v; time = t; key = t + p }) (record {
            below = omega arith;
            unlogged = el;
            estimate = p;
            pot-is = ep;
            key-is = refl;
            time-is = et;
          }) refl

  pub next-is : NextIs G H (next G H)
  unfolding next
  next-is = best-map G (λ c q. q.0) (λ c k. (k, k.below)) (best-below G.size (omega arith))
