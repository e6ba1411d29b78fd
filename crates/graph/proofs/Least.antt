-- Proves how the least of a set comes from the least of its parts: union, sums, cases, the same set or a subset. Assumes nothing.
use Rattle.std.proofs.Common.{◌∙◌, ap, subst, inl, inr, le_refl, not-suc-le-zero, arith}
use Rattle.std.specs.Prelude.{◌≡◌, refl, ◌⊎◌, Bool, cond, false, true, ◌<◌, ◌≤◌, suc, zero, ℕ}
use Rattle.std.proofs.Math.Option.{none, some}
use Rattle.std.proofs.Math.Decide.{dec_lt, ℕ_discrete}
use Rattle.graph.specs.Total.{Total, ◌≼◌, ◌⊓◌, ◌⊕◌}
use Rattle.graph.proofs.Total.{and_true, is_number_true}
use Rattle.graph.proofs.Total.{none-some, some-some, true_false, true_is_number, within, ≼_trans, ⊓-none}
use Rattle.graph.specs.Least.{IsLeast, AtMost, Sum, min_below, SomeBelow, first_below, any_below, every, fuelled, measured, Local}

pub least-number : {P : ℕ → Type 0} {t : ℕ} → P t → ((u : ℕ) → P u → t ≤ u) → IsLeast P (some t)
least-number {P} {t} p low = record { attained = λ u e. rw (some-some refl e) at p; bound = low }

pub least-empty : {P : ℕ → Type 0} → ((t : ℕ) → P t → ⊥) → IsLeast P none
least-empty h = record { attained = λ t e. absurd (none-some refl e); bound = λ u p. h u p }

pub least_self : (x : Total) → IsLeast (λ t. x ≡ some t) x
least_self x = record { attained = λ t e. e; bound = λ u e. rw e (le_refl u) }

pub least_unique : {P : ℕ → Type 0} {x y : Total} → IsLeast P x → IsLeast P y → x ≡ y
least_unique {P} {x} {y} p q = go x y p q
  where
    go : (x y : Total) → IsLeast P x → IsLeast P y → x ≡ y
    go none none p q = refl
    go none (some b) p q = absurd (p.bound b (q.attained b refl))
    go (some a) none p q = absurd (q.bound a (p.attained a refl))
    go (some a) (some b) p q =
        let h : a ≤ b = p.bound b (q.attained b refl) in
        let k : b ≤ a = q.bound a (p.attained a refl) in
        ap some (omega arith)

-- the least is none exactly if nothing has P
pub least-none : {P : ℕ → Type 0} {x : Total} → IsLeast P x → (x ≡ none → (t : ℕ) → P t → ⊥) × (((t : ℕ) → P t → ⊥) → x ≡ none)
least-none l = (λ e t p. rw e at (l.bound t p), λ empty. least_unique l (least-empty empty))

pub exactly : {P : ℕ → Type 0} {t : ℕ} → P t → AtMost P t
exactly {t} p = record { total = t; le = le_refl t; holds = p }

-- a set Q has the least total of its subset P, where P reaches at or below each total of Q
pub least-cover : {P Q : ℕ → Type 0} {x : Total} → IsLeast P x → ((t : ℕ) → P t → Q t) → ((t : ℕ) → Q t → AtMost P t) → IsLeast Q x
least-cover {x} l incl cover = record {
  attained = λ t e. incl t (l.attained t e);
  bound = λ u q. let c = cover u q in ≼_trans x (some c.total) (some u) (l.bound c.total c.holds) c.le;
}

-- the same set by another description
pub least-map : {P Q : ℕ → Type 0} {x : Total} → ((t : ℕ) → P t → Q t) → ((t : ℕ) → Q t → P t) → IsLeast P x → IsLeast Q x
least-map f g l = record { attained = λ t e. f t (l.attained t e); bound = λ u q. l.bound u (g u q) }

-- a set that Q stays above has a least total at or below that of Q
pub least_anti : {P Q : ℕ → Type 0} {x y : Total} → IsLeast P x → IsLeast Q y → ((t : ℕ) → Q t → AtMost P t) → x ≼ y
least_anti {Q} {x} {y} p q f = go y q
  where
    go : (y : Total) → IsLeast Q y → x ≼ y
    go none q = tt
    go (some b) q =
        let c = f b (q.attained b refl) in
        ≼_trans x (some c.total) (some b) (p.bound c.total c.holds) c.le

-- the minimum is the least of the union
pub least-⊓ : {P Q : ℕ → Type 0} {x y : Total} → IsLeast P x → IsLeast Q y → IsLeast (λ t. P t ⊎ Q t) (x ⊓ y)
least-⊓ {P} {Q} {x} {y} p q =
    record { attained = reach x y p q; bound = λ u. elim [ inl h ↦ left x y u (p.bound u h) | inr h ↦ right x y u (q.bound u h) ] }
  where
    reach : (x y : Total) → IsLeast P x → IsLeast Q y → (t : ℕ) → x ⊓ y ≡ some t → P t ⊎ Q t
    reach none y p q t e = inr (q.attained t e)
    reach (some a) none p q t e = inl (p.attained t e)
    reach (some a) (some b) p q t e = side (dec_lt a b)
      where
        side : Dec (a < b) → P t ⊎ Q t
        side (yes h) = inl (p.attained t (ap some (omega (arith, some-some refl e))))
        side (no h) = inr (q.attained t (ap some (omega (arith, some-some refl e))))

    left : (x y : Total) (u : ℕ) → x ≼ some u → x ⊓ y ≼ some u
    left none y u h = absurd h
    left (some a) none u h = h
    left (some a) (some b) u h = omega arith

    right : (x y : Total) (u : ℕ) → y ≼ some u → x ⊓ y ≼ some u
    right none y u h = h
    right (some a) none u h = absurd h
    right (some a) (some b) u h = omega arith

-- the sum is the least of the sums
pub least-⊕ : {P Q : ℕ → Type 0} {x y : Total} → IsLeast P x → IsLeast Q y → IsLeast (Sum P Q) (x ⊕ y)
least-⊕ {P} {Q} {x} {y} p q =
    record { attained = reach x y p q; bound = λ u s. above x y u s (p.bound s.one s.first) (q.bound s.two s.second) }
  where
    reach : (x y : Total) → IsLeast P x → IsLeast Q y → (t : ℕ) → x ⊕ y ≡ some t → Sum P Q t
    reach none y p q t e = absurd (none-some refl e)
    reach (some a) none p q t e = absurd (none-some refl e)
    reach (some a) (some b) p q t e =
        record { one = a; two = b; first = p.attained a refl; second = q.attained b refl; adds = some-some refl e }

    above : (x y : Total) (u : ℕ) (s : Sum P Q u) → x ≼ some s.one → y ≼ some s.two → x ⊕ y ≼ some u
    above none y u s h k = absurd h
    above (some a) none u s h k = absurd k
    above (some a) (some b) u s h k = omega arith

pub least_cond : {P : ℕ → Type 0} (b : Bool) {x y : Total} → (b ≡ true → IsLeast P x) → (b ≡ false → IsLeast P y) → IsLeast P (cond b x y)
least_cond true f g = f refl
least_cond false f g = g refl

pub least-below : (n : ℕ) {P : ℕ → ℕ → Type 0} {f : ℕ → Total} → ((i : ℕ) → i < n → IsLeast (P i) (f i))
    → IsLeast (SomeBelow n P) (min_below n f)
least-below zero h = least-empty (λ t s. not-suc-le-zero s.below)
least-below (suc n) {P} h =
    least-cover (least-⊓ (least-below n (λ i hi. h i (omega arith))) (h n (omega arith)))
    (λ t. elim [
      | inl s ↦ record { index = s.index; below = omega arith; at = s.at }
      | inr p ↦ record { index = n; below = omega arith; at = p }
    ])
    (λ t s. exactly (split t s (dec_lt s.index n)))
  where
    split : (t : ℕ) (s : SomeBelow (suc n) P t) → Dec (s.index < n) → SomeBelow n P t ⊎ P n t
    split t s (yes k) = inl (record { index = s.index; below = k; at = s.at })
    split t s (no k) = inr (subst (λ (i : ℕ). P i t) (omega arith) s.at)

pub min_below_cong : (n : ℕ) (f g : ℕ → Total) → ((i : ℕ) → i < n → f i ≡ g i) → min_below n f ≡ min_below n g
min_below_cong zero f g h = refl
min_below_cong (suc n) f g h = rw (min_below_cong n f g (λ i hi. h i (omega arith)), h n (omega arith))

-- places of none may be passed over
pub min_below-skip : (k l : ℕ) (f : ℕ → Total) → k ≤ l → ((i : ℕ) → k ≤ i → i < l → f i ≡ none) → min_below l f ≡ min_below k f
min_below-skip k zero f h blank = let e : k ≡ 0 = omega arith in rw e
min_below-skip k (suc l) f h blank = go (dec_lt k (suc l)) (λ g. min_below-skip k l f g (λ i ki il. blank i ki (omega arith)))
  where
    go : Dec (k < suc l) → (k ≤ l → min_below l f ≡ min_below k f) → min_below l f ⊓ f l ≡ min_below k f
    go (yes lt) rec = rw (blank l (omega arith) (omega arith)) (⊓-none (min_below l f) ∙ rec (omega arith))
    go (no nlt) rec = let e : k ≡ suc l = omega arith in rw e

pub min_below-none : (n : ℕ) (f : ℕ → Total) → ((i : ℕ) → i < n → f i ≡ none) → min_below n f ≡ none
min_below-none n f blank = min_below-skip 0 n f (omega arith) (λ i _ h. blank i h)

-- at one place only
pub min_below-only : (n a : ℕ) (f : ℕ → Total) → a < n → ((i : ℕ) → i < n → (i ≡ a → ⊥) → f i ≡ none) → min_below n f ≡ f a
min_below-only n a f h blank =
    min_below-skip (suc a) n f h (λ i ai hn. blank i hn (λ e. omega arith))
    ∙ ap (λ (x : Total). x ⊓ f a) (min_below-none a f (λ i ia. blank i (omega arith) (λ e. omega arith)))

pub first_below-least : (n : ℕ) (p : ℕ → Bool) → IsLeast (λ i. (i < n) × (p i ≡ true)) (first_below n p)
unfolding first_below
first_below-least n p =
    least-map (λ t s. (omega (arith, s.below, s.at.1), subst (λ (i : ℕ). p i ≡ true) s.at.1 s.at.0))
    (λ t q. record { index = t; below = q.0; at = (q.1, refl) })
    (least-below n {P = λ i t. (p i ≡ true) × (i ≡ t)} (λ i hi. least_cond (p i)
    (λ y. least-number (y, refl) (λ u q. omega (arith, q.1)))
    (λ f. least-empty (λ t q. true_false q.0 f))))

pub any_below_true : (n : ℕ) (p : ℕ → Bool) → any_below n p ≡ true → (i : ℕ) × (i < n) × (p i ≡ true)
unfolding any_below
any_below_true n p h =
    let k = is_number_true (first_below n p) h in
    let q = (first_below-least n p).attained k.0 k.1 in
    (k.0, q.0, q.1)

pub true_any_below : (n : ℕ) (p : ℕ → Bool) (i : ℕ) → i < n → p i ≡ true → any_below n p ≡ true
unfolding any_below
true_any_below n p i h t =
    let k = within (first_below n p) i ((first_below-least n p).bound i (h, t)) in
    true_is_number (first_below n p) k.0 k.1

pub every_true : (n : ℕ) (p : ℕ → Bool) → every n p ≡ true → (i : ℕ) → i < n → p i ≡ true
unfolding every
every_true zero p h i l = absurd (not-suc-le-zero l)
every_true (suc n) p h i l = go (every_true n p (and_true (p n) (every n p) h).1 i) (ℕ_discrete i n)
  where
    go : (i < n → p i ≡ true) → Dec (i ≡ n) → p i ≡ true
    go ih (yes e) = ap p e ∙ (and_true (p n) (every n p) h).0
    go ih (no ne) = ih (omega arith)

module _ {step : (ℕ → Total) → ℕ → Total} {μ : ℕ → ℕ} (local : Local step μ) where
  fuel_enough : (d e h : ℕ) → μ h < d → μ h < e → fuelled step d h ≡ fuelled step e h
  fuel_enough zero e h p q = absurd (not-suc-le-zero p)
  fuel_enough (suc d) zero h p q = absurd (not-suc-le-zero q)
  fuel_enough (suc d) (suc e) h p q = local (fuelled step d) (fuelled step e) h (λ l lt. fuel_enough d e l (omega arith) (omega arith))

  -- so the recursion meets its equation
  pub measured_law : (h : ℕ) → measured step μ h ≡ step (measured step μ) h
  unfolding measured
  measured_law h = local (fuelled step (μ h)) (measured step μ) h (λ l lt. fuel_enough (μ h) (suc (μ l)) l lt (omega arith))
