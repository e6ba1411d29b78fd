-- The estimates as the search asks for them. Assumes nothing.
use Rattle.std.proofs.Common.{◌∙◌, ap, subst, subst₂, sym, inl, inr, arith}
use Rattle.std.specs.Prelude.{◌≡◌, ◌⊎◌, false, true, List, [], ◌∷◌, ◌+◌, ◌<◌, ◌≤◌, ℕ, get_or, length}
use Rattle.std.proofs.Math.Path.{refl}
use Rattle.std.proofs.Math.Option.{none}
use Rattle.std.proofs.Math.Decide.{dec_lt, ℕ_discrete}
use Rattle.graph.specs.Total.{Tested}
use Rattle.graph.proofs.Total.{decide, none-some}
use Rattle.graph.specs.Network.{Network}
use Rattle.graph.specs.Search.{Entry, Problem, time_in}
use Rattle.graph.specs.Walk.{TimeIs}
use Rattle.graph.proofs.Walk.{time_in-cases, time_in-here, time_in-there}
use Rattle.graph.specs.Map.{Map, estimate_of, fills}
use Rattle.model.specs.Word.{unasked, word}
use Rattle.model.specs.Estimate.{filled}
use Rattle.model.specs.Good.{AimFacts, Filled}
use Rattle.model.proofs.Good.{filled-length, filled-no, filled_yes, fills_self}
use Rattle.network.specs.declared.Sizes.{Sizes}
use Rattle.search_junctions.specs.Asking.{Asked, AskedTo, Filling, Leads, PairsIn, asked-head, asked-start}

module _ {M : Map} {z : ℕ} {A B : ℕ → Type 0} {down e₀ : List ℕ} where
  -- the same junctions by another description
  pub filling-same : {e : List ℕ} → ((a : ℕ) → A a → B a) → ((a : ℕ) → B a → A a) → Filling M z A down e₀ e → Filling M z B down e₀ e
  filling-same into back f = record {
    aims = f.aims;
    size = f.size;
    right = λ a la b. f.right a la (back a b);
    kept = λ v lv no_one. f.kept v lv (λ a la x. no_one a la (into a x));
  }

  -- one junction more is asked
  pub filling-more : {e z' : List ℕ} (j : ℕ) → j < M.vertices → ((a : ℕ) → A a → B a) → B j → ((a : ℕ) → B a → A a ⊎ (a ≡ j))
      → AimFacts M z down z' → z' ≡ filled M z (fills M j) e → Filling M z A down e₀ e → Filling M z B down e₀ z'
  filling-more {e} {z'} j lj into here back aims z-is f = record {
    aims = aims;
    size = ap length z-is ∙ filled-length M z (fills M j) e;
    right = λ a la b. right_of a la (back a b);
    kept = λ v lv no_one. kept_of v lv no_one (decide (fills M j v));
  }
    where
      yes_at : (u : ℕ) → u < M.vertices → fills M j u ≡ true → get_or z' u 0 ≡ word (estimate_of M z u)
      yes_at u lu q = ap (λ (l : List ℕ). get_or l u 0) z-is ∙ filled_yes M z (fills M j) e u lu q

      no-at : (u : ℕ) → u < M.vertices → fills M j u ≡ false → get_or z' u 0 ≡ get_or e u 0
      no-at u lu q = ap (λ (l : List ℕ). get_or l u 0) z-is ∙ filled-no M z (fills M j) e u lu q

      stays : (a u : ℕ) → Filled M z e a → u < M.vertices → fills M a u ≡ true → Tested (fills M j u)
          → get_or z' u 0 ≡ word (estimate_of M z u)
      stays a u g lu r (inl q) = yes_at u lu q
      stays a u g lu r (inr q) = no-at u lu q ∙ g u lu r

      right_of : (a : ℕ) → a < M.vertices → A a ⊎ (a ≡ j) → Filled M z z' a
      right_of a la (inl x) u lu r = stays a u (f.right a la x) lu r (decide (fills M j u))
      right_of a la (inr q) u lu r = yes_at u lu (rw q at r)

      kept_of : (v : ℕ) → v < M.vertices → ((a : ℕ) → a < M.vertices → B a → fills M a v ≡ true → ⊥) → Tested (fills M j v)
          → get_or z' v 0 ≡ get_or e₀ v 0
      kept_of v lv no_one (inl q) = absurd (no_one j lj here q)
      kept_of v lv no_one (inr q) = no-at v lv q ∙ f.kept v lv (λ a la x. no_one a la (into a x))

-- one junction more is asked, whose estimate is filled already
pub filling-again : {M : Map} {z : ℕ} {A B : ℕ → Type 0} {down e₀ e : List ℕ} (j : ℕ) → j < M.vertices → (get_or e j 0 ≡ unasked → ⊥)
    → ((a : ℕ) → A a → B a) → ((a : ℕ) → B a → A a ⊎ (a ≡ j)) → Filling M z A down e₀ e → Filling M z B down e₀ e
filling-again {M} {z} {A} {e = e} j lj known into back f = record {
  aims = f.aims;
  size = f.size;
  right = λ a la b. right_of a la (back a b);
  kept = λ v lv no_one. f.kept v lv (λ a la x. no_one a la (into a x));
}
  where
    entry : (get_or e j 0 ≡ unasked) ⊎ Filled M z e j → Filled M z e j
    entry (inl q) = absurd (known q)
    entry (inr x) = x

    right_of : (a : ℕ) → a < M.vertices → A a ⊎ (a ≡ j) → Filled M z e a
    right_of a la (inl x) = f.right a la x
    right_of a la (inr q) = subst (Filled M z e) (sym q) (entry (f.aims.entries j lj))

-- the estimate of an asked junction is known
pub filling-known : {M : Map} {z : ℕ} {A : ℕ → Type 0} {down e₀ e : List ℕ} → Filling M z A down e₀ e → (a : ℕ) → a < M.vertices → A a
    → get_or e a 0 ≡ word (estimate_of M z a)
filling-known {M} f a la x = f.right a la x a la (fills_self M a)

-- nothing is asked yet
pub filling-none : {M : Map} {z : ℕ} {down e : List ℕ} → AimFacts M z down e → length e ≡ M.vertices → Filling M z (λ a. ⊥) down e e
filling-none aims size = record { aims = aims; size = size; right = λ a la x. absurd x; kept = λ v lv no_one. refl }

-- lengths where the estimates are as long as before
pub pairs-kept : {z : Sizes} {order ranks pairs times down e e' : List ℕ} → PairsIn z order ranks pairs times down e
    → length e' ≡ length e → PairsIn z order ranks pairs times down e'
pairs-kept x q = record {
  n-high = x.n-high;
  count-high = x.count-high;
  order_is = x.order_is;
  ranks_are = x.ranks_are;
  pairs_are = x.pairs_are;
  times_are = x.times_are;
  down_is = x.down_is;
  estimates_are = q ∙ x.estimates_are;
}

-- ---- who is asked

module _ {N : Network} {u a : ℕ} where
  -- no road is numbered below 0
  pub leads-none : Leads N u 0 a → ⊥
  leads-none x = omega (arith, x.below)

  -- the same road, by another bound
  leads-below : {k l : ℕ} (x : Leads N u k a) → x.road < l → Leads N u l a
  leads-below x b = record
      { road = x.road; cost = x.cost; below = b; inside = x.inside; from = x.from; opens = x.opens; to = x.to }

module _ {N : Network} {u k : ℕ} where
  pub leads-skip : {l : ℕ} → k ≤ l → (a : ℕ) → Leads N u k a → Leads N u l a
  leads-skip le a x = leads-below x (omega (arith, x.below))

  -- no road of u from k up to l - 1
  pub leads_skip_back : {l : ℕ} → ((i : ℕ) → k ≤ i → i < l → N.tail i ≡ u → ⊥) → (a : ℕ) → Leads N u l a → Leads N u k a
  leads_skip_back {l} none_of a x = leads-below x (at (dec_lt x.road k))
    where
      at : Dec (x.road < k) → x.road < k
      at (yes q) = q
      at (no q) = absurd (none_of x.road (omega arith) x.below x.from)

  -- road k is closed, or open
  pub leads-closed : N.cost k ≡ none → (a : ℕ) → Leads N u (k + 1) a → Leads N u k a
  leads-closed e a x = leads-below x (at (ℕ_discrete x.road k))
    where
      at : Dec (x.road ≡ k) → x.road < k
      at (yes q) = absurd (none-some e (ap N.cost (sym q) ∙ x.opens))
      at (no q) = omega (arith, x.below)

  pub leads_open : (a : ℕ) → Leads N u (k + 1) a → Leads N u k a ⊎ (a ≡ N.head k)
  leads_open a x = at (ℕ_discrete x.road k)
    where
      at : Dec (x.road ≡ k) → Leads N u k a ⊎ (a ≡ N.head k)
      at (yes q) = inr (sym x.to ∙ ap N.head q)
      at (no q) = inl (leads-below x (omega (arith, x.below)))

module _ {G : Problem} {s z : ℕ} where
  -- before anything is logged
  pub asked-first : (a : ℕ) → Asked G s z [] a → a ≡ s
  unfolding time_in
  asked-first a (asked-start e) = e
  asked-first a (asked-head u t nz h x) = absurd (none-some refl h)

  -- an entry is logged
  module _ {H : List Entry} (e : Entry) (new : time_in H e.vertex ≡ none) where
    pub asked-older : (a : ℕ) → Asked G s z H a → Asked G s z (e ∷ H) a
    asked-older a (asked-start q) = asked-start q
    asked-older a (asked-head u t nz h x) =
        asked-head u t nz (time_in-there e H u (λ q. none-some new (ap (time_in H) q ∙ h)) ∙ h) x

    -- it is the target, and asks no one
    pub asked-goal : e.vertex ≡ z → (a : ℕ) → Asked G s z (e ∷ H) a → Asked G s z H a
    asked-goal g a (asked-start q) = asked-start q
    asked-goal g a (asked-head u t nz h x) = asked-head u t nz (sym (time_in-there e H u (λ q. nz (sym q ∙ g))) ∙ h) x

    -- it is not, and asks the heads of its open roads
    module _ (ne : e.vertex ≡ z → ⊥) {m : ℕ} (m-is : G.net.arcs ≡ m) where
      pub asked-more : (a : ℕ) → AskedTo G s z H e.vertex m a → Asked G s z (e ∷ H) a
      asked-more a (inl x) = asked-older a x
      asked-more a (inr x) = asked-head e.vertex e.time ne (time_in-here e H e.vertex refl)
          (subst (λ (k : ℕ). Leads G.net e.vertex k a) (sym m-is) x)

      pub asked_more_back : (a : ℕ) → Asked G s z (e ∷ H) a → AskedTo G s z H e.vertex m a
      asked_more_back a (asked-start q) = inl (asked-start q)
      asked_more_back a (asked-head u t nz h x) = at (time_in-cases e H u t h)
        where
          at : TimeIs e H u t → AskedTo G s z H e.vertex m a
          at (inl q) = inr (subst₂ (λ (v : ℕ) (k : ℕ). Leads G.net v k a) (sym q.0) m-is x)
          at (inr q) = inl (asked-head u t nz q.1 x)
