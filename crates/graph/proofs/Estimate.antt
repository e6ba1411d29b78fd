-- Proves that a down total is the least total over paths of down times (`down_total-least`), and of all paths that stay below their
-- first rank (`down_total_inner`); and that an estimate is the least total of all paths (`estimate-via`, `estimate-dist`): some least
-- path climbs by up times and then falls by down times. Assumes nothing.
use Rattle.std.proofs.Common.{◌∙◌, inl, inr, zero-le, eq-eqb, eqb-true, add_assoc, add-zero, le_of_suc-le-suc, le_refl, lt_irrefl}
use Rattle.std.proofs.Common.{lt_of_lt_of_le, not-suc-le-zero, arith}
use Rattle.std.specs.Prelude.{◌≡◌, ◌⊎◌, Bool, ◌+◌, ◌-◌, ◌<◌, ◌≤◌, suc, zero, ℕ, eqb}
use Rattle.std.proofs.Math.Path.{ap, refl, sym}
use Rattle.std.proofs.Math.Bool.{cond, false, true}
use Rattle.std.proofs.Math.Option.{none, some}
use Rattle.std.proofs.lemmas.Bool.{eqb-false}
use Rattle.std.proofs.Math.Decide.{dec_lt}
use Rattle.graph.specs.Total.{Total, ◌⊓◌, ◌⊕◌}
use Rattle.graph.proofs.Total.{none-some, within, ⊓-assoc, ⊓-none}
use Rattle.graph.specs.Least.{AtMost, IsLeast, Local, SomeBelow, Sum}
use Rattle.graph.proofs.Least.{exactly, least-below}
use Rattle.graph.proofs.Least.{least_cond, least-cover, least-empty, least-number, least_self, least_unique, least-⊓}
use Rattle.graph.specs.Least.{min_below}
use Rattle.graph.proofs.Least.{least-⊕, measured_law, min_below_cong, min_below-none, min_below-skip}
use Rattle.graph.specs.Path.{Arcs, Inner, Path, Via, Weighs, Weights, arc, empty, link, step}
use Rattle.graph.proofs.Path.{inner_join, inner_wider, via_join}
use Rattle.graph.specs.Level.{dist, level}
use Rattle.graph.proofs.Level.{dist-via, level-least}
use Rattle.graph.specs.Pairs.{down, up}
use Rattle.graph.proofs.Pairs.{down-least, down_lt, down-none, up_least, up_lt, up_none}
use Rattle.graph.specs.Estimate.{Downs, down_step, down_total, estimate_step, estimate, Climb, turn, rise, Compared, compared_less}
use Rattle.graph.specs.Estimate.{compared_equal, compared_greater, pushed, asked}

-- ---- their recursion

module _ (w : Weights) where
  down_local : (t : ℕ) → Local (down_step w t) (λ h. h)
  down_local t f g h same =
      ap (cond (eqb h t) (some 0))
      (min_below_cong h (λ l. down w l h ⊕ f l) (λ l. down w l h ⊕ g l) (λ l lt. ap (◌⊕◌ (down w l h)) (same l lt)))

  pub down_total_law : (t h : ℕ) → down_total w t h ≡ cond (eqb h t) (some 0) (min_below h (λ l. down w l h ⊕ down_total w t l))
  unfolding down_total
  down_total_law t h = measured_law (down_local t) h

  -- a minimum over the up times of a looks at higher ranks only
  pub ups_cong : (n a : ℕ) (f g : ℕ → Total) → ((h : ℕ) → n - h < n - a → f h ≡ g h)
      → min_below n (λ h. up w a h ⊕ f h) ≡ min_below n (λ h. up w a h ⊕ g h)
  ups_cong n a f g same = min_below_cong n (λ h. up w a h ⊕ f h) (λ h. up w a h ⊕ g h) (λ h hn. at h hn (dec_lt a h))
    where
      at : (h : ℕ) → h < n → Dec (a < h) → up w a h ⊕ f h ≡ up w a h ⊕ g h
      at h hn (yes lt) = ap (◌⊕◌ (up w a h)) (same h (omega arith))
      at h hn (no nlt) = rw (up_none w a h (omega arith))

  estimate_local : (n t : ℕ) → Local (estimate_step w n t) (λ a. n - a)
  estimate_local n t f g a same = ap (◌⊓◌ (down_total w t a)) (ups_cong n a f g same)

  pub estimate_law : (n t a : ℕ) → estimate w n t a ≡ down_total w t a ⊓ min_below n (λ h. up w a h ⊕ estimate w n t h)
  unfolding estimate
  estimate_law n t a = measured_law (estimate_local n t) a

  -- ---- what they are the least of

  fall : {h t u : ℕ} → Path (Downs w) h t u → eqb h t ≡ false → AtMost (SomeBelow h (λ l. Sum (Downs w h l) (Path (Downs w) l t))) u
  fall (empty {a}) other = absurd (eqb-false a a other refl)
  fall {h} (link {v} {c} {t = s} e p) other =
      exactly (record { index = v; below = down_lt w v h c e; at = record { one = c; two = s; first = e; second = p; adds = refl } })

  pub down_total-least : (t h : ℕ) → IsLeast (Path (Downs w) h t) (down_total w t h)
  down_total-least t h = below (suc h) h (omega arith)
    where
      below : (d h : ℕ) → h < d → IsLeast (Path (Downs w) h t) (down_total w t h)
      below zero h lt = absurd (not-suc-le-zero lt)
      below (suc d) h lt =
          rw (down_total_law t h)
          (least_cond (eqb h t)
          (λ same. rw (eqb-true h t same) (least-number empty (λ u p. zero-le)))
          (λ other. least-cover
          (least-below h (λ l hl. least-⊕ (least_self (down w l h)) (below d l (omega arith))))
          (λ u s. rw s.at.adds at (link s.at.first s.at.second))
          (λ u p. fall p other)))

  -- an up time, and then a total of a higher rank
  pub rises : (n a : ℕ) {P : ℕ → ℕ → Type 0} {f : ℕ → Total} → ((h : ℕ) → a < h → h < n → IsLeast (P h) (f h))
      → IsLeast (SomeBelow n (λ h. Sum (λ c. up w a h ≡ some c) (P h))) (min_below n (λ h. up w a h ⊕ f h))
  rises n a {P} {f} above = least-below n (λ h hn. at h hn (dec_lt a h))
    where
      at : (h : ℕ) → h < n → Dec (a < h) → IsLeast (Sum (λ c. up w a h ≡ some c) (P h)) (up w a h ⊕ f h)
      at h hn (yes lt) = least-⊕ (least_self (up w a h)) (above h lt hn)
      at h hn (no nlt) = rw (up_none w a h (omega arith)) (least-empty (λ u s. none-some refl s.first))

module _ (w : Weights) (n t : ℕ) where
  pub estimate-climb : (a : ℕ) → IsLeast (Climb w n t a) (estimate w n t a)
  estimate-climb a = below (suc (n - a)) a (omega arith)
    where
      cover : (a u : ℕ) → Climb w n t a u
          → AtMost (λ u. Path (Downs w) a t u ⊎ SomeBelow n (λ h. Sum (λ c. up w a h ≡ some c) (Climb w n t h)) u) u
      cover a u (turn p) = exactly (inl p)
      cover a u (rise {h = h} {c} {u = s} e hn p) = exactly (inr (record {
        index = h;
        below = hn;
        at = record { one = c; two = s; first = e; second = p; adds = refl };
      }))

      below : (d a : ℕ) → n - a < d → IsLeast (Climb w n t a) (estimate w n t a)
      below zero a lt = absurd (not-suc-le-zero lt)
      below (suc d) a lt =
          rw (estimate_law w n t a)
          (least-cover
          (least-⊓ (down_total-least w t a) (rises w n a (λ h ah hn. below d h (omega arith))))
          (λ u. elim [ inl p ↦ turn p | inr s ↦ rw s.at.adds at (rise s.at.first s.below s.at.second) ])
          (λ u p. cover a u p))

pub compare : (a b : ℕ) → Compared a b
compare a b = go (dec_lt a b) (dec_lt b a)
  where
    go : Dec (a < b) → Dec (b < a) → Compared a b
    go (yes h) k = compared_less h
    go (no h) (yes k) = compared_greater k
    go (no h) (no k) = compared_equal (omega arith)

module _ {E : Arcs} {w : Weights} (least : Weighs E w) where
  -- a pair's time is at most the total of any path that it stands for
  up-within : {a h c : ℕ} → a < h → Inner E a a h c → (s : ℕ) × (up w a h ≡ some s) × (s ≤ c)
  up-within {a} {h} {c} lt p = within (up w a h) c ((up_least least lt).bound c p)

  down-within : {l h c : ℕ} → l < h → Inner E l h l c → (s : ℕ) × (down w l h ≡ some s) × (s ≤ c)
  down-within {l} {h} {c} lt p = within (down w l h) c ((down-least least lt).bound c p)

  -- and is the total of such a path
  up-path : {a h c : ℕ} → up w a h ≡ some c → Inner E a a h c
  up-path {a} {h} {c} e = (up_least least (up_lt w a h c e)).attained c e

  down-path : {l h c : ℕ} → down w l h ≡ some c → Inner E l h l c
  down-path {l} {h} {c} e = (down-least least (down_lt w l h c e)).attained c e

  fall-via : {n a t u : ℕ} → a < n → Path (Downs w) a t u → Via E n a t u
  fall-via h empty = inl (refl, refl)
  fall-via {n} h (link {a} {v} {c} e p) =
      let lt : v < a = down_lt w v a c e in
      let le : v ≤ n = omega arith in
      inr (via_join (inner_wider le (down-path e)) (omega arith) (fall-via (omega arith) p))

  climb-via : {n t a u : ℕ} → a < n → Climb w n t a u → Via E n a t u
  climb-via h (turn p) = fall-via h p
  climb-via {n} {a} h (rise {h = g} e hn p) =
      let le : a ≤ n = omega arith in
      inr (via_join (inner_wider le (up-path e)) hn (climb-via hn p))

  -- a path whose inner vertices rank below both ends, before a climb: upwards it is a rise, and a loop is dropped
  over : {n t k a v c u : ℕ} → Inner E k a v c → k ≤ a → v < n → Climb w n t v u → (v < a → AtMost (Climb w n t a) (c + u))
      → AtMost (Climb w n t a) (c + u)
  over {n} {t} {k} {a} {v} {c} {u} p ka vn q f = go (compare a v)
    where
      go : Compared a v → AtMost (Climb w n t a) (c + u)
      go (compared_less lt) =
          let (s, up_is, le) = up-within lt (inner_wider ka p) in
          record { total = s + u; le = omega arith; holds = rise up_is vn q }
      go (compared_equal e) = record { total = u; le = omega arith; holds = rw e q }
      go (compared_greater lt) = f lt

  -- downwards it goes before the fall, or before the rise, with which it makes one path
  before : {n t k a v c u : ℕ} → Inner E k a v c → k ≤ a → k ≤ v → v < n → Climb w n t v u → AtMost (Climb w n t a) (c + u)
  before {n} {t} {a} {c} p ka kv vn (turn {a = v} {u} q) =
      over p ka vn (turn q) (λ lt.
      let (s, down_is, le) = down-within lt (inner_wider kv p) in
      record { total = s + u; le = omega arith; holds = turn (link down_is q) })
  before {n} {t} {k} {a} {c} p ka kv vn (rise {a = v} {h} {c = s} {u} e hn q) =
      over p ka vn (rise e hn q) (λ lt.
      let vh : v < h = up_lt w v h s e in
      let kv' : k ≤ suc v = omega arith in
      let vv : v ≤ suc v = omega arith in
      rw (← add_assoc c s u) (before {k = suc v} (inner_join (inner_wider kv' p) (omega arith) (inner_wider vv (up-path e))) lt vh hn q))

  inner_climb : {n t a u : ℕ} → t < n → Inner E n a t u → AtMost (Climb w n t a) u
  inner_climb {n} tn (arc {a} {b} {c} e) =
      let p : Inner E 0 a b c = arc e in
      rw add-zero at (before p zero-le zero-le tn (turn empty))
  inner_climb {n} tn (step {a} {v} {c} {t = u} e vn p) =
      let r = inner_climb tn p in
      let q : Inner E 0 a v c = arc e in
      let s = before q zero-le zero-le vn r.holds in
      record { total = s.total; le = omega (arith, s.le, r.le); holds = s.holds }

  via-climb : {n t a u : ℕ} → t < n → Via E n a t u → AtMost (Climb w n t a) u
  via-climb {n} {t} {a} {u} tn (inl q) = rw (q.0, q.1) (exactly (turn empty))
  via-climb tn (inr p) = inner_climb tn p

  pub estimate-via : (n t a : ℕ) → t < n → a < n → IsLeast (Via E n a t) (estimate w n t a)
  estimate-via n t a tn an = least-cover (estimate-climb w n t a) (λ u p. climb-via an p) (λ u p. via-climb tn p)

  pub estimate-dist : (n t a : ℕ) → t < n → a < n → estimate w n t a ≡ dist w n a t
  estimate-dist n t a tn an = least_unique (estimate-via n t a tn an) (dist-via least n a t)

  -- ---- the down total is the least total of a path to t whose inner vertices rank below h

  fallen : {t h u : ℕ} → t < h → Path (Downs w) h t u → Inner E h h t u
  fallen lt empty = absurd (lt_irrefl _ lt)
  fallen lt (link {a} {v} {c} e p) =
      let below : v < a = down_lt w v a c e in
      let le : v ≤ a = omega arith in
      via_join (inner_wider le (down-path e)) below (fall-via below p)

  -- from the highest rank no climb rises
  turned : {t h u : ℕ} → Climb w (suc h) t h u → Path (Downs w) h t u
  turned (turn p) = p
  turned (rise {a} {h} {c} e hn p) = absurd (lt_irrefl a (lt_of_lt_of_le (up_lt w a h c e) (le_of_suc-le-suc hn)))

  pub down_total_inner : (t h : ℕ) → t < h → IsLeast (Inner E h h t) (down_total w t h)
  down_total_inner t h lt =
      least-cover (down_total-least w t h) (λ u p. fallen lt p) (λ u p. only (inner_climb (omega arith) (inner_wider (omega arith) p)))
    where
      only : {t h u : ℕ} → AtMost (Climb w (suc h) t h) u → AtMost (Path (Downs w) h t) u
      only r = record { total = r.total; le = r.le; holds = turned r.holds }

  pub down_total-level : (t h : ℕ) → t < h → down_total w t h ≡ level w h h t
  down_total-level t h lt = least_unique (down_total_inner t h lt) (level-least least h h t)

module _ (w : Weights) where
  pub down_total-here : (t : ℕ) → down_total w t t ≡ some 0
  down_total-here t = down_total_law w t t ∙ rw (eq-eqb t t refl)

  falls : {h t u : ℕ} → Path (Downs w) h t u → t ≤ h
  falls (empty {a}) = le_refl a
  falls (link {a} {v} {c} e p) = omega (arith, falls p, down_lt w v a c e)

  pub down_total-below : (t h : ℕ) → h < t → down_total w t h ≡ none
  down_total-below t h lt = least_unique (down_total-least w t h) (least-empty (λ u p. omega (arith, falls p)))

module _ (w : Weights) where
  pub pushed-first : (t h : ℕ) → pushed w t 0 h ≡ cond (eqb h t) (some 0) none
  unfolding pushed
  pushed-first t h = ⊓-none (cond (eqb h t) (some 0) none)

  pub pushed-next : (t k h : ℕ) → pushed w t (suc k) h ≡ pushed w t k h ⊓ (down w k h ⊕ down_total w t k)
  unfolding pushed
  pushed-next t k h =
      sym (⊓-assoc (cond (eqb h t) (some 0) none) (min_below k (λ l. down w l h ⊕ down_total w t l)) (down w k h ⊕ down_total w t k))

  -- what ranks at or below k is final
  pub pushed-done : (t k h : ℕ) → h ≤ k → pushed w t k h ≡ down_total w t h
  unfolding pushed
  pushed-done t k h le =
      ap (◌⊓◌ (cond (eqb h t) (some 0) none)) (min_below-skip h k (λ l. down w l h ⊕ down_total w t l) le
      (λ l hl lk. rw (down-none w l h hl)))
      ∙ settle (eqb h t) (min_below h (λ l. down w l h ⊕ down_total w t l)) ∙ sym (down_total_law w t h)
    where
      settle : (b : Bool) (x : Total) → cond b (some 0) none ⊓ x ≡ cond b (some 0) x
      settle true none = refl
      settle true (some a) = ap some (omega arith)
      settle false x = refl

  pub asked-first : (n t k a : ℕ) → k ≤ suc a → asked w n t k a ≡ down_total w t a
  unfolding asked
  asked-first n t k a le =
      ap (◌⊓◌ (down_total w t a)) (min_below-none k (λ h. up w a h ⊕ estimate w n t h) (λ h hk. rw (up_none w a h (omega arith))))
      ∙ ⊓-none (down_total w t a)

  pub asked-next : (n t k a : ℕ) → asked w n t (suc k) a ≡ asked w n t k a ⊓ (up w a k ⊕ estimate w n t k)
  unfolding asked
  asked-next n t k a = sym (⊓-assoc (down_total w t a) (min_below k (λ h. up w a h ⊕ estimate w n t h)) (up w a k ⊕ estimate w n t k))

  pub asked-done : (n t a : ℕ) → asked w n t n a ≡ estimate w n t a
  unfolding asked
  asked-done n t a = sym (estimate_law w n t a)
