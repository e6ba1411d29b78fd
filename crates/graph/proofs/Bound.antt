-- Proves that among n vertices, where every arc costs at most C, each least total is at most (n - 1) * C: a least path visits no vertex
-- twice. `dist-bound` is of all paths, `up-bound`, `down-bound`, `down_total-bound`, `estimate-bound` of the hierarchy. Assumes
-- nothing.
use Rattle.std.proofs.Common.{◌∙◌, sym, inl, inr, zero-le, add-zero, arith}
use Rattle.std.specs.Prelude.{◌≡◌, refl, ◌⊎◌, ◌*◌, ◌+◌, ◌-◌, ◌<◌, ◌≤◌, suc, zero, ℕ, length}
use Rattle.std.proofs.Math.Option.{some}
use mathlib.Core.List.{List, Memᴰ}
use Rattle.std.proofs.Math.Decide.{ℕ_discrete}
use Rattle.graph.specs.Total.{Total, ◌≼◌}
use Rattle.graph.proofs.Total.{none-some, some-some}
use Rattle.graph.specs.Least.{AtMost, IsLeast}
use Rattle.graph.proofs.Least.{exactly}
use Rattle.graph.specs.Lists.{range}
use Rattle.graph.proofs.Lists.{length-remove, mem_pos, mem-remove, range_length, range-mem, remove}
use Rattle.graph.specs.Path.{Arcs, EndsBelow, Inner, Path, Via, Weighs, Weights, arc, empty, link, step}
use Rattle.graph.proofs.Path.{via_join}
use Rattle.graph.specs.Network.{Arc, Network}
use Rattle.graph.specs.Level.{dist, level}
use Rattle.graph.proofs.Level.{dist-least, level-least}
use Rattle.graph.specs.Pairs.{down, up}
use Rattle.graph.proofs.Pairs.{down-at, down_lt, up_at, up_lt}
use Rattle.graph.specs.Estimate.{Compared, down_total}
use Rattle.graph.proofs.Estimate.{compare, down_total-below, down_total-here, down_total-level}
use Rattle.graph.specs.Estimate.{estimate, compared_greater, compared_less, compared_equal}
use Rattle.graph.proofs.Estimate.{estimate-dist}
use Rattle.graph.specs.Bound.{CostsAtMost, Short}

-- ---- paths among the vertices of a list

-- a path that stays among the vertices of l
data Among (E : Arcs) (l : List ℕ) : ℕ → ℕ → ℕ → Type 0 where
  stop : {a : ℕ} → Memᴰ a l → Among E l a a 0
  go : {a v b c t : ℕ} → Memᴰ a l → E a v c → Among E l v b t → Among E l a b (c + t)

module _ (E : Arcs) where
  starts : {l : List ℕ} {a b t : ℕ} → Among E l a b t → Memᴰ a l
  starts (stop m) = m
  starts (go m e p) = m

  -- a path that leaves a, a member of l, and does not return to it
  data Leaves {l : List ℕ} {a : ℕ} (m : Memᴰ a l) : ℕ → ℕ → Type 0 where
    stays : Leaves m a 0
    goes : {v b c t : ℕ} → E a v c → Among E (remove m) v b t → Leaves m b (c + t)

  -- from the last visit of a on
  last : {l : List ℕ} {a x b t : ℕ} (k : Memᴰ a l) → Among E l x b t → Among E (remove k) x b t ⊎ AtMost (Leaves k b) t
  last {a} k (stop {a = x} m) = at (ℕ_discrete x a)
    where
      at : Dec (x ≡ a) → Among E (remove k) x x 0 ⊎ AtMost (Leaves k x) 0
      at (yes e) = inr (rw e (exactly stays))
      at (no e) = inl (stop (mem-remove k e m))
  last {a} {b} k (go {a = x} {v} {c} {t} m e p) = at (last k p) (ℕ_discrete x a)
    where
      at : Among E (remove k) v b t ⊎ AtMost (Leaves k b) t → Dec (x ≡ a) → Among E (remove k) x b (c + t) ⊎ AtMost (Leaves k b) (c + t)
      at (inr r) d = inr (record { total = r.total; le = omega (arith, r.le); holds = r.holds })
      at (inl q) (yes f) = inr (exactly (goes (rw f at e) q))
      at (inl q) (no f) = inl (go (mem-remove k f m) e q)

  leaves : {l : List ℕ} {a b t : ℕ} (k : Memᴰ a l) → Among E l a b t → AtMost (Leaves k b) t
  leaves k (stop m) = exactly stays
  leaves {b} k (go {v} {c} {t} m e p) = at (last k p)
    where
      at : Among E (remove k) v b t ⊎ AtMost (Leaves k b) t → AtMost (Leaves k b) (c + t)
      at (inl q) = exactly (goes e q)
      at (inr r) = record { total = r.total; le = omega (arith, r.le); holds = r.holds }

module _ {E : Arcs} {C : ℕ} (most : CostsAtMost E C) where
  first : {l : List ℕ} {a b t : ℕ} (k : Memᴰ a l) (B : ℕ) → AtMost (Leaves E k b) t
      → ((v u : ℕ) → Among E (remove k) v b u → AtMost (λ s. Path E v b s × (s + C ≤ B)) u) → Short E B a b t
  first {a} {b} {t} k B r f = go r.total r.le r.holds f
    where
      go : {b : ℕ} (u : ℕ) → u ≤ t → Leaves E k b u → ((v u : ℕ) → Among E (remove k) v b u → AtMost (λ s. Path E v b s × (s + C ≤ B)) u)
          → Short E B a b t
      go u le stays f = record { total = 0; le = zero-le; holds = (empty, zero-le) }
      go u le (goes {v} {c} {t = s} e p) f =
          let q = f v s p in
          record {
            total = c + q.total;
            le = omega (arith, q.le);
            holds = (link e q.holds.0, omega (arith, q.holds.1, most a v c e));
          }

  short : (m : ℕ) (l : List ℕ) {a b t : ℕ} → length l ≤ suc m → Among E l a b t → Short E (m * C) a b t
  short zero l {a} h p =
      let k = starts E p in
      first k (0 * C) (leaves E k p) (λ v u q. let z : ⊥ = omega (arith, mem_pos (starts E q), length-remove k) in absurd z)
  short (suc m) l {a} h p =
      let k = starts E p in
      first k (suc m * C) (leaves E k p) (λ v u q.
      let r = short m (remove k) (omega (arith, length-remove k)) q in
      record { total = r.total; le = r.le; holds = (r.holds.0, omega (arith, r.holds.1)) })

  -- a path among n vertices is no shorter than one of total at most (n - 1) * C
  pub path-short : {n a b t : ℕ} → EndsBelow E n → a < n → Path E a b t → Short E ((n - 1) * C) a b t
  path-short {n} ends an p = short (n - 1) (range n) (omega (arith, range_length n)) (among an p)
    where
      among : {a b t : ℕ} → a < n → Path E a b t → Among E (range n) a b t
      among h (empty {a}) = stop (range-mem n a h)
      among h (link {a} {v} {c} e p) = go (range-mem n a h) e (among (ends a v c e).1 p)

-- ---- the bounds

-- where each total of P can be had within B, so can the least
pub least-at_most : {P : ℕ → Type 0} {x : Total} {t : ℕ} (B : ℕ) → IsLeast P x → ((u : ℕ) → P u → AtMost (λ s. P s × (s ≤ B)) u)
    → x ≡ some t → t ≤ B
least-at_most {x} {t} B l f e =
    let c = f t (l.attained t e) in
    let h : some t ≼ some c.total = rw e at (l.bound c.total c.holds.0) in
    omega (arith, c.holds.1)

-- the arcs that a path to b with its inner vertices below k may take
record Only (E : Arcs) (k b x y c : ℕ) : Type 0 where
  is : E x y c
  meets : (y ≡ b) ⊎ (y < k)

module _ {E : Arcs} where
  inner_only : {k a b t : ℕ} → Inner E k a b t → Path (Only E k b) a b t
  inner_only (arc {c} e) = rw (← add-zero c) (link (record { is = e; meets = inl refl }) empty)
  inner_only (step e h p) = link (record { is = e; meets = inr h }) (inner_only p)

  -- and the path ends where it first meets b
  only_to : {k b a z t : ℕ} → Path (Only E k b) a z t → z ≡ b → AtMost (Via E k a b) t
  only_to empty q = exactly (inl (q, refl))
  only_to {k} {b} {a} (link {v} {c} {t} o p) q = at o.meets (only_to p q)
    where
      at : (v ≡ b) ⊎ (v < k) → AtMost (Via E k v b) t → AtMost (Via E k a b) (c + t)
      at (inl e) r = record { total = c; le = omega arith; holds = inr (arc (rw e at o.is)) }
      at (inr h) r = record { total = c + r.total; le = omega (arith, r.le); holds = inr (via_join (arc o.is) h r.holds) }

  only-via : {k a b t : ℕ} → Path (Only E k b) a b t → AtMost (Via E k a b) t
  only-via p = only_to p refl

module _ {E : Arcs} {w : Weights} (least : Weighs E w) {n C : ℕ} (ends : EndsBelow E n) (most : CostsAtMost E C) where
  pub dist-bound : (a b : ℕ) {t : ℕ} → a < n → dist w n a b ≡ some t → t ≤ (n - 1) * C
  dist-bound a b h e = least-at_most ((n - 1) * C) (dist-least least ends a b) (λ u p. path-short most ends h p) e

  pub level-bound : (k a b : ℕ) {t : ℕ} → a < n → (a ≡ b → ⊥) → level w k a b ≡ some t → t ≤ (n - 1) * C
  level-bound k a b h other e = least-at_most ((n - 1) * C) (level-least least k a b) (λ u p. shorter u p) e
    where
      nonempty : {s : ℕ} → Via E k a b s → Inner E k a b s
      nonempty (inl q) = absurd (other q.0)
      nonempty (inr p) = p

      shorter : (u : ℕ) → Inner E k a b u → AtMost (λ s. Inner E k a b s × (s ≤ (n - 1) * C)) u
      shorter u p =
          let q = path-short {E = Only E k b} (λ x y c o. most x y c o.is) (λ x y c o. ends x y c o.is) h (inner_only p) in
          let r = only-via q.holds.0 in
          record { total = r.total; le = omega (arith, r.le, q.le); holds = (nonempty r.holds, omega (arith, r.le, q.holds.1)) }

  pub up-bound : (low high : ℕ) {t : ℕ} → low < n → up w low high ≡ some t → t ≤ (n - 1) * C
  up-bound low high {t} h e =
      let lt = up_lt w low high t e in
      level-bound low low high h (λ s. omega arith) (rw (up_at w low high lt) at e)

  pub down-bound : (low high : ℕ) {t : ℕ} → high < n → down w low high ≡ some t → t ≤ (n - 1) * C
  down-bound low high {t} h e =
      let lt = down_lt w low high t e in
      level-bound low high low h (λ s. omega arith) (rw (down-at w low high lt) at e)

  pub down_total-bound : (t h : ℕ) {u : ℕ} → h < n → down_total w t h ≡ some u → u ≤ (n - 1) * C
  down_total-bound t h {u} hn e = at (compare t h)
    where
      at : Compared t h → u ≤ (n - 1) * C
      at (compared_less lt) = level-bound h h t hn (λ s. omega arith) (rw (down_total-level least t h lt) at e)
      at (compared_equal s) =
          let z : u ≡ 0 = some-some refl (sym e ∙ rw s (down_total-here w h)) in
          omega arith
      at (compared_greater gt) = absurd (none-some refl (sym (down_total-below w t h gt) ∙ e))

  pub estimate-bound : (t a : ℕ) {u : ℕ} → t < n → a < n → estimate w n t a ≡ some u → u ≤ (n - 1) * C
  estimate-bound t a tn an e = dist-bound a t an (rw (estimate-dist least n t a tn an) at e)

-- the arcs of a network, one by one
pub arcs-most : {N : Network} {C : ℕ} → ((i c : ℕ) → i < N.arcs → N.cost i ≡ some c → c ≤ C) → CostsAtMost (Arc N) C
arcs-most most a b c e = most e.index c e.below e.at.costs
