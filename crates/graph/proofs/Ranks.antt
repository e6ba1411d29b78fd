-- Proves that rank and order undo each other, and that the totals of paths, so pairs and estimates too, do not depend on the names
-- (`inner_least`, `estimate-least`). Assumes nothing.
use Rattle.std.proofs.Common.{◌∙◌, ap, sym, eqb-true, not-suc-le-zero, arith}
use Rattle.std.specs.Prelude.{◌≡◌, refl, Bool, false, true, ◌<◌, suc, zero, ℕ, eqb}
use Rattle.std.proofs.lemmas.Bool.{eqb-false}
use Rattle.std.proofs.Math.Decide.{ℕ_discrete}
use Rattle.graph.specs.Total.{Total}
use Rattle.graph.specs.Least.{IsLeast}
use Rattle.graph.proofs.Least.{exactly, least-cover, least-map}
use Rattle.graph.proofs.Lists.{length-remove, mem-remove, pigeonhole, range_length, range-mem, remove}
use Rattle.graph.specs.Path.{Inner, InnerBy, Path, arc, empty, link, step}
use Rattle.graph.specs.Network.{Arc, InRange, Network, arc_of, direct}
use Rattle.graph.proofs.Network.{direct-least, ends-below}
use Rattle.graph.proofs.Level.{dist-least}
use Rattle.graph.specs.Estimate.{estimate}
use Rattle.graph.proofs.Estimate.{estimate-dist}
use Rattle.graph.specs.Ranks.{renamed, Renames, Orders, rank_of}

module _ {n : ℕ} {f : ℕ → ℕ} {N : Network} (ren : Renames n f) (inside : InRange n N) where
  pub renamed-inside : InRange n (renamed f N)
  renamed-inside =
      record { tails = λ i h. ren.named (N.tail i) (inside.tails i h); heads = λ i h. ren.named (N.head i) (inside.heads i h) }

  arc-renamed : {a b c : ℕ} → Arc N a b c → Arc (renamed f N) (f a) (f b) c
  arc-renamed e = arc_of e.index e.below (ap f e.at.from) (ap f e.at.to) e.at.costs

  arc_unrenamed : {a b x y c : ℕ} → a < n → b < n → x ≡ f a → y ≡ f b → Arc (renamed f N) x y c → Arc N a b c
  arc_unrenamed {a} {b} ha hb ea eb e =
      let i = e.index in
      let from : N.tail i ≡ a = ren.once (N.tail i) a (inside.tails i e.below) ha (e.at.from ∙ ea) in
      let to : N.head i ≡ b = ren.once (N.head i) b (inside.heads i e.below) hb (e.at.to ∙ eb) in
      arc_of i e.below from to e.at.costs

  path-renamed : {a b t : ℕ} → Path (Arc N) a b t → Path (Arc (renamed f N)) (f a) (f b) t
  path-renamed empty = empty
  path-renamed (link e p) = link (arc-renamed e) (path-renamed p)

  path_unrenamed : {a b x y t : ℕ} → a < n → b < n → x ≡ f a → y ≡ f b → Path (Arc (renamed f N)) x y t → Path (Arc N) a b t
  path_unrenamed {a} {b} ha hb ea eb empty = rw (ren.once a b ha hb (sym ea ∙ eb)) empty
  path_unrenamed {a = a} {b = b} ha hb ea eb (link e p) =
      let hv = inside.heads e.index e.below in
      let ev = sym e.at.to in
      link (arc_unrenamed ha hv ea ev e) (path_unrenamed {a = N.head e.index} {b = b} hv hb ev eb p)

  inner_renamed : {k a b t : ℕ} → InnerBy f (Arc N) k a b t → Inner (Arc (renamed f N)) k (f a) (f b) t
  inner_renamed (arc e) = arc (arc-renamed e)
  inner_renamed (step e h p) = step (arc-renamed e) h (inner_renamed p)

  inner_unrenamed : {k a b x y t : ℕ} → a < n → b < n → x ≡ f a → y ≡ f b → Inner (Arc (renamed f N)) k x y t → InnerBy f (Arc N) k a b t
  inner_unrenamed ha hb ea eb (arc e) = arc (arc_unrenamed ha hb ea eb e)
  inner_unrenamed {k = k} {a = a} {b = b} ha hb ea eb (step e h p) =
      let hv = inside.heads e.index e.below in
      let ev = sym e.at.to in
      step (arc_unrenamed ha hv ea ev e) (rw e.at.to h) (inner_unrenamed {k = k} {a = N.head e.index} {b = b} hv hb ev eb p)

  -- a least total by ranks of paths through low ranks is that of the paths between the vertices themselves
  pub inner_least : {k a b : ℕ} {x : Total} → a < n → b < n → IsLeast (Inner (Arc (renamed f N)) k (f a) (f b)) x
      → IsLeast (InnerBy f (Arc N) k a b) x
  inner_least ha hb l = least-map (λ t p. inner_unrenamed ha hb refl refl p) (λ t p. inner_renamed p) l

  -- the estimate by ranks is the least total of the paths of arcs between the vertices themselves
  pub estimate-least : (t a : ℕ) → t < n → a < n → IsLeast (Path (Arc N) a t) (estimate (direct (renamed f N)) n (f t) (f a))
  estimate-least t a ht ha =
      rw (estimate-dist (direct-least (renamed f N)) n (f t) (f a) (ren.named t ht) (ren.named a ha))
      (least-cover (dist-least (direct-least (renamed f N)) (ends-below renamed-inside) (f a) (f t))
      (λ u p. path_unrenamed ha ht refl refl p) (λ u p. exactly (path-renamed p)))

-- a stands at its rank, or at no place
data Place (n : ℕ) (f : ℕ → ℕ) (a : ℕ) : Type 0 where
  stands : rank_of n f a < n → f (rank_of n f a) ≡ a → Place n f a
  nowhere : ((i : ℕ) → i < n → f i ≡ a → ⊥) → Place n f a

look : (n : ℕ) (f : ℕ → ℕ) (a : ℕ) → Place n f a
look zero f a = nowhere (λ i h e. not-suc-le-zero h)
look (suc n) f a = go (eqb (f n) a) refl (look n f a)
  where
    -- the last place does not hold a
    past : eqb (f n) a ≡ false → ((i : ℕ) → i < n → f i ≡ a → ⊥) → (i : ℕ) → i < suc n → f i ≡ a → Dec (i ≡ n) → ⊥
    past e g i h k (yes p) =
        eqb-false (f n) a e (ap f (sym p) ∙ k)
    past e g i h k (no p) = g i (omega arith) k

    go : (b : Bool) → eqb (f n) a ≡ b → Place n f a → Place (suc n) f a
    go true e r =
        stands (rw e (omega arith)) (rw e (eqb-true (f n) a e))
    go false e (stands lt h) = stands (rw e (omega arith)) (rw e h)
    go false e (nowhere g) = nowhere (λ i h k. past e g i h k (ℕ_discrete i n))

module _ {n : ℕ} {f : ℕ → ℕ} (o : Orders n f) where
  -- every vertex has its place, by the pigeonhole
  placed : (a : ℕ) → a < n → (rank_of n f a < n) × (f (rank_of n f a) ≡ a)
  placed a h = go (look n f a)
    where
      go : Place n f a → (rank_of n f a < n) × (f (rank_of n f a) ≡ a)
      go (stands lt e) = (lt, e)
      go (nowhere g) =
          let k = range-mem n a h in
          let m = pigeonhole n f (remove k) o.new (λ i hi. mem-remove k (g i hi) (range-mem n (f i) (o.below i hi))) in
          let z : ⊥ = omega (arith, length-remove k, range_length n) in
          absurd z

  pub rank_below : (a : ℕ) → a < n → rank_of n f a < n
  rank_below a h = (placed a h).0

  pub vertex_of_rank : (a : ℕ) → a < n → f (rank_of n f a) ≡ a
  vertex_of_rank a h = (placed a h).1

  pub rank_of-vertex : (i : ℕ) → i < n → rank_of n f (f i) ≡ i
  rank_of-vertex i h = o.new (rank_of n f (f i)) i (rank_below (f i) (o.below i h)) h (vertex_of_rank (f i) (o.below i h))

  pub ranks_rename : Renames n (rank_of n f)
  ranks_rename = record {
    named = rank_below;
    once = λ a b ha hb e. sym (vertex_of_rank a ha) ∙ ap f e ∙ vertex_of_rank b hb;
  }
