-- Proves how paths are joined. Assumes nothing.
use Rattle.std.specs.Prelude.{refl, ◌+◌, ◌<◌, ◌≤◌, ℕ}
use Rattle.std.proofs.Common.{subst, inl, inr, add_assoc, add-zero, zero-add, arith}
use Rattle.graph.specs.Path.{Arcs, Path, empty, link, arc, step, Inner, EndsBelow, Via}

module _ {E : Arcs} where
  pub path_join : {a v b s t : ℕ} → Path E a v s → Path E v b t → Path E a b (s + t)
  path_join {t} empty q = rw zero-add q
  path_join {t} (link e p) q = rw add_assoc (link e (path_join p q))

  pub path_snoc : {a v b s c : ℕ} → Path E a v s → E v b c → Path E a b (s + c)
  path_snoc {c} p e = rw (← (add-zero c)) (path_join p (link e empty))

  -- the same with more inner vertices allowed
  pub inner_wider : {k l a b t : ℕ} → k ≤ l → Inner E k a b t → Inner E l a b t
  inner_wider h (arc e) = arc e
  inner_wider h (step e v p) = step e (omega arith) (inner_wider h p)

  pub inner_join : {k a v b s t : ℕ} → Inner E k a v s → v < k → Inner E k v b t → Inner E k a b (s + t)
  inner_join (arc e) h q = step e h q
  inner_join (step e v p) h q = rw add_assoc (step e v (inner_join p h q))

  pub inner_path : {k a b t : ℕ} → Inner E k a b t → Path E a b t
  inner_path (arc {c = c} e) = rw (← add-zero c) (link e empty)
  inner_path (step e v p) = link e (inner_path p)

module _ {E : Arcs} where
  pub via_join : {n a v b s t : ℕ} → Inner E n a v s → v < n → Via E n v b t → Inner E n a b (s + t)
  via_join {n} {a} {s} p h (inl q) = rw (q.1, add-zero) (subst (λ (x : ℕ). Inner E n a x s) q.0 p)
  via_join p h (inr q) = inner_join p h q

  pub via-path : {n a b t : ℕ} → Via E n a b t → Path E a b t
  via-path {a} {b} {t} (inl q) = rw (q.1, q.0) empty
  via-path (inr p) = inner_path p

  -- where the arcs' ends are below n, every path is one
  pub path-via : {n a b t : ℕ} → EndsBelow E n → Path E a b t → Via E n a b t
  path-via h empty = inl (refl, refl)
  path-via h (link {a} {v} {c = c} e p) = inr (via_join (arc e) (h a v c e).1 (path-via h p))
