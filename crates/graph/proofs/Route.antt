-- Proves that these are the paths (`path-listed`, `listed-path`). Assumes nothing.
use Rattle.std.proofs.Common.{◌∙◌, ap, sym}
use Rattle.std.specs.Prelude.{◌≡◌, refl, List, [], ◌++◌, ◌∷◌, ℕ}
use Rattle.std.proofs.Math.Option.{none, some}
use Rattle.graph.specs.Total.{Total, ◌⊕◌}
use Rattle.graph.proofs.Total.{none-some, some-some, zero-⊕, ⊕-assoc, ⊕-comm}
use Rattle.graph.specs.Least.{IsLeast}
use Rattle.graph.proofs.Least.{exactly, least-cover}
use Rattle.graph.specs.Path.{Path, empty, link}
use Rattle.graph.specs.Network.{Arc, Network, arc_of}
use Rattle.graph.specs.Route.{Leads, total_over, Listed}

pub path-listed : {N : Network} {a b t : ℕ} → Path (Arc N) a b t → Listed N a b t
path-listed empty = record { arcs = []; leads = refl; sums = refl }
path-listed {N} {b} (link e p) =
    let r = path-listed p in
    record {
      arcs = e.index ∷ r.arcs;
      leads = (e.below, e.at.from, rw e.at.to r.leads);
      sums = rw (e.at.costs, r.sums);
    }

pub listed-path : (N : Network) (l : List ℕ) {a b t : ℕ} → Leads N a l b → total_over N l ≡ some t → Path (Arc N) a b t
listed-path N [] {a} {b} h e = rw (← some-some refl e, h) empty
listed-path N (i ∷ l) {a} {b} {t} h e = go (N.cost i) (total_over N l) refl refl e (λ s q. listed-path N l h.2 q)
  where
    go : (x y : Total) → N.cost i ≡ x → total_over N l ≡ y → x ⊕ y ≡ some t
        → ((s : ℕ) → total_over N l ≡ some s → Path (Arc N) (N.head i) b s) → Path (Arc N) a b t
    go none y p q e f = absurd (none-some refl e)
    go (some c) none p q e f = absurd (none-some refl e)
    go (some c) (some s) p q e f =
        rw (← some-some refl e) (link (arc_of i h.0 h.1 refl p) (f s q))

pub listed-least : {N : Network} {a b : ℕ} {x : Total} → IsLeast (Path (Arc N) a b) x → IsLeast (Listed N a b) x
listed-least {N} l = least-cover l (λ t p. path-listed p) (λ t r. exactly (listed-path N r.arcs r.leads r.sums))

-- ---- one list after another, and one arc more

module _ (N : Network) where
  pub leads-append : (l m : List ℕ) (a v b : ℕ) → Leads N a l v → Leads N v m b → Leads N a (l ++ m) b
  leads-append [] m a v b h k = rw h k
  leads-append (i ∷ l) m a v b h k = (h.0, h.1, leads-append l m (N.head i) v b h.2 k)

  pub total_over-append : (l m : List ℕ) → total_over N (l ++ m) ≡ total_over N l ⊕ total_over N m
  total_over-append [] m = sym (zero-⊕ (total_over N m))
  total_over-append (i ∷ l) m = ap (◌⊕◌ (N.cost i)) (total_over-append l m) ∙ sym (⊕-assoc (N.cost i) (total_over N l) (total_over N m))

  pub leads_snoc : (l : List ℕ) (a : ℕ) {v b c : ℕ} → Leads N a l v → (e : Arc N v b c) → Leads N a (l ++ (e.index ∷ [])) b
  leads_snoc l a {v} {b} h e = leads-append l (e.index ∷ []) a v b h (e.below, e.at.from, e.at.to)

  pub total_over_snoc : (l : List ℕ) (i : ℕ) → total_over N (l ++ (i ∷ [])) ≡ total_over N l ⊕ N.cost i
  total_over_snoc l i = total_over-append l (i ∷ []) ∙ ap (◌⊕◌ (total_over N l)) (⊕-comm (N.cost i) (some 0) ∙ zero-⊕ (N.cost i))
