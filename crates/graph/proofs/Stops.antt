-- A list of stops (document 02, A3). Proves that the whole of least legs is at most the total of every path that meets the stops
-- (`whole-at_most`). Assumes nothing.
use Rattle.std.proofs.Common.{◌∙◌, ap₂, subst, sym, zero-le, arith}
use Rattle.std.specs.Prelude.{◌≡◌, refl, ◌+◌, ◌<◌, ℕ}
use Rattle.std.proofs.Math.Option.{some}
use mathlib.Core.List.{List, Memᴰ, [], ◌++◌, ◌∷◌}
use Rattle.graph.specs.Total.{Total, ◌≼◌, ◌⊕◌}
use Rattle.graph.proofs.Total.{within, ≼_trans, ⊕-some}
use Rattle.graph.specs.Least.{IsLeast}
use Rattle.graph.specs.Network.{Network}
use Rattle.graph.specs.Route.{Leads, Listed, total_over}
use Rattle.graph.proofs.Route.{leads-append, total_over_snoc}
use Rattle.graph.specs.Stops.{Meets, all-met, met-here, met-later, Meeting, whole_from, Below}

-- arcs that lead to where others meet the stops
pub meets-append : (N : Network) (l m : List ℕ) {a b : ℕ} {stops : List ℕ} → Leads N a l b → Meets N b m stops → Meets N a (l ++ m) stops
meets-append N [] m {stops = stops} h k = rw h k
meets-append N (i ∷ l) m h k = met-later (meets-append N l m h.2 k)

-- ---- the whole is at most the total of every path that meets the stops

module _ (N : Network) {n : ℕ} {leg : ℕ → ℕ → Total} (least : (a b : ℕ) → a < n → b < n → IsLeast (Listed N a b) (leg a b)) where
  -- the arcs `done` have led from the stop s to u, from where the path goes on to v
  legs-at_most : {u : ℕ} {arcs stops : List ℕ} → Meets N u arcs stops → (s v x y : ℕ) (done : List ℕ) → s < n → Below n stops
      → Leads N s done u → Leads N u arcs v → total_over N done ≡ some x → total_over N arcs ≡ some y
      → whole_from leg s stops ≼ some (x + y)
  legs-at_most all-met s v x y done ls inside p q ex ey = zero-le
  legs-at_most (met-here {u} {s = r} {arcs} {stops} e m) s v x y done ls inside p q ex ey =
      let lr = inside r (Memᴰ.head refl) in
      let leg-done : Listed N s r x = record { arcs = done; leads = subst (λ (b : ℕ). Leads N s done b) e p; sums = ex } in
      let a = within (leg s r) x ((least s r ls lr).bound x leg-done) in
      let here : Leads N r [] u = sym e in
      let rest = legs-at_most m r v 0 y [] lr (λ w k. inside w (Memᴰ.tail k)) here q refl ey in
      let b = within (whole_from leg r stops) (0 + y) rest in
      rw (a.1, b.1) (omega (arith, a.2, b.2))
  legs-at_most (met-later {u} {i} {arcs} {stops} m) s v x y done ls inside p q ex ey =
      let t = ⊕-some (N.cost i) (total_over N arcs) y ey in
      let longer = done ++ (i ∷ []) in
      let l : total_over N longer ≡ some (x + t.0) = total_over_snoc N done i ∙ ap₂ ◌⊕◌ ex t.2 in
      let w : Leads N s longer (N.head i) = leads-append N done (i ∷ []) s u (N.head i) p (q.0, q.1, refl) in
      let z : x + t.0 + t.1 ≡ x + y = omega (arith, t.4) in
      rw z at (legs-at_most m s v (x + t.0) t.1 longer ls inside w q.2 l t.3)

  from-stop : {u s : ℕ} {arcs stops : List ℕ} → Meets N u arcs (s ∷ stops) → (v y : ℕ) → Below n (s ∷ stops) → Leads N u arcs v
      → total_over N arcs ≡ some y → whole_from leg s stops ≼ some y
  from-stop (met-here {u} {s} {arcs} {stops} e m) v y inside q ey =
      let here : Leads N s [] u = sym e in
      let k : 0 + y ≡ y = omega arith in
      rw k at (legs-at_most m s v 0 y [] (inside s (Memᴰ.head refl)) (λ w h. inside w (Memᴰ.tail h)) here q refl ey)
  from-stop {s} {stops} (met-later {i} {arcs} m) v y inside q ey =
      let t = ⊕-some (N.cost i) (total_over N arcs) y ey in
      let later = from-stop m v t.1 inside q.2 t.3 in
      ≼_trans (whole_from leg s stops) (some t.1) (some y) later (omega (arith, t.4))

  pub whole-at_most : (s : ℕ) (stops : List ℕ) → Below n (s ∷ stops) → (t : ℕ) → Meeting N (s ∷ stops) t → whole_from leg s stops ≼ some t
  whole-at_most s stops inside t m = from-stop m.meets m.to t inside m.path.leads m.path.sums
