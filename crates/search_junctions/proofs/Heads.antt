-- The estimates of the heads of a junction's open roads, asked road by road. Assumes nothing.
use mathlib.Core.Path.{◌∙◌, ◌≡◌, refl, subst, sym}
use mathlib.Core.Logic.{◌⊎◌, inl, inr}
use mathlib.Core.Bool.{Bool, not, true}
use mathlib.Core.List.{List}
use Prim.Native.Nat.{◌*◌, ◌+◌, ◌<◌, ◌≤◌, suc, ℕ}
use borrow.Author.Tests.{eqb-false, not-true}
use lib.Dec.{eqb}
use lib.ListN.{get_or, length}
use native.Mathlib.Numerals.{add-one}
use native.Mathlib.Omega.{arith}
use Rattle.graph.specs.Network.{Network}
use Rattle.model.specs.Word.{none_word, unasked}
use Rattle.model.specs.Layout.{road_size}
use Rattle.model.specs.Bytes.{word_at}
use Rattle.model.specs.Estimate.{Kept}
use Rattle.model.proofs.Laws.{kept_refl, kept_trans}
use Rattle.pairs_hierarchy.specs.Estimates.{Estimated, aim-estimated}
use Rattle.search_junctions.specs.Groups.{IsGroup}
use Rattle.search_junctions.specs.State.{Given, Ready, go_given}
use Rattle.search_junctions.specs.Asking.{Asks, AsksGroup, EstimatesIn, Leads}
use Rattle.search_junctions.specs.Facts.{codes}
use Rattle.search_junctions.proofs.Groups.{FirstFrom, entry-end, entry_of, entry_read, entry_at, first_of, next_of}
use Rattle.search_junctions.proofs.Opens.{OpenRoad, closed-cost, none_far, open_arc, open_cost, open_head, open_tail}
use Rattle.search_junctions.specs.Fills.{filling-again, filling-more, filling-same, leads-closed, leads_open, leads-skip}
use Rattle.search_junctions.specs.Fills.{leads_skip_back, pairs-kept}

-- the heads of u's roads by another description
both : {A B C : Type 0} → (B → C) → A ⊎ B → A ⊎ C
both f (inl x) = inl x
both f (inr x) = inr (f x)

-- of those asked up to road i, the last may be its head
asked-split : {A : Type 0} {N : Network} {u i h : ℕ} → N.head i ≡ h → (a : ℕ) → A ⊎ Leads N u (i + 1) a → (A ⊎ Leads N u i a) ⊎ (a ≡ h)
asked-split q a (inl x) = inl (inl x)
asked-split {A} {N} {u} {i} {h} q a (inr x) = at (leads_open a x)
  where
    at : Leads N u i a ⊎ (a ≡ N.head i) → (A ⊎ Leads N u i a) ⊎ (a ≡ h)
    at (inl y) = inl (inr y)
    at (inr y) = inr (y ∙ q)

module _ {g : Given} {u : ℕ} where
  asks_trans : {i k j : ℕ} {e e' e'' : List ℕ} → Asks g u i k e e' → Asks g u k j e' e'' → Asks g u i j e e''
  asks_trans x y = record {
    kept = kept_trans x.kept y.kept;
    exact = λ s z H e₀ r f. y.exact s z H e₀ r (x.exact s z H e₀ r f);
  }

  -- no road of u from k up to j - 1
  pub asks-skip : {k j : ℕ} {e : List ℕ} → FirstFrom g.roads g.sizes.m u k j → Asks g u k j e e
  asks-skip {k} {j} f = record {
    kept = kept_refl;
    exact = λ s z H e₀ r.
        let G = go_given g s z in
        let bare : (i : ℕ) → k ≤ i → i < j → G.net.tail i ≡ u → ⊥ =
        λ i a b q. f.none_before i a b (sym ((codes r).reads.tails i (omega (arith, f.high))) ∙ q) in
        filling-same (λ a x. both (leads-skip f.low a) x) (λ a x. both (leads_skip_back bare a) x);
  }

  -- one turn of the loop: road i, which leaves u, and then the next
  pub asks-turn : {v i j : ℕ} {e e' e'' : List ℕ} → v ≡ u → FirstFrom g.roads g.sizes.m u (suc i) j → Asks g u 0 i e e'
      → Asks g v i (i + 1) e' e'' → Asks g u 0 j e e''
  asks-turn {i = i} {j} {e' = e'} {e''} q f x y = asks_trans (asks_trans x (subst (λ (v : ℕ). Asks g v i (i + 1) e' e'') q y))
      (subst (λ (k : ℕ). Asks g u k j e'' e'') (sym (add-one i)) (asks-skip f))

  pub asks-end : {i m : ℕ} {e e' : List ℕ} → i ≡ m → Asks g u 0 i e e' → Asks g u 0 m e e'
  asks-end {e = e} {e'} q x = subst (λ (k : ℕ). Asks g u 0 k e e') q x

-- lengths where the estimates are as long as before
pub estimates-kept : {g : Given} {e e' : List ℕ} → EstimatesIn g e → length e' ≡ length e → EstimatesIn g e'
estimates-kept x q = record { over = pairs-kept x.over q; m-high = x.m-high; roads_are = x.roads_are; live-is = x.live-is }

-- a word that is not that of unasked
pub known-word : {x y : ℕ} {b : Bool} → x ≡ y → b ≡ eqb x unasked → not b ≡ true → y ≡ unasked → ⊥
known-word {x} {y} {b} q t n u = eqb-false x unasked (sym t ∙ not-true b n) (q ∙ u)

-- ---- the ways through the code, for road i
abbrev pub AsksRoad : (g : Given) (i : ℕ) (e e' : List ℕ) → Type 0
AsksRoad g i = Asks g (word_at g.roads (road_size * i)) i (i + 1)

module _ {g : Given} {i : ℕ} where
  pub head-closed : {w : ℕ} {e : List ℕ} → w ≡ get_or g.live i 0 → eqb w none_word ≡ true → AsksRoad g i e e
  head-closed w-is closed = record {
    kept = kept_refl;
    exact = λ s z H e₀ r.
        let q = closed-cost (codes r).reads i w-is closed in
        filling-same (λ a y. both (leads-skip (omega arith) a) y) (λ a y. both (leads-closed q a) y);
  }

  pub head_far : {h : ℕ} {e : List ℕ} → i < g.sizes.m → h ≡ word_at g.roads (road_size * i + 4) → g.sizes.n ≤ h → AsksRoad g i e e
  head_far li h-is far = record {
    kept = kept_refl;
    exact = λ s z H e₀ r f. absurd (none_far (codes r).reads (codes r).ok li h-is far);
  }

  module _ {w h : ℕ} (road : OpenRoad g.sizes g.roads g.live i w h) where
    -- it leads to its head
    leads : {s z : ℕ} → Ready g s z → Leads (go_given g s z).net (word_at g.roads (road_size * i)) (i + 1) h
    leads r =
        let reads = (codes r).reads in
        record {
          road = i;
          cost = w;
          below = omega arith;
          inside = open_arc reads road;
          from = open_tail reads road;
          opens = open_cost reads road;
          to = open_head reads road;
        }

    -- the head's estimate is known
    pub head-known : {e : List ℕ} → (get_or e h 0 ≡ unasked → ⊥) → AsksRoad g i e e
    head-known known = record {
      kept = kept_refl;
      exact = λ s z H e₀ r f.
          filling-again h (rw r.n-is road.head_in) known (λ a y. both (leads-skip (omega arith) a) y)
          (λ a y. asked-split {N = (go_given g s z).net} {i = i} (open_head (codes r).reads road) a y) f;
    }

    -- it is asked
    pub head_open : {v : ℕ} {e e' : List ℕ} → Estimated g.order g.ranks g.pairs g.times g.sizes.pairs g.down e e' h v
        → AsksRoad g i e e'
    head_open est = record {
      kept = est.kept;
      exact = λ s z H e₀ r f.
          filling-more h (rw r.n-is road.head_in) (λ a y. both (leads-skip (omega arith) a) y) (inr (leads r))
          (λ a y. asked-split {N = (go_given g s z).net} {i = i} (open_head (codes r).reads road) a y)
          (aim-estimated est g.roads r.prepared z f.aims) (est.exact g.roads r.prepared z f.aims).1 f;
    }

-- ---- one road after the other

-- The loop stands at entry k of the group: what is filled stays, and where the group is u's, the heads of u's open roads before that entry
-- are asked. The estimates are as long as before.
pub record Asking (g : Given) (group : List ℕ) (k : ℕ) (e e' : List ℕ) : Type 0 where
  pub long : length e' ≡ length e
  pub kept : Kept e e'
  pub asks : (u : ℕ) → IsGroup g.roads g.sizes.m u group → Asks g u 0 (entry_at group g.sizes.m k) e e'

module _ {g : Given} {group : List ℕ} where
  pub asking-start : {e : List ℕ} → Asking g group 0 e e
  asking-start = record { long = refl; kept = kept_refl; asks = λ u is. asks-skip (first_of is) }

  module _ {k : ℕ} {e e' : List ℕ} (inside : k < length group) (asking : Asking g group k e e') where
    pub asking-turn : {e'' : List ℕ} → length e'' ≡ length e' → AsksRoad g (get_or group k 0) e' e'' → Asking g group (k + 1) e e''
    asking-turn {e''} long road = record {
      long = long ∙ asking.long;
      kept = kept_trans asking.kept road.kept;
      asks = λ u is. asks-turn (entry_of is inside).leaves (next_of is inside) (asking.asks u is)
          (subst (λ (i : ℕ). AsksRoad g i e' e'') (entry_read group g.sizes.m k inside) road);
    }

    -- a number that is no road's is in no group
    pub asking-pass : g.sizes.m ≤ get_or group k 0 → Asking g group (k + 1) e e'
    asking-pass high = record {
      long = asking.long;
      kept = asking.kept;
      asks = λ u is. absurd (omega (arith, (entry_of is inside).below, entry_read group g.sizes.m k inside));
    }

  pub asking-end : {k : ℕ} {e e' : List ℕ} → length group ≤ k → Asking g group k e e' → AsksGroup g group e e'
  asking-end {k} past asking =
      record { kept = asking.kept; exact = λ u is. asks-end (entry-end group g.sizes.m k past) (asking.asks u is) }
