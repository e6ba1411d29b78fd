-- The roads of a logged junction, relaxed one after the other. Assumes nothing.
use mathlib.Core.Path.{◌∙◌, ◌≡◌, ap, subst, sym}
use mathlib.Core.Bool.{true}
use mathlib.Core.Option.{none, some}
use mathlib.Core.List.{List}
use Prim.Native.Nat.{◌*◌, ◌+◌, ◌<◌, ◌≤◌, suc, ℕ}
use lib.Dec.{eqb}
use lib.ListN.{get_or, length}
use native.Mathlib.Numerals.{add-one}
use native.Mathlib.Omega.{arith}
use Rattle.graph.specs.Total.{◌⊕◌}
use Rattle.graph.proofs.Total.{cond_same, ⊕-none}
use Rattle.graph.specs.Search.{Entry, Problem, offer_via, time_in}
use Rattle.graph.proofs.Walk.{some-offer_via}
use Rattle.model.specs.Word.{none_word, of_word, unasked, word}
use Rattle.model.proofs.Word.{of_word-some}
use Rattle.model.specs.Layout.{road_size}
use Rattle.model.specs.Bytes.{word_at}
use Rattle.network.specs.Width.{fit, fit_in}
use Rattle.search_labels.specs.Labelling.{Ordered, Taken, labels_in}
use Rattle.search_labels.specs.Relax.{labels-passed, labels-skip, labels-taken}
use Rattle.search_junctions.specs.Groups.{IsGroup}
use Rattle.search_junctions.specs.Relaxing.{Read, Relaxes, RelaxesGroup}
use Rattle.search_junctions.proofs.Groups.{FirstFrom, entry-end, entry_of, entry_read, entry_at, first_of, next_of}
use Rattle.search_junctions.proofs.Opens.{OpenRoad, closed-cost, none_far, open_arc, open_cost, open_head, open_tail}

-- a closed road gives nothing
via-closed : (G : Problem) (H : List Entry) (v i : ℕ) → G.net.cost i ≡ none → offer_via G.net H v i ≡ none
unfolding offer_via
via-closed G H v i e = rw (e, ⊕-none) (cond_same (eqb (G.net.head i) v) none)

-- the sum of a logged time and of a live time, as code forms it
offer-word : {o : ℕ} (t w : ℕ) → o ≡ word (fit (of_word t ⊕ of_word w)) → t + w < unasked → o ≡ t + w
offer-word t w e h = e ∙ rw (of_word-some t (omega arith), of_word-some w (omega arith), fit_in (t + w) h)

-- ---- the ways through the code, for road i
abbrev pub RelaxesRoad : (r : Read) (i from : ℕ) (l l' : List ℕ) → Type 0
RelaxesRoad r i from = Relaxes r (word_at r.roads (road_size * i)) from i (i + 1)

module _ {r : Read} {i from : ℕ} where
  pub road-closed : {w : ℕ} {l : List ℕ} → i < r.sizes.m → w ≡ get_or r.live i 0 → eqb w none_word ≡ true → Ordered r.sizes.n l
      → RelaxesRoad r i from l l
  road-closed {l = l} li w-is closed room = record {
    room = room;
    exact = λ G H ok reads reached logged known labels.
        let q = closed-cost reads i w-is closed in
        labels-passed (rw reads.arcs_are li) (λ v. via-closed G H v i q) (labels_in r.sizes.n l) labels;
  }

  pub road_far : {h : ℕ} {l : List ℕ} → i < r.sizes.m → h ≡ word_at r.roads (road_size * i + 4) → r.sizes.n ≤ h
      → Ordered r.sizes.n l → RelaxesRoad r i from l l
  road_far li h-is far room =
      record { room = room; exact = λ G H ok reads reached logged known labels. absurd (none_far reads ok li h-is far) }

  -- the head, whose estimate is e, takes the offer o
  pub road_open : {w h e o : ℕ} {l l' : List ℕ} → OpenRoad r.sizes r.roads r.live i w h → e ≡ get_or r.estimates h 0
      → o ≡ word (fit (of_word from ⊕ of_word w)) → Taken o e i r.sizes.n h l l' → RelaxesRoad r i from l l'
  road_open {w} {h} {e} {o} road e-is offer taken = record {
    room = taken.room;
    exact = λ G H ok reads reached logged known labels.
        let la = open_arc reads road in
        let hd = open_head reads road in
        let tl = open_tail reads road in
        let cost = open_cost reads road in
        let from_is : time_in H (G.net.tail i) ≡ some from = ap (time_in H) tl ∙ logged in
        let gives = some-offer_via G.net H h i from w (from + w) hd from_is cost (omega arith) in
        let low = ok.offers reached h i (from + w) la gives in
        let o_is : o ≡ from + w = offer-word from w offer (omega (arith, low, ok.sums)) in
        let pot-is : e ≡ word (G.pot h) =
        e-is ∙ subst (λ (v : ℕ). get_or r.estimates v 0 ≡ word (G.pot v)) hd (known i w la tl cost) in
        labels-taken ok reached la hd (gives ∙ ap some (sym o_is)) pot-is (rw reads.size_is road.head_in) reads.size_is taken
        labels;
  }

-- ---- one road after the other

module _ {r : Read} {u t : ℕ} where
  -- no road of u from k up to j - 1
  pub relaxes-skip : {k j : ℕ} {l : List ℕ} → Ordered r.sizes.n l → FirstFrom r.roads r.sizes.m u k j → Relaxes r u t k j l l
  relaxes-skip {k} {j} {l} room f = record {
    room = room;
    exact = λ G H ok reads reached logged known.
        labels-skip f.low (λ i a b q. absurd (f.none_before i a b (sym (reads.tails i (omega (arith, f.high))) ∙ q)))
        (labels_in r.sizes.n l);
  }

  relaxes_trans : {i k j : ℕ} {l l' l'' : List ℕ} → Relaxes r u t i k l l' → Relaxes r u t k j l' l'' → Relaxes r u t i j l l''
  relaxes_trans x y = record {
    room = y.room;
    exact = λ G H ok k reached logged known labels.
        y.exact G H ok k reached logged known (x.exact G H ok k reached logged known labels);
  }

  -- one turn of the loop: road i, which leaves u, and then the next
  pub relaxes-turn : {v i j : ℕ} {l l' l'' : List ℕ} → v ≡ u → FirstFrom r.roads r.sizes.m u (suc i) j → Relaxes r u t 0 i l l'
      → Relaxes r v t i (i + 1) l' l'' → Relaxes r u t 0 j l l''
  relaxes-turn {i = i} {j} {l' = l'} {l''} q f x y =
      relaxes_trans (relaxes_trans x (subst (λ (v : ℕ). Relaxes r v t i (i + 1) l' l'') q y))
      (subst (λ (k : ℕ). Relaxes r u t k j l'' l'') (sym (add-one i)) (relaxes-skip y.room f))

  pub relaxes-end : {i m : ℕ} {l l' : List ℕ} → i ≡ m → Relaxes r u t 0 i l l' → Relaxes r u t 0 m l l'
  relaxes-end {l = l} {l'} q x = subst (λ (k : ℕ). Relaxes r u t 0 k l l') q x

-- The loop stands at entry k of the group: there is room, and for the junction whose group it is, its roads before that entry are relaxed.
pub record Relaxing (r : Read) (group : List ℕ) (t k : ℕ) (l l' : List ℕ) : Type 0 where
  pub room : Ordered r.sizes.n l'
  pub relaxes : (u : ℕ) → IsGroup r.roads r.sizes.m u group → Relaxes r u t 0 (entry_at group r.sizes.m k) l l'

module _ {r : Read} {group : List ℕ} {t : ℕ} where
  pub relaxing_start : {l : List ℕ} → Ordered r.sizes.n l → Relaxing r group t 0 l l
  relaxing_start room = record { room = room; relaxes = λ u is. relaxes-skip room (first_of is) }

  module _ {k : ℕ} {l l' : List ℕ} (inside : k < length group) (relaxing : Relaxing r group t k l l') where
    pub relaxing_turn : {l'' : List ℕ} → RelaxesRoad r (get_or group k 0) t l' l''
        → Relaxing r group t (k + 1) l l''
    relaxing_turn {l''} road = record {
      room = road.room;
      relaxes = λ u is. relaxes-turn (entry_of is inside).leaves (next_of is inside) (relaxing.relaxes u is)
          (subst (λ (i : ℕ). RelaxesRoad r i t l' l'') (entry_read group r.sizes.m k inside) road);
    }

    -- a number that is no road's is in no group
    pub relaxing_pass : r.sizes.m ≤ get_or group k 0 → Relaxing r group t (k + 1) l l'
    relaxing_pass high = record {
      room = relaxing.room;
      relaxes = λ u is. absurd (omega (arith, (entry_of is inside).below, entry_read group r.sizes.m k inside));
    }

  pub relaxing_end : {k : ℕ} {l l' : List ℕ} → length group ≤ k → Relaxing r group t k l l' → RelaxesGroup r group t l l'
  relaxing_end {k} past relaxing = record {
    room = relaxing.room;
    exact = λ u is. relaxes-end (entry-end group r.sizes.m k past) (relaxing.relaxes u is);
  }
