-- The whole search, from what its parts ensure; and the two searches of a preview, one after the other. Assumes nothing.
use mathlib.Core.Path.{◌∙◌, ◌≡◌, ap, refl, subst, subst₂, sym}
use mathlib.Core.Bool.{Bool, ◌||◌, false, true}
use mathlib.Core.List.{List, [], ◌++◌}
use mathlib.Core.Option.{none, some}
use Rattle.graph.specs.Total.{Total}
use Prim.Native.Nat.{◌*◌, ◌-◌, ◌<◌, ◌≤◌, ℕ}
use lib.Dec.{eqb}
use lib.ListN.{drop, get_or, get_or-replicate, length, length-append, length-drop, length-replicate, replicate, take}
use lib.Seq.{length-take-le}
use native.Mathlib.Omega.{arith}
use Rattle.graph.specs.Search.{Entry, history, run}
use Rattle.graph.specs.Map.{Map}
use Rattle.model.specs.Limits.{most_junctions}
use Rattle.model.specs.Word.{none_word}
use Rattle.model.specs.State.{first}
use Rattle.model.specs.Estimate.{filled}
use Rattle.model.specs.Go.{asks}
use Rattle.model.specs.Preview.{either_asks, work_size}
use Rattle.model.proofs.Laws.{kept_trans}
use Rattle.model.proofs.Ends.{filled-same, filled-twice}
use Rattle.model.specs.Good.{AimFacts}
use Rattle.model.proofs.Good.{asks-closed, filled-entries}
use Rattle.network.specs.Bodies.{map-facts}
use Rattle.road_groups.specs.Lending.{GroupsMade}
use Rattle.search_queue.specs.Order.{blank_word}
use Rattle.search_labels.specs.Labelling.{labels_in}
use Rattle.search_labels.specs.Ways.{arcs_back, way_of}
use Rattle.search_junctions.specs.declared.Trip.{Trip}
use Rattle.search_junctions.specs.declared.View.{View}
use Rattle.search_junctions.specs.Views.{met, met-length}
use Rattle.search_junctions.specs.State.{Given, Ready, go_given, map_given}
use Rattle.search_junctions.specs.Facts.{codes}
use Rattle.search_run.specs.Runs.{Advanced, Advances, BlankRoom, Within, Written, back_in}
use Rattle.search.specs.Searches.{AsLeft, FindsBoth, FindsTotal, Searches, at_times, seen_by}
use Rattle.search.proofs.Answers.{answer-found, answer-lost, routed}

-- a room that is made of k words is blank, and large enough for n junctions
pub blank-room : (k : ℕ) {n : ℕ} → 3 * n ≤ k → BlankRoom n (replicate k blank_word)
blank-room k le = record {
  words = simp length-replicate (omega arith);
  blank = λ p lp. get_or-replicate k p blank_word 0 (omega arith);
}

pub below-kept : {z n a b : ℕ} → z < n → b ≡ n → a ≡ b → z < a
below-kept h e f = omega arith

-- as many steps as there are junctions make the whole history
whole : {g : Given} {s z : ℕ} → Ready g s z → run (go_given g s z) g.sizes.n [] ≡ history (go_given g s z)
unfolding history
whole {g} {s} {z} r = ap (λ (k : ℕ). run (go_given g s z) k []) (sym (codes r).reads.size_is)

-- the areas are as long as before
pub record SameLengths (l l' : Written) : Type 0 where
  pub estimates-long : length l'.estimates ≡ length l.estimates
  pub elapsed-long : length l'.elapsed ≡ length l.elapsed
  pub ways-long : length l'.ways ≡ length l.ways
  pub log-long : length l'.log ≡ length l.log

-- the answer, by what the run leaves: l and l' hold the roads that gave the times, the route comes after
module _ {g : Given} {leaving groups : List ℕ} {s z e t : ℕ} {l l' : Written} {c : ℕ} {complete : Bool} {time : ℕ}
    (within : Within g leaving groups s z e t) (ran : Advances g leaving groups s z g.sizes.n l l' c complete)
    (read : time ≡ get_or l'.elapsed z 0) where
  ready : AsLeft g leaving groups z l.estimates → Ready g s z
  ready left =
      let f = map-facts left.prepared.sound in
      record {
        prepared = left.prepared;
        times = left.times;
        n-is = omega (arith, f.order_is, within.sized.order_is);
        m-is = omega (arith, f.roads_are, within.sized.roads_are);
        start = within.start_in;
        target = within.target_in;
      }

  -- what the whole run leaves: the roads by tail are made in the numbers of the header
  ended : AsLeft g leaving groups z l.estimates → Advanced g s z (history (go_given g s z)) l l' c complete
  ended left =
      let r = ready left in
      let made = subst₂ (λ (n : ℕ) (m : ℕ). GroupsMade g.roads n m leaving groups) r.n-is r.m-is left.grouped in
      subst (λ (H : List Entry). Advanced g s z H l l' c complete) (whole r) (ran.exact r made left.aims)

  module _ {route₀ : List ℕ} where
    pub searches_lost : eqb time none_word ≡ true → Searches g leaving groups s z (routed l route₀) (routed l' route₀) none c 0
    searches_lost q = record { kept = ran.kept; exact = λ left. answer-lost (ready left) (ended left) read q }

    pub searches_found : {number : ℕ} {route : List ℕ} → eqb time none_word ≡ false
        → number ≡ arcs_back (λ u. eqb u s) (back_in g.roads l'.ways g.sizes.n g.sizes.m) g.sizes.n z
        → route ≡ first
        (way_of (labels_in g.sizes.n l'.ways).vias (back_in g.roads l'.ways g.sizes.n g.sizes.m) number z)
        route₀
        → Searches g leaving groups s z (routed l route₀) (routed l' route) (some time) c number
    searches_found q w y = record { kept = ran.kept; exact = λ left. answer-found (ready left) (ended left) read q w y }

-- ---- the two searches of a preview

-- of a search's answer, the total alone
pub total_of_lem : {g : Given} {leaving groups : List ℕ} {s z : ℕ} {l l' : Written} {total : Total} {count number : ℕ}
    → Searches g leaving groups s z l l' total count number
    → FindsTotal g leaving groups s z l.estimates l'.estimates total
total_of_lem r = record { kept = r.kept; exact = λ left. (r.exact left).least }

-- an area of as many entries as there may be junctions
pub long_enough : {g : Given} {leaving groups : List ℕ} {s z e t : ℕ} {k : ℕ} → Within g leaving groups s z e t → k ≡ most_junctions
    → g.sizes.n ≤ k
long_enough within e = omega (arith, within.sized.n-high)

-- the halves of a work area: the second is lent when the first has come back in its place, as long as it was
module _ {n : ℕ} (work : List ℕ) (twice : length work ≡ work_size n) where
  pub first_half : length (take n work) ≡ n
  first_half = length-take-le n work (omega arith)

  pub half_left : (half : List ℕ) → length half ≡ length (take n work) → n ≤ length (half ++ drop n work)
  half_left half kept = simp length-append (omega (arith, kept, first_half))

  pub second_half : (half : List ℕ) → length half ≡ length (take n work) → let back = half ++ drop n work in
      length (take (length back - n) (drop n back)) ≡ n
  second_half half kept =
      let back = half ++ drop n work in
      let long : length back ≡ work_size n =
      length-append half (drop n work) ∙ omega (arith, kept, first_half, length-drop n work, twice) in
      let rest = length-drop n back in
      length-take-le (length back - n) (drop n back) (omega (arith, rest)) ∙ omega (arith, long)

-- the lengths stay those of what is given, at other times too
module _ {g : Given} {leaving groups : List ℕ} {s z e t : ℕ} (within : Within g leaving groups s z e t) where
  pub within-again : {e' t' : ℕ} (live' : List ℕ) → length live' ≡ length g.live → e' ≡ e → t' ≡ t
      → Within (at_times g live') leaving groups s z e' t'
  within-again live' live-is e-is t-is = record {
    start_in = within.start_in;
    target_in = within.target_in;
    leaving-is = within.leaving-is;
    groups_are = within.groups_are;
    sized = record {
      n-high = within.sized.n-high;
      m-high = within.sized.m-high;
      count-high = within.sized.count-high;
      roads_are = within.sized.roads_are;
      order_is = within.sized.order_is;
      ranks_are = within.sized.ranks_are;
      pairs_are = within.sized.pairs_are;
      times_are = within.sized.times_are;
      live-is = live-is ∙ within.sized.live-is;
      down_is = within.sized.down_is;
      estimates_are = e-is ∙ within.sized.estimates_are;
      elapsed-is = t-is ∙ within.sized.elapsed-is;
    };
  }

-- two views of the same times have as many
pub views_long : (t : Trip) (v : View) (access live : List ℕ) → length (met (seen_by t v) access live) ≡ length (met t access live)
views_long t v access live = met-length (seen_by t v) access live ∙ sym (met-length t access live)

or_turned : (a b : Bool) → b || a ≡ a || b
or_turned true true = refl
or_turned true false = refl
or_turned false true = refl
or_turned false false = refl

-- two fillings, of which the second finds what the first has left, are one
filled-both : (M : Map) (live live' : List ℕ) (s z : ℕ) (e₀ : List ℕ) {e₁ e₂ : List ℕ} → e₁ ≡ filled M z (asks M live s z) e₀
    → e₂ ≡ filled M z (asks M live' s z) e₁ → e₂ ≡ filled M z (either_asks M live live' s z) e₀
filled-both M live live' s z e₀ e₁-is e₂-is =
    let p = asks M live s z in
    let q = asks M live' s z in
    e₂-is ∙ ap (filled M z q) e₁-is ∙ filled-twice M z q p e₀
    ∙ filled-same M z (λ v. q v || p v) (either_asks M live live' s z) e₀ (λ v lv. or_turned (p v) (q v))

-- the estimates that a search left are unasked or filled
aims-filled : {M : Map} {z : ℕ} {down e₀ e₁ : List ℕ} (live : List ℕ) (s : ℕ) → AimFacts M z down e₀ → e₁ ≡ filled M z (asks M live s z) e₀
    → AimFacts M z down e₁
aims-filled {M} {z} {down} {e₀} live s a q =
    subst (AimFacts M z down) (sym q) (record {
      below = a.below;
      downs = a.downs;
      entries = filled-entries M z (asks M live s z) e₀ (asks-closed M live s z) a.entries;
    })

pub finds_both : {g : Given} {live' leaving groups : List ℕ} {s z : ℕ} {e₀ e₁ e₂ : List ℕ} {present new : Total}
    → FindsTotal g leaving groups s z e₀ e₁ present → FindsTotal (at_times g live') leaving groups s z e₁ e₂ new
    → FindsBoth g live' leaving groups s z e₀ e₂ present new
finds_both {g} {live'} {s = s} {z} {e₀} one two = record {
  kept = kept_trans one.kept two.kept;
  exact = λ left times.
      let now = one.exact left in
      let then = two.exact (record {
        prepared = left.prepared;
        grouped = left.grouped;
        aims = aims-filled g.live s left.aims now.estimates_are;
        times = times;
      }) in
      record {
        present_is = now.total-is;
        present_fits = now.fits;
        new_is = then.total-is;
        new-fits = then.fits;
        estimates_are = filled-both (map_given g) g.live live' s z e₀ now.estimates_are then.estimates_are;
      };
}
