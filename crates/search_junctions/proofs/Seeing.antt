-- The time of a road in force, as the code reads it: the live time, or the one that is set in its place; closed where the road is barred
-- to the trip's class. Assumes nothing.
use mathlib.Core.Path.{◌∙◌, ◌≡◌, ap, sym}
use mathlib.Core.Bool.{Bool, cond, false, true}
use mathlib.Core.Logic.{◌≢◌}
use mathlib.Core.List.{List}
use Prim.Native.Nat.{◌<◌, ℕ}
use lib.ListN.{get_or, length}
use lib.Seq.{get_or-set_other, get_or-set_same}
use native.Mathlib.Omega.{arith}
use Rattle.model.specs.Word.{closed_word}
use Rattle.model.specs.Classes.{access_of, admits}
use Rattle.model.proofs.ClassLaws.{times-at, times-length}
use Rattle.network.specs.declared.Time.{Time}
use Rattle.search_junctions.specs.declared.Trip.{Trip}
use Rattle.search_junctions.specs.declared.View.{View}
use Rattle.search_junctions.specs.declared.View.TheVariants.{Live, Set}
use Rattle.search_junctions.specs.Views.{met, seen, seen-length}

-- road i of the live times
module _ (live : List ℕ) (i : ℕ) where
  -- a road that has a time in force has a live time
  pub seen_in : (v : View) → i < length (seen v live) → i < length live
  seen_in v li = omega (arith, li, seen-length v live)

  module _ {v : View} where
    pub seen-live : {w : ℕ} → v ≡ Live → w ≡ get_or live i 0 → w ≡ get_or (seen v live) i 0
    seen-live v-is w-is = w-is ∙ ap (λ (v : View). get_or (seen v live) i 0) (sym v-is)

    pub seen-set : {road : ℕ} {other : Time} → v ≡ Set road other → road ≡ i → i < length (seen v live)
        → other.0 ≡ get_or (seen v live) i 0
    seen-set {other = other} v-is here li =
        sym (get_or-set_same live i other.0 0 (seen_in v li)) ∙ ap (λ (k : ℕ). get_or (seen (Set k other) live) i 0) (sym here)
        ∙ ap (λ (v : View). get_or (seen v live) i 0) (sym v-is)

    pub seen_other : {road w : ℕ} {other : Time} → v ≡ Set road other → road ≢ i → w ≡ get_or live i 0 → w ≡ get_or (seen v live) i 0
    seen_other {road} {other = other} v-is elsewhere w-is =
        w-is ∙ sym (get_or-set_other live road i other.0 0 (λ e. elsewhere (sym e)))
        ∙ ap (λ (v : View). get_or (seen v live) i 0) (sym v-is)

-- road i as a trip meets it
module _ (t : Trip) (access live : List ℕ) (i : ℕ) (li : i < length (met t access live)) where
  pub met_in : i < length (seen t.view live)
  met_in = omega (arith, li, times-length (access_of access) t.class (seen t.view live))

  met_at : {b : Bool} → b ≡ admits (access_of access i) t.class
      → cond b (get_or (seen t.view live) i 0) closed_word ≡ get_or (met t access live) i 0
  met_at b-is =
      let seen = seen t.view live in
      ap (λ (b : Bool). cond b (get_or seen i 0) closed_word) b-is ∙ sym (times-at (access_of access) t.class seen i met_in)

  module _ {b : Bool} (b-is : b ≡ admits (access_of access i) t.class) where
    pub met_let_in : {w : ℕ} → b ≡ true → w ≡ get_or (seen t.view live) i 0 → w ≡ get_or (met t access live) i 0
    met_let_in let-in w-is = w-is ∙ met_at (sym let-in ∙ b-is)

    pub met-barred : b ≡ false → closed_word ≡ get_or (met t access live) i 0
    met-barred barred = met_at (sym barred ∙ b-is)
