-- The live times one after the other, and areas that are the same where each is. Assumes nothing.
use mathlib.Core.Path.{◌∙◌, ◌≡◌, refl}
use mathlib.Core.List.{List}
use Prim.Native.Nat.{◌+◌, ◌<◌, ◌≤◌, ℕ}
use lib.ListN.{get_or, length, length-set, replicate, set}
use lib.Seq.{get_or-set_other, get_or-set_same}
use native.Mathlib.Decide.{ℕ_discrete}
use native.Mathlib.Nat.{not-suc-le-zero}
use native.Mathlib.Omega.{arith}
use Rattle.model.specs.Bytes.{listed}
use Rattle.model.specs.Areas.{Areas, Each, areas_of, each}
use Rattle.model.proofs.Ends.{listed-is}
use Rattle.unit_preparing.specs.Preparing.{base_in}

-- ---- the loop over the live times

-- the first i live times are base times, in an area of the length that it had
pub record Filling (roads live₀ live : List ℕ) (i : ℕ) : Type 0 where
  pub in_area : i ≤ length live₀
  pub kept : length live ≡ length live₀
  pub bases : (k : ℕ) → k < i → get_or live k 0 ≡ base_in roads k

pub filling-start : {roads live₀ : List ℕ} → Filling roads live₀ live₀ 0
filling-start = record { in_area = omega arith; kept = refl; bases = λ k h. absurd (not-suc-le-zero h) }

module _ {roads live₀ live : List ℕ} {i : ℕ} (f : Filling roads live₀ live i) where
  pub filling-turn : {b w : ℕ} → i < length live → b ≡ base_in roads i → w ≡ b → Filling roads live₀ (set live i w) (i + 1)
  filling-turn {b} {w} h base-is written = record {
    in_area = omega (arith, f.kept);
    kept = length-set live i w ∙ f.kept;
    bases = λ k l. at k l (ℕ_discrete k i);
  }
    where
      at : (k : ℕ) → k < i + 1 → Dec (k ≡ i) → get_or (set live i w) k 0 ≡ base_in roads k
      at k l (yes p) = rw p (get_or-set_same live i w 0 h ∙ written ∙ base-is)
      at k l (no p) = get_or-set_other live i k w 0 p ∙ f.bases k (omega arith)

  pub filling-end : length live ≤ i → live ≡ listed (length live₀) (base_in roads)
  filling-end h = listed-is (length live₀) (base_in roads) live f.kept (λ k l. f.bases k (omega (arith, f.kept)))

-- ---- all areas at once

-- areas, or lengths of areas, that are alike one by one
pub record Alike {A : Type 0} (x y : Each A) : Type 0 where
  pub ranks : x.built.ranks ≡ y.built.ranks
  pub pairs : x.built.pairs ≡ y.built.pairs
  pub times : x.built.times ≡ y.built.times
  pub live : x.live ≡ y.live
  pub down : x.aimed.down ≡ y.aimed.down
  pub estimates : x.aimed.estimates ≡ y.aimed.estimates
  pub elapsed : x.trip.elapsed ≡ y.trip.elapsed
  pub leaving : x.built.leaving ≡ y.built.leaving
  pub groups : x.built.groups ≡ y.built.groups

pub alike_same : {A : Type 0} {x y : Each A} → Alike x y → x ≡ y
alike_same e = λ i.
    areas_of (e.ranks i) (e.pairs i) (e.times i) (e.live i) (e.down i) (e.estimates i) (e.elapsed i) (e.leaving i) (e.groups i)

-- what `zeroed` leaves is told by the lengths
abbrev pub zeros_of : Each ℕ → Areas
zeros_of = each (λ k. replicate k 0)
