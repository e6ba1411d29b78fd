-- The way back, step by step. Assumes nothing.
use mathlib.Core.Path.{◌∙◌, ◌≡◌, ap, ap₂, refl, sym}
use mathlib.Core.Bool.{Bool, false, true}
use mathlib.Core.List.{List, [], ◌++◌, ◌∷◌}
use Prim.Native.Nat.{◌+◌, ◌-◌, ◌<◌, ◌≤◌, suc, zero, ℕ}
use lib.ListN.{drop, length, length-append, length-set, set}
use lib.Seq.{append_snoc, drop-cons, drop-set-lt, get_or-set_same}
use native.Mathlib.Nat.{zero-add}
use native.Mathlib.Omega.{arith}
use Rattle.model.specs.State.{first}
use Rattle.search_labels.specs.Ways.{arcs_back, way_of}

-- ---- counting: `begins v` where the way to v begins at v, `before v` where its last arc leads from

-- k arcs were passed, and u is where they lead back to
pub record Counting (begins : ℕ → Bool) (before : ℕ → ℕ) (n v k u : ℕ) : Type 0 where
  pub low : k ≤ n
  pub inside : u < n
  pub counted : arcs_back begins before n v ≡ k + arcs_back begins before (n - k) u

module _ {begins : ℕ → Bool} {before : ℕ → ℕ} {n v : ℕ} where
  pub count-start : v < n → Counting begins before n v 0 v
  count-start lv = record {
    low = omega arith;
    inside = lv;
    counted = let z : n - 0 ≡ n = omega arith in rw z (sym (zero-add (arcs_back begins before n v)));
  }

  module _ {k u : ℕ} (c : Counting begins before n v k u) where
    pub count_turn : {w : ℕ} → k < n → begins u ≡ false → w ≡ before u → w < n → Counting begins before n v (k + 1) w
    unfolding arcs_back
    count_turn {w} l ne e lw =
        let s : n - k ≡ suc (n - (k + 1)) = omega arith in
        let g : arcs_back begins before (n - k) u ≡ suc (arcs_back begins before (n - (k + 1)) w) = rw (s, ne, e) in
        record { low = omega arith; inside = lw; counted = c.counted ∙ omega (arith, g) }

    pub count-there : k < n → begins u ≡ true → k ≡ arcs_back begins before n v
    unfolding arcs_back
    count-there l e =
        let s : n - k ≡ suc (n - (k + 1)) = omega arith in
        let g : arcs_back begins before (n - k) u ≡ 0 = rw (s, e) in
        omega (arith, c.counted, g)

    pub count-end : n ≤ k → k ≡ arcs_back begins before n v
    unfolding arcs_back
    count-end l =
        let s : n - k ≡ 0 = omega arith in
        let g : arcs_back begins before (n - k) u ≡ 0 = rw s in
        omega (arith, c.counted, g)

-- ---- writing: `via v` is the last arc of the way to v

way-length : (via before : ℕ → ℕ) (k v : ℕ) → length (way_of via before k v) ≡ k
unfolding way_of
way-length via before zero v = refl
way-length via before (suc k) v =
    let h = way-length via before k (before v) in
    length-append (way_of via before k (before v)) (via v ∷ []) ∙ omega (arith, h)

stored : (area : List ℕ) (j x : ℕ) → j < length area → drop j (set area j x) ≡ x ∷ drop (suc j) area
stored area j x h =
    let l : j < length (set area j x) = rw length-set h in
    drop-cons (set area j x) j 0 l ∙ ap₂ (λ (a : ℕ) (r : List ℕ). a ∷ r) (get_or-set_same area j x 0 h)
    (drop-set-lt (suc j) area j x (omega arith))

-- j arcs are still to be written, those that lead to u; with what stands behind them they are the whole way and the rest of the area
pub record Writing (via before : ℕ → ℕ) (n k v : ℕ) (area₀ : List ℕ) (j u : ℕ) (area : List ℕ) : Type 0 where
  pub low : j ≤ k
  pub inside : u < n
  pub long : length area ≡ length area₀
  pub writes : way_of via before j u ++ drop j area ≡ way_of via before k v ++ drop k area₀

module _ {via before : ℕ → ℕ} {n k v : ℕ} {area₀ : List ℕ} where
  pub write_turn : {i j u w x : ℕ} {area : List ℕ} → Writing via before n k v area₀ i u area → i ≡ j + 1 → j < length area → x ≡ via u
      → w ≡ before u
      → w < n → Writing via before n k v area₀ j w (set area j x)
  unfolding way_of
  write_turn {i} {j} {u} {w} {x} {area} h e l ex ew lw =
      let s : i ≡ suc j = omega arith in
      record {
        low = omega (arith, h.low);
        inside = lw;
        long = length-set area j x ∙ h.long;
        writes = ap (λ (r : List ℕ). way_of via before j w ++ r) (stored area j x l)
            ∙ sym (append_snoc (way_of via before j w) x (drop (suc j) area)) ∙ rw (ew, ex, ← s) (rw s (rw s at h.writes));
      }

  pub write_end : {j u : ℕ} {area : List ℕ} → Writing via before n k v area₀ j u area → j ≤ 0 → area ≡ first (way_of via before k v) area₀
  unfolding way_of
  write_end {j} {area = area} h z =
      let e : j ≡ 0 = omega arith in
      let g : area ≡ way_of via before k v ++ drop k area₀ = rw e at h.writes in
      g ∙ ap (λ (i : ℕ). way_of via before k v ++ drop i area₀) (sym (way-length via before k v))
