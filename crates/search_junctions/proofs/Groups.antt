-- The group of a junction, road by road: its first road is its first entry, behind each entry stands the next road, and m behind the last
-- (`first_of`, `next_of`). Assumes nothing.
use mathlib.Core.Path.{◌∙◌, ◌≡◌, ap, refl, subst, sym}
use mathlib.Core.List.{List, [], ◌∷◌}
use Prim.Native.Nat.{◌*◌, ◌+◌, ◌<◌, ◌≤◌, suc, zero, ℕ}
use lib.ListN.{get_or-eq_default, get_or, length}
use native.Mathlib.Decide.{dec_lt}
use native.Mathlib.Nat.{le_of_suc-le-suc, not-suc-le-zero}
use native.Mathlib.Omega.{arith}
use Rattle.graph.specs.ByTail.{group_size}
use Rattle.graph.specs.ByTailLaws.{GroupEntry}
use Rattle.graph.proofs.ByTailLaws.{group_entry, size_gap, size-here, size-more, size-rises}
use Rattle.model.specs.Layout.{road_size}
use Rattle.model.specs.Bytes.{word_at}
use Rattle.road_groups.specs.Lending.{tail_in}
use Rattle.search_junctions.specs.Groups.{IsGroup}

-- ---- the roads of a group

-- j is the first road from u among those numbered k to m - 1, or m
pub record FirstFrom (roads : List ℕ) (m u k j : ℕ) : Type 0 where
  pub low : k ≤ j
  pub high : j ≤ m
  pub leaves : j < m → word_at roads (road_size * j) ≡ u
  pub none_before : (i : ℕ) → k ≤ i → i < j → word_at roads (road_size * i) ≡ u → ⊥

-- entry k of a group, and m behind the last
abbrev pub entry_at : (group : List ℕ) (m k : ℕ) → ℕ
entry_at group m k = get_or group k m

-- an entry, as it is read
pub entry_read : (group : List ℕ) (m k : ℕ) → k < length group → get_or group k 0 ≡ entry_at group m k
entry_read [] m k h = absurd (not-suc-le-zero h)
entry_read (x ∷ group) m zero h = refl
entry_read (x ∷ group) m (suc k) h = entry_read group m k (le_of_suc-le-suc h)

pub entry-end : (group : List ℕ) (m k : ℕ) → length group ≤ k → entry_at group m k ≡ m
entry-end group m k h = get_or-eq_default group m {n = k} h

module _ {roads : List ℕ} {m u : ℕ} {group : List ℕ} (is : IsGroup roads m u group) where
  -- which road an entry is
  pub entry_of : {k : ℕ} → k < length group → GroupEntry (tail_in roads) m u k (entry_at group m k)
  entry_of {k} h =
      subst (GroupEntry (tail_in roads) m u k) (ap (λ (l : List ℕ). get_or l k 0) (sym is.group_is) ∙ entry_read group m k h)
      (group_entry (tail_in roads) m u k (omega (arith, h, ap length is.group_is)))

  -- k roads of u come before road a: the next is entry k
  from-entry : {a k : ℕ} → a ≤ m → group_size (tail_in roads) a u ≡ k → FirstFrom roads m u a (entry_at group m k)
  from-entry {a} {k} le before = at (dec_lt k (length group))
    where
      is-first : {j : ℕ} → GroupEntry (tail_in roads) m u k j → Dec (j < a) → FirstFrom roads m u a j
      is-first x (yes q) = absurd (omega (arith, size-more (tail_in roads) q x.leaves, x.earlier))
      is-first x (no q) = record {
        low = omega arith;
        high = omega (arith, x.below);
        leaves = λ _. x.leaves;
        none_before = λ i. size_gap (tail_in roads) {k = a} (x.earlier ∙ sym before);
      }

      at : Dec (k < length group) → FirstFrom roads m u a (entry_at group m k)
      at (yes h) = is-first (entry_of h) (dec_lt _ a)
      at (no h) =
          let all : group_size (tail_in roads) m u ≡ group_size (tail_in roads) a u =
          omega (arith, ap length is.group_is, size-rises (tail_in roads) u a m le) in
          subst (FirstFrom roads m u a) (sym (entry-end group m k (omega arith))) (record {
            low = le;
            high = omega arith;
            leaves = λ l. absurd (omega arith);
            none_before = λ i. size_gap (tail_in roads) {k = a} all;
          })

  pub first_of : FirstFrom roads m u 0 (entry_at group m 0)
  first_of = from-entry (omega arith) refl

  -- behind an entry, the next one
  pub next_of : {k : ℕ} → k < length group → FirstFrom roads m u (suc (entry_at group m k)) (entry_at group m (k + 1))
  next_of {k} h =
      let x = entry_of h in
      from-entry x.below (omega (arith, x.earlier, size-here (tail_in roads) x.leaves))
