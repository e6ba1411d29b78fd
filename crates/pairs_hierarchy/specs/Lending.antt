-- The areas that an estimate is lent, and what its clauses say of them. Definitions only.
use Rattle.std.specs.Prelude.{◌≡◌, List, ◌*◌, ◌<◌, ◌≤◌, ℕ, length}
use Rattle.std.specs.Borrow.{MutBor}
use denote.Triple.Both.{Both}
use Rattle.model.specs.Limits.{most_junctions, most_pairs}
use Rattle.model.specs.Areas.{record_size}
use Rattle.pairs_hierarchy.specs.declared.Hierarchy.{Hierarchy}
use Rattle.pairs_hierarchy.specs.Estimates.{Estimated}
use Rattle.pairs_hierarchy.specs.Walks.{Climbed, Walked}

-- the order, the ranks and the times of the pairs, the down totals and the estimates
pub record Lent : Type 0 where
  pub order : List ℕ
  pub pairs : List ℕ
  pub times : List ℕ
  pub down : List ℕ
  pub estimates : List ℕ

abbrev pub lent_of : (h : Hierarchy) (estimates : MutBor (List ℕ)) → Lent
lent_of h e = record {
  order = h.order.now;
  pairs = h.records.pairs.now;
  times = h.records.times.now;
  down = h.down.now;
  estimates = e.now;
}

abbrev pub lent : (h : Hierarchy) (estimates : Both (MutBor (List ℕ)) (MutBor (List ℕ))) → Both Lent Lent
lent h e = record { entry = lent_of h e.entry; exit = lent_of h e.exit }

-- ---- by rank

-- what stands for rank r may be asked
pub record KnownAsked (n r : ℕ) (order estimates : List ℕ) : Type 0 where
  pub rank_in : r < n
  pub n-high : n ≤ most_junctions
  pub order_is : length order ≡ 4 * n
  pub estimates_are : length estimates ≡ n

-- the estimate of rank r may be asked; it is answered; the walk over the records of r has answered
pub record RankAsked (n count r : ℕ) (a : Lent) : Type 0 where
  pub rank_in : r < n
  pub n-high : n ≤ most_junctions
  pub order_is : length a.order ≡ 4 * n
  pub down_is : length a.down ≡ n
  pub estimates_are : length a.estimates ≡ n
  pub records_in : record_size * count ≤ length a.pairs
  pub times_in : record_size * count ≤ length a.times
  pub count-high : count ≤ most_pairs

abbrev pub RankTold : (n count r v : ℕ) → Both Lent Lent → Type 0
RankTold n count r v a =
    Climbed n a.entry.order a.entry.pairs a.entry.times count a.entry.down a.entry.estimates a.exit.estimates r v

abbrev pub WalkTold : (n count r own v : ℕ) → Both Lent Lent → Type 0
WalkTold n count r own v a =
    Walked n a.entry.order a.entry.pairs a.entry.times count a.entry.down a.entry.estimates a.exit.estimates r own
    count v

-- ---- by junction

-- the estimate of junction j may be asked, and is answered
pub record EstimateAsked (n count j : ℕ) (ranks : List ℕ) (a : Lent) : Type 0 where
  pub junction_in : j < n
  pub n-high : n ≤ most_junctions
  pub order_is : length a.order ≡ 4 * n
  pub ranks_are : length ranks ≡ n
  pub down_is : length a.down ≡ n
  pub estimates_are : length a.estimates ≡ n
  pub records_in : record_size * count ≤ length a.pairs
  pub times_in : record_size * count ≤ length a.times
  pub count-high : count ≤ most_pairs

abbrev pub EstimateTold : (count j v : ℕ) (ranks : List ℕ) → Both Lent Lent → Type 0
EstimateTold count j v ranks a =
    Estimated a.entry.order ranks a.entry.pairs a.entry.times count a.entry.down a.entry.estimates a.exit.estimates
    j v
