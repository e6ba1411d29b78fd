-- The areas that the pass over the records is lent, and what its clauses say of them. Definitions only.
use Rattle.std.specs.Prelude.{◌≡◌, List, ◌*◌, ◌+◌, ◌<◌, ◌≤◌, ℕ, length}
use Rattle.std.specs.Borrow.{MutBor}
use denote.Triple.Both.{Both}
use Rattle.model.specs.Limits.{most_junctions, most_pairs}
use Rattle.model.specs.Areas.{record_size}
use Rattle.network.specs.Lending.{Held, Slice}
use Rattle.pairs_records.specs.declared.Records.{Records}
use Rattle.pairs_descents.specs.Downs.{Descended, Handed}

-- the order, the ranks and the times of the pairs, and the down totals
pub record Lent : Type 0 where
  pub order : List ℕ
  pub pairs : List ℕ
  pub times : List ℕ
  pub down : List ℕ

abbrev pub lent_of : (order : Held) (records : Records) (down : MutBor (List ℕ)) → Lent
lent_of o r d = record { order = o.now; pairs = r.pairs.now; times = r.times.now; down = d.now }

abbrev pub lent : (order : Slice) (records : Both Records Records) (down : Both (MutBor (List ℕ)) (MutBor (List ℕ))) → Both Lent Lent
lent o r d = record { entry = lent_of o.entry r.entry d.entry; exit = lent_of o.exit r.exit d.exit }

-- record i may hand a total down, and does
pub record HandAsked (n i : ℕ) (a : Lent) : Type 0 where
  pub n-high : n ≤ most_junctions
  pub order_is : length a.order ≡ 4 * n
  pub down_is : length a.down ≡ n
  pub record_in : record_size * i + record_size ≤ length a.pairs
  pub times_in : record_size * i + record_size ≤ length a.times

abbrev pub HandDone : (n i : ℕ) → Both Lent Lent → Type 0
HandDone n i a = Handed n a.entry.order a.entry.pairs a.entry.times i a.entry.down a.exit.down

-- the totals of a target may be asked, and are made
pub record DownsAsked (n count target : ℕ) (a : Lent) : Type 0 where
  pub target_in : target < n
  pub n-high : n ≤ most_junctions
  pub order_is : length a.order ≡ 4 * n
  pub down_is : length a.down ≡ n
  pub records_in : record_size * count ≤ length a.pairs
  pub times_in : record_size * count ≤ length a.times
  pub count-high : count ≤ most_pairs

abbrev pub DownsMade : (count target : ℕ) → Lent → Type 0
DownsMade count target a = Descended a.order a.pairs a.times count a.down target
