-- What appending a row asks of the slices that it is lent. Definitions only.
use Rattle.std.specs.Prelude.{◌≡◌, List, ◌*◌, ◌<◌, ◌≤◌, ℕ, length}
use Rattle.model.specs.Limits.{most_junctions, most_pairs}
use Rattle.model.specs.Areas.{record_size}
use Rattle.pairs_rows.specs.Rows.{block}

-- n ranks fit the two rows of times and the marks of their blocks, r is one of them, and `count` records fit the two areas
pub record AppendAsked (n r count : ℕ) (touched ups downs pairs times : List ℕ) : Type 0 where
  pub rank_in : r < n
  pub n-high : n ≤ most_junctions
  pub touched-long : n ≤ block * length touched
  pub ups-long : n ≤ length ups
  pub downs-long : n ≤ length downs
  pub records_in : record_size * count ≤ length pairs
  pub pairs-high : length pairs ≤ record_size * most_pairs
  pub same-room : length times ≡ length pairs
