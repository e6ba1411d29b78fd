-- What functions over the roads, ranks and links of the rows ask and do. Definitions only.
use Rattle.std.specs.Prelude.{◌≡◌, List, ◌*◌, ◌/◌, ◌<◌, ◌≤◌, ℕ, get_or, length}
use Rattle.std.proofs.Math.Option.{none}
use Rattle.pairs_linking.specs.declared.Links.{Links}
use Rattle.pairs_rows.specs.declared.Rows.{Rows}
use Rattle.pairs_rows.specs.Links.{Grouped, Ranked, net_in}
use Rattle.pairs_rows.specs.Rows.{RoadRelaxed, RoadTimes, Row, block}

-- room for the lists of roads, of which none has begun
pub record Unlinked (roads ranks : List ℕ) (l : Links) : Type 0 where
  pub ranked : Ranked roads ranks
  pub firsts_in : length ranks ≤ length l.first
  pub nexts_in : length roads / 12 ≤ length l.next
  pub firsts-none : (r : ℕ) → r < length ranks → get_or l.first r 0 ≡ 0

-- road i may relax a row, and does
pub record RoadAsked (roads ranks : List ℕ) (i : ℕ) (t : Rows) : Type 0 where
  pub ranked : Ranked roads ranks
  pub road_in : i < length roads / 12
  pub ups-long : length ranks ≤ length t.ups
  pub downs-long : length ranks ≤ length t.downs
  pub touched-long : length ranks ≤ block * length t.touched

abbrev pub RoadDone : (roads ranks : List ℕ) (i : ℕ) (t t' : Rows) → Type 0
RoadDone roads ranks i t t' = RoadRelaxed (net_in roads ranks) (length ranks) i t.ups t.downs t.touched t'.ups t'.downs t'.touched

-- the row of r is none, and then has the times of single roads
pub record RowAsked (roads ranks : List ℕ) (l : Links) (r : ℕ) (t : Rows) : Type 0 where
  pub grouped : Grouped roads ranks l.first l.next
  pub rank_in : r < length ranks
  pub ups-none : Row r (length ranks) t.ups (λ h. none)
  pub downs-none : Row r (length ranks) t.downs (λ h. none)
  pub touched-long : length ranks ≤ block * length t.touched

abbrev pub RowBegun : (roads ranks : List ℕ) (r : ℕ) → Rows → Type 0
RowBegun roads ranks r t = RoadTimes (net_in roads ranks) r (length ranks) t.ups t.downs t.touched
