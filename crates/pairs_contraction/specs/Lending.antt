-- What making a row asks and does, of the links, fronts, rows and areas that it is lent. Definitions only.
use Rattle.std.specs.Prelude.{List, Option, ◌<◌, ◌≤◌, ℕ, length}
use Rattle.graph.specs.Path.{Weights}
use Rattle.graph.specs.Network.{direct}
use Rattle.model.specs.Limits.{most_junctions}
use Rattle.pairs_rows.specs.Links.{Grouped, net_in}
use Rattle.pairs_rows.specs.declared.Rows.{Rows}
use Rattle.pairs_linking.specs.declared.Links.{Links}
use Rattle.pairs_fronts.specs.declared.Fronts.{Fronts}
use Rattle.pairs_contraction.specs.Contraction.{Ready, RowDone}

abbrev pub ReadyIn : Weights → (n r count : ℕ) → (pairs times : List ℕ) → Fronts → Rows → Type 0
ReadyIn w n r count pairs times f t = Ready w n r count pairs times f.cursor f.ahead f.ends f.soon t.ups t.downs

-- the row of rank r may be made, after `count` records, and is
pub record RowAsked (roads ranks : List ℕ) (l : Links) (r count : ℕ) (pairs times : List ℕ) (f : Fronts) (t : Rows) : Type 0 where
  pub grouped : Grouped roads ranks l.first l.next
  pub ready : ReadyIn (direct (net_in roads ranks)) (length ranks) r count pairs times f t
  pub rank_in : r < length ranks
  pub ranks-high : length ranks ≤ most_junctions

abbrev pub RowMade : (roads ranks : List ℕ) (r : ℕ) (pairs times : List ℕ) → Fronts → Rows → Option ℕ → Type 0
RowMade roads ranks r pairs times f t answer = RowDone (direct (net_in roads ranks)) (length ranks) r pairs times
    f.cursor f.ahead f.ends f.soon t.ups t.downs answer
