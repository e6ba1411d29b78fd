-- The search effort of a go as an exact figure (document 02, A5): what the request says of a go (`Effort`). Definitions; what is proved
-- of them stands in proofs/Effort.antt.
use Rattle.std.specs.Prelude.{◌≡◌, ◌&&◌, ℕ}
use Rattle.std.proofs.Math.Option.{none, some}
use Rattle.graph.specs.Total.{Total, is_number, no_more}
use Rattle.graph.specs.Lists.{count_below}
use Rattle.graph.specs.Search.{Problem, count_of, log_of, total_of, vertices}
use Rattle.graph.specs.LogOrder.{in_order, key_of}

-- What the request says of the search G of a go, where its n junctions have these least times and estimates.
pub record Effort (n : ℕ) (time est : ℕ → Total) (G : Problem) : Type 0 where
  -- "The count of a found route is then exactly the number of junctions whose least time from the start plus estimate is no more than the
  -- total."
  pub count : (T : ℕ) → total_of G ≡ some T → count_of G ≡ count_below (λ v. no_more (key_of time est v) (some T)) n
  -- "The log is those junctions sorted by key, time, number."
  pub log : (T : ℕ) → total_of G ≡ some T → vertices (log_of G) ≡ in_order time est (λ v. no_more (key_of time est v) (some T)) n
  -- "Where no chain exists, it is exactly the junctions reached by open roads that have an estimate."
  pub lost-count : total_of G ≡ none → count_of G ≡ count_below (λ v. is_number (time v) && is_number (est v)) n
  pub lost-log : total_of G ≡ none → vertices (log_of G) ≡ in_order time est (λ v. is_number (time v) && is_number (est v)) n
