-- The areas begin with the records of the row up to h (`Appending`). Each turn takes in one rank, and appends its pair if that is kept
-- (`append-put`, `append-skip`); or a block that is not touched, which holds none (`append-over`). None is answered where the next record
-- has no room (`append-full`).
use Prim.Native.Nat.{◌*◌, ◌-◌, ◌<◌, ◌≤◌, ℕ}
use mathlib.Core.Path.{◌≡◌}
use mathlib.Core.List.{List}
use lib.ListN.{length}
use Rattle.graph.specs.Path.{Weights}
use Rattle.model.specs.Areas.{record_size}
use Rattle.pairs_storing.specs.Storing.{RowTimes}
use Rattle.pairs_storing.proofs.Records.{Appending}
use Rattle.pairs_storing.proofs.append_row.Given as goal

-- the highs below h are taken in
pub record AppendingRow (touched : List ℕ) (n r count : ℕ) (ups₀ downs₀ pairs₀ times₀ ups downs pairs times : List ℕ) (k h : ℕ)
    : Type 0 where
  pub above : r < h
  pub within : h ≤ n
  pub records_in : record_size * k ≤ length pairs₀
  pub ups-kept : length ups ≡ length ups₀
  pub downs-kept : length downs ≡ length downs₀
  pub appending : (w : Weights) → RowTimes w n r count touched ups₀ downs₀ pairs₀ times₀
      → Appending w n r h k ups₀ downs₀ ups downs pairs times

abbrev pub invariant-loop-h : goal.invariant-loop-h
invariant-loop-h l =
    AppendingRow l.touched l.n l.r.0 l.count l.initial.ups l.initial.downs l.initial.pairs l.initial.times l.ups l.downs l.pairs l.times
    l.k l.h

abbrev pub decreases-loop-h : goal.decreases-loop-h
decreases-loop-h l =
    l.n - l.h
