-- Each turn relaxes both rows by one more of the records after i, and marks the block of its high (`going_turn`).
use mathlib.Core.Path.{◌≡◌}
use mathlib.Core.List.{List}
use Prim.Native.Nat.{◌+◌, ℕ}
use lib.ListN.{length}
use Rattle.pairs_fronts.proofs.Passes.{Going}
use Rattle.pairs_fronts.proofs.relax_over.Given as goal

-- the records after i and before j have relaxed the rows
pub record RelaxingOver (pairs times : List ℕ) (i end down up : ℕ) (ups₀ downs₀ touched₀ ups downs touched : List ℕ) (j : ℕ) : Type 0 where
  pub touched-kept : length touched ≡ length touched₀
  pub going : Going pairs times (i + 1) end down up j ups₀ downs₀ touched₀ ups downs touched

abbrev pub invariant-loop-j : goal.invariant-loop-j
invariant-loop-j l =
    RelaxingOver l.records.pairs.now l.records.times.now l.i l.end l.down.0 l.up.0 l.initial.ups l.initial.downs l.initial.touched
    l.ups l.downs l.touched l.j
