-- Each turn links one road more (`Linked`): it becomes the first of its row, before the one that was first (`linked-turn`).
use Prim.Native.Nat.{◌/◌, ◌≤◌, ℕ}
use mathlib.Core.List.{List}
use lib.ListN.{length}
use Rattle.pairs_rows.specs.Links.{Linked, net_in}
use Rattle.pairs_linking.proofs.link_roads.Given as goal

-- the roads below i are linked
pub record Linking (roads ranks : List ℕ) (i : ℕ) (first next : List ℕ) : Type 0 where
  pub firsts_in : length ranks ≤ length first
  pub nexts_in : length roads / 12 ≤ length next
  pub linked : Linked (net_in roads ranks) (length ranks) i first next

abbrev pub invariant-loop-i : goal.invariant-loop-i
invariant-loop-i l =
    Linking l.roads l.ranks l.i l.links.first l.links.next
