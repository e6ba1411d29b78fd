-- Defines the order of the log (document 02, A5: key, time, number), and the list of all vertices that pass a test in this order.
-- Definitions; what is proved of them stands in proofs/LogOrder.antt.
use Rattle.std.specs.Prelude.{◌≡◌, Bool, ◌<◌, ◌≤◌, ℕ, leb}
use Rattle.std.proofs.Math.Bool.{cond, false, true}
use mathlib.Core.List.{List}
use Rattle.graph.specs.Total.{Total, ◌≼◌, ◌⊕◌, no_more}
use Rattle.graph.specs.Lists.{filter}
use Rattle.graph.specs.Lists.{range}
use Rattle.graph.specs.Sorted.{sorted}

-- x is smaller than y, or is equal to it and b decides
unfoldable pub smaller_or : Total → Total → Bool → Bool
smaller_or x y b = cond (no_more x y) (cond (no_more y x) b true) false

-- a vertex's key: its least time plus its estimate
abbrev pub key_of : (time est : ℕ → Total) → ℕ → Total
key_of time est v = time v ⊕ est v

-- A5: "sorted by key, time, number"
unfoldable pub sooner : (time est : ℕ → Total) → ℕ → ℕ → Bool
sooner time est u v = smaller_or (key_of time est u) (key_of time est v) (smaller_or (time u) (time v) (leb u v))

-- the vertices below n that pass a test, in this order
unfoldable pub in_order : (time est : ℕ → Total) → (ℕ → Bool) → ℕ → List ℕ
in_order time est p n = sorted (sooner time est) (filter p (range n))

-- a vertex below n that passes a test
pub record Passing (p : ℕ → Bool) (n v : ℕ) : Type 0 where
  pub below : v < n
  pub passes : p v ≡ true

-- ---- the order, as a relation

-- u may stand before v
pub record Sooner (time est : ℕ → Total) (u v : ℕ) : Type 0 where
  pub keys : key_of time est u ≼ key_of time est v
  pub times : key_of time est u ≡ key_of time est v → time u ≼ time v
  pub numbers : key_of time est u ≡ key_of time est v → time u ≡ time v → u ≤ v
