-- Document 02, A4, from the contract of a run alone: "each kept sum is proved to be its candidate's key at every choice". A choice is made
-- after any number k of steps, at which the budget may end the run. Assumes nothing.
use Rattle.std.specs.Prelude.{◌≡◌, refl, false, List, [], ◌+◌, ◌<◌, ℕ}
use Rattle.std.proofs.Math.Option.{some}
use Rattle.graph.specs.Search.{Entry, offered, run}
use Rattle.graph.specs.Choice.{Candidate}
use Rattle.model.specs.Good.{AimFacts}
use Rattle.road_groups.specs.Lending.{GroupsMade}
use Rattle.search_queue.specs.Order.{Order, Waiting}
use Rattle.search_labels.specs.Labelling.{labels_in, order_of}
use Rattle.search_junctions.specs.State.{Given, Ready, go_given, map_given}
use Rattle.search_run.specs.Runs.{Advances, Written}

module _ {g : Given} {leaving groups : List ℕ} {s z k : ℕ} {l l' : Written} {c : ℕ} (a : Advances g leaving groups s z k l l' c false)
    (r : Ready g s z) (made : GroupsMade g.roads g.sizes.n g.sizes.m leaving groups)
    (aimed : AimFacts (map_given g) z g.down l.estimates) where
  -- the steps made, and the sums and times kept
  abbrev made_so_far : List Entry
  made_so_far = run (go_given g s z) k []

  abbrev sums : Order
  sums = order_of g.sizes.n l'.ways

  abbrev time_kept : ℕ → ℕ
  time_kept = (labels_in g.sizes.n l'.ways).times

  -- what waits to be chosen has the time that the logged nodes offer it, and its kept sum is that time plus its estimate
  pub sum_is-key : (v : ℕ) → v < (go_given g s z).size → Waiting sums v
      → (e : ℕ) × ((go_given g s z).pot v ≡ some e) × (offered (go_given g s z) made_so_far v ≡ some (time_kept v))
      × (sums.key v ≡ time_kept v + e)
  sum_is-key v lv waits =
      let d = ((a.exact r made aimed).sums refl).kept v lv waits in
      (d.estimate, d.pot-is, d.time-is, d.key-is)

  -- and every candidate waits
  pub candidate-waits : (d : Entry) → Candidate (go_given g s z) made_so_far d → Waiting sums d.vertex
  candidate-waits d m = ((a.exact r made aimed).sums refl).waits d m
