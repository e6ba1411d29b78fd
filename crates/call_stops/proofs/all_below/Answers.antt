-- `all` answers whether each stop is below n, so as the definition does (`below-is`).
use Rattle.std.specs.Prelude.{◌≡◌, ◌↔◌, true, ◌<◌, ℕ, All}
use Rattle.std.proofs.Common.{rules}
use Rattle.call_stops.proofs.Questions.{below-is}
use Rattle.call_stops.proofs.all_below.Goals as goal

pub returns : goal.returns
returns c =
    let a = c.args in
    let e : (c.all.result ≡ true) ↔ All (λ (s : ℕ). s < a.n) a.stops.now = search rules in
    below-is a.n a.stops.now c.all.result e
