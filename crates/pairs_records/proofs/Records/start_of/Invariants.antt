-- What is left (`Left`) holds every record that is not yet known to be below r or not below it. Three tests choose the quarter that is
-- kept (`left-turn`), until three records or fewer are left (`left-few`).
use Rattle.pairs_records.specs.Tests.{Left}
use Rattle.pairs_records.proofs.Records.start_of.Given as goal

abbrev pub invariant-loop-size : goal.invariant-loop-size
invariant-loop-size l =
    Left l.self.pairs.now l.count l.r.0 l.base l.size

abbrev pub decreases-loop-size : goal.decreases-loop-size
decreases-loop-size l =
    l.size
