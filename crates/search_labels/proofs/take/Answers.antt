-- The label is read, improved and written back; where its time has changed the queue has its new key (`taken-put`), else the key stays as
-- it is (`taken-kept`).
use Rattle.std.proofs.Common.{arith}
use Rattle.std.proofs.lemmas.Grind.{common_steps}
use Rattle.search_labels.proofs.Improves.{changed, taken-kept, taken-put}
use Rattle.search_labels.proofs.take.Goals as goal

pub improved-new-requires : goal.improved-new-requires
improved-new-requires c =
    let (_, time-low) = c.upper_of.ensures in
    let (_, key-low) = c.key_of.ensures in
    let (_, via-low) = c.lower_of.ensures in
    let (_, arc, _) = c.requires in
    (record { time-low = time-low; key-low = key-low; via-low = via-low }, arc)

pub put-requires : goal.put-requires
put-requires c =
    let (inside, _, room) = c.requires in
    let (_, fits) = c.improved-new.ensures in
    (inside, room.n-high, fits.key-low, changed inside _ room _)

pub returns-then-ne-clause-taken : goal.returns-then-ne-clause-taken
returns-then-ne-clause-taken c =
    let (inside, _, room) = c.requires in
    let (improves, fits) = c.improved-new.ensures in
    taken-put inside _ room fits c.word_of.ensures (rw c.put.ensures.n_is at c.put.new.self.sized) c.put.ensures.put
    c.upper_of.ensures.0 c.key_of.ensures.0 c.lower_of.ensures.0 improves

pub returns-else-ne-clause-taken : goal.returns-else-ne-clause-taken
returns-else-ne-clause-taken c =
    let (inside, _, room) = c.requires in
    let (improves, fits) = c.improved-new.ensures in
    taken-kept inside _ room fits c.word_of.ensures (grind (arith, common_steps))
    c.upper_of.ensures.0 c.key_of.ensures.0 c.lower_of.ensures.0 improves
