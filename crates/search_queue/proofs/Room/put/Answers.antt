-- put: what its loops keep stands in Invariants.antt.
use Rattle.std.proofs.Common.{refl}
use Rattle.search_queue.proofs.Climb.{beside-tells, climb-end, climb-start, climb-tells, climb-turn}
use Rattle.search_queue.proofs.Room.put.Goals as goal

pub loop-at-init : goal.loop-at-init
loop-at-init c =
    let (inside, few, _, changed) = c.requires in
    (refl, refl, climb-start c.args.key inside few c.args.self.now.sized c.own_word-w.ensures changed)

pub better_of-w-requires : goal.better_of-w-requires
better_of-w-requires c =
    let (_, few, _, _) = c.requires in
    let more = c.loop-at-test.true in
    let (same, lent, climb) = c.loop-at.invariant in
    rw same (climb-tells few more refl refl climb refl, beside-tells few more refl refl climb refl)

pub loop-at-preserved : goal.loop-at-preserved
loop-at-preserved c =
    let (_, few, _, _) = c.requires in
    let (same, lent, climb) = c.loop-at.invariant in
    (same, lent, climb-turn few c.loop-at-test.true refl refl climb refl (rw same at c.better_of-w.ensures))

pub returns-clause-put : goal.returns-clause-put
returns-clause-put c =
    let (inside, few, _, _) = c.requires in
    let (same, lent, climb) = c.loop-at.invariant in
    climb-end c.args.key inside few c.args.self.now.sized c.own_word-w.ensures c.loop-at-test.false climb
