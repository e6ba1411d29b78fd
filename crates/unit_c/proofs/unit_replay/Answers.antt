-- The header that C's words stand for meets the contract of a replay; C is told the words of the header that it hands back (`replay_told`).
use Rattle.unit_c.proofs.Told.{replay_told}
use Rattle.unit_c.proofs.unit_replay.Goals as goal

pub returns : goal.returns
returns c = replay_told c.replay.result c.from-h.ensures c.from.ensures c.replay.ensures
