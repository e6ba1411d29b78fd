-- put_words: what its loops keep stands in Invariants.antt.
use Rattle.network.proofs.Bytes.{put-end, put-start, put-turn}
use Rattle.network.proofs.put_words.Goals as goal

pub loop-i-init : goal.loop-i-init
loop-i-init c =
    put-start

pub loop-i-preserved : goal.loop-i-preserved
loop-i-preserved c =
    put-turn c.loop-i-test.true c.loop-i.invariant c.put_word.auto.s c.put_word.ensures

pub returns : goal.returns
returns c =
    put-end c.requires c.loop-i-test.false c.loop-i.invariant
