-- The lowest bit that is left when the byte is halved as often as the class says (`bit_is`).
use Rattle.network.proofs.Bits.{bit_is}
use Rattle.network.proofs.admits.Goals as goal

pub returns : goal.returns
returns c =
    let (byte_is, _) = c.byte_of.ensures in
    bit_is _ byte_is c.halved.ensures
