-- Two words that stand side by side are written, and the rest of the area stays (`put`).
use native.Mathlib.Omega.{arith}
use Rattle.pairs_records.proofs.Writes.{put}
use Prim.Native.Nat.{◌*◌}
use Rattle.pairs_records.proofs.put_two.Goals as goal

pub returns : goal.returns
returns g c =
    put c.args.area.now (2 * c.args.i) c.args.first c.args.second (omega (arith, c.requires))
