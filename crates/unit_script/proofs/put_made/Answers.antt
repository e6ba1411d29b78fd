-- The legs' words come behind the four, in the same place (`made-put`).
use Rattle.std.proofs.Common.{arith}
use Rattle.std.specs.Prelude.{◌*◌, ◌+◌, ◌≤◌, length}
use Rattle.unit_script.specs.Words.{answer_size}
use Rattle.unit_script.proofs.Answers.{made-put, row-length, row-put}
use Rattle.unit_script.proofs.put_made.Goals as goal

pub returns : goal.returns
returns c =
    let out = c.args.out.now in
    let i = answer_size * c.args.k in
    let record { len = long; after = same } = c.copy_from_slice.ensures in
    let room : i + 4 ≤ length out = omega (arith, c.requires) in
    made-put out c.args.k c.args.m (row-length out i long same room) c.requires (row-put out i long same room) c.put_legs.ensures
