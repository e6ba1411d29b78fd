-- A refusal by 7 prints `no 0`, any other its own line.
use Rattle.std.proofs.Common.{◌≡◌, refl}
use Rattle.network.specs.Refusals.{refusal_in}
use Rattle.network.specs.declared.Refusal.{Refusal}
use Rattle.network.specs.declared.Refusal.TheVariants.{AreaLengths, Kinds, Lengths, LentLengths, NoClass, NoJunction, NoLeg, NoPath, NoRoad}
use Rattle.network.specs.declared.Refusal.TheVariants.{NoTarget, NotAllowed, Place, Road, Room, Short, Sizes, Starts, StopCount}
use Rattle.program_shell.specs.Opening.{no_line, refusal_line}
use Rattle.program_shell.proofs.write_refusal.Goals as goal

other_line : (q : Refusal) → (q ≡ AreaLengths → ⊥) → refusal_line (refusal_in q) ≡ no_line (refusal_in q)
unfolding refusal_line
other_line AreaLengths f = absurd (f refl)
other_line Short f = refl
other_line Kinds f = refl
other_line Starts f = refl
other_line Sizes f = refl
other_line (Road i) f = refl
other_line (Place i) f = refl
other_line Room f = refl
other_line Lengths f = refl
other_line NoRoad f = refl
other_line NotAllowed f = refl
other_line NoJunction f = refl
other_line NoTarget f = refl
other_line LentLengths f = refl
other_line (NoPath i) f = refl
other_line StopCount f = refl
other_line (NoLeg i) f = refl
other_line NoClass f = refl

pub returns-in-AreaLengths : goal.returns-in-AreaLengths
unfolding refusal_line
returns-in-AreaLengths c = rw c.in-AreaLengths.is c.write_unreadable.ensures

pub returns-in_default : goal.returns-in_default
returns-in_default c = rw (other_line c.args.q c.in_default.not-AreaLengths) c.write_answer.ensures
