-- After i legs their words stand behind one another from the start on (`legs-start`); a turn puts two words behind those (`leg-stored`).
use Rattle.std.proofs.Common.{◌≡◌}
use Rattle.unit_script.specs.Words.{legs_words, put_at}
use Rattle.unit_script.proofs.put_legs.Given as goal

-- the words of i legs stand from the start on
abbrev pub invariant-loop-i : goal.invariant-loop-i
invariant-loop-i l = l.out ≡ put_at l.initial.out l.start (legs_words l.totals l.roads 0 l.i)
