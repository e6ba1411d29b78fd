-- From entry to entry of the group: at an entry the roads before it are relaxed (`Relaxing`, `relaxing_turn`), and behind the last entry
-- all (`relaxing_end`). A number that is no road's is in no group (`relaxing_pass`).
use Rattle.search_junctions.specs.Relaxing.{read_of}
use Rattle.search_junctions.specs.Rooms.{SameRoom}
use Rattle.search_junctions.proofs.Roads.{Relaxing}
use Rattle.search_junctions.proofs.Trip.relax.Given as goal

abbrev pub invariant-loop-road : goal.invariant-loop-road
invariant-loop-road l =
    SameRoom l.initial.room l.room
    × Relaxing (read_of l.self l.ways l.estimates) l.group l.from.0 l.road-index l.initial.room.words.now l.room.words.now
