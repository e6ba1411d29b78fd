-- A map's down times and up times as arcs between junctions. Definitions; what is proved of them stands in proofs/Junctions.antt.
use Rattle.std.specs.Prelude.{◌≡◌, ◌<◌}
use Rattle.std.proofs.Math.Option.{some}
use Rattle.graph.specs.Path.{Arcs}
use Rattle.graph.specs.Map.{Map, down_of, up_of}

-- the down times between junctions as arcs, from high to low
abbrev pub DownArc : Map → Arcs
DownArc M h l c = (l < M.vertices) × (down_of M l h ≡ some c)

-- the up times, from low to high
abbrev pub UpArc : Map → Arcs
UpArc M l h c = (h < M.vertices) × (up_of M l h ≡ some c)
