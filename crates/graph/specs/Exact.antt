-- The log as an exact list (document 02, A5): a problem whose arcs cost something. Definitions; what is proved of them stands in
-- proofs/Exact.antt.
use Rattle.std.specs.Prelude.{◌<◌, ℕ}
use Rattle.graph.specs.Path.{Arcs}

-- every arc costs something (document 01: "a base time 1 to 1,000,000")
abbrev pub Positive : Arcs → Type 0
Positive E = (a b c : ℕ) → E a b c → 0 < c
