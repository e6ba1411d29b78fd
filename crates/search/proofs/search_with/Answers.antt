-- The room is made blank (`blank-room`), and in each room the search is the same.
use mathlib.Core.Path.{refl}
use Rattle.search.proofs.Wholes.{blank-room}
use Rattle.search.proofs.search_with.Goals as goal

pub search_in-requires : goal.search_in-requires
search_in-requires g c =
    (record { lends = c.requires.0; fresh = blank-room _ c.requires.1 }, refl)
