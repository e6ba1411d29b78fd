-- The times that a trip goes by (document 02, A2 and A6). Definitions, and how many there are.
use Rattle.std.proofs.Common.{◌∙◌, length-set}
use Rattle.std.specs.Prelude.{◌≡◌, refl, List, ℕ, length, set}
use Rattle.model.specs.Classes.{access_of, class_times}
use Rattle.model.proofs.ClassLaws.{times-length}
use Rattle.search_junctions.specs.declared.Trip.{Trip}
use Rattle.search_junctions.specs.declared.View.{View}
use Rattle.search_junctions.specs.declared.View.TheVariants.{Live, Set}

-- the live times, or these with one road's time set
abbrev pub seen : View → (live : List ℕ) → List ℕ
seen Live live = live
seen (Set i t) live = set live i t.0

pub seen-length : (v : View) (live : List ℕ) → length (seen v live) ≡ length live
seen-length Live live = refl
seen-length (Set i t) live = length-set live i t.0

-- these as the trip's class meets them, by the roads' bytes
abbrev pub met : Trip → (access live : List ℕ) → List ℕ
met t access live = class_times (access_of access) t.class (seen t.view live)

pub met-length : (t : Trip) (access live : List ℕ) → length (met t access live) ≡ length live
met-length t access live = times-length (access_of access) t.class (seen t.view live) ∙ seen-length t.view live
