-- Laws of the bytes of a row of words. Assumes nothing.
use Rattle.std.specs.Prelude.{◌≡◌, refl, List, [], ◌++◌, ◌∷◌, ◌%◌, ◌/◌, ℕ}
use Rattle.std.proofs.Common.{ap}
use Rattle.model.specs.Bytes.{bytes_of}

pub bytes-append : (l r : List ℕ) → bytes_of (l ++ r) ≡ bytes_of l ++ bytes_of r
bytes-append [] r = refl
bytes-append (w ∷ l) r = ap (λ (x : List ℕ). w % 256 ∷ w / 256 % 256 ∷ w / 65536 % 256 ∷ w / 16777216 % 256 ∷ x) (bytes-append l r)
