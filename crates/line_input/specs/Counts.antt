-- Bytes that were read, counted. Definitions only.
use Rattle.std.specs.Prelude.{◌≡◌, Err, List, Ok, Result, length, min, take, ◌≤◌, ℕ}

-- n bytes stand first in xs
abbrev pub IsPrefixLen : ℕ → List ℕ → Type 0
IsPrefixLen n xs = (n ≤ length xs) × (n ≡ length (take n xs))

-- how many bytes a read gave into room for `most`: none where it failed
abbrev pub count_of : {E : Type 0} → Result ℕ E → (most : ℕ) → ℕ
count_of (Ok n) most = min n most
count_of (Err e) most = 0
