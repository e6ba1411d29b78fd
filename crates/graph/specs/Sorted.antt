-- Defines sorting by a test (`sorted`), and what the sorted list of all is that have a property (`SortedOf`). Definitions; what is
-- proved of them stands in proofs/Sorted.antt.
use Rattle.std.specs.Prelude.{◌≡◌, Bool, cond, true}
use mathlib.Core.List.{List, Memᴰ}
use mathlib.Core.List.{[], ◌∷◌}
use Rattle.graph.specs.Lists.{Distinct, Ordered}

-- x put into a list: before the first member that it may stand before
unfoldable pub insert : {A : Type 0} → (A → A → Bool) → A → List A → List A
insert before x [] = x ∷ []
insert before x (y ∷ l) = cond (before x y) (x ∷ y ∷ l) (y ∷ insert before x l)

-- the members of a list, sorted: a stands before b if the test says so
unfoldable pub sorted : {A : Type 0} → (A → A → Bool) → List A → List A
sorted before [] = []
sorted before (x ∷ l) = insert before x (sorted before l)

-- The list of all that have Q, each once, sorted by R.
pub record SortedOf {A : Type 0} (R : A → A → Type 0) (Q : A → Type 0) (l : List A) : Type 0 where
  pub in_order : Ordered R l
  pub once : Distinct l
  pub only : (a : A) → Memᴰ a l → Q a
  pub all : (a : A) → Q a → Memᴰ a l

-- ---- sorting makes it

module _ {A : Type 0} (before : A → A → Bool) where
  -- b may stand anywhere after a
  abbrev pub MayPrecede : A → A → Type 0
  MayPrecede a b = before a b ≡ true
