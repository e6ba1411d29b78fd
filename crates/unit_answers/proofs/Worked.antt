-- The change at its ends, computed: from 0 up to 2^63 - 1, from there down to 0, and between equal totals; from 2^63 on there is none.
use mathlib.Core.Path.{◌≡◌, refl}
use mathlib.Core.Option.{none, some}
use lib.IntN.{negsuc, pos}
use Rattle.model.specs.Preview.{change_of}
use Rattle.unit_answers.specs.Signed.{held}

pub largest : change_of (some 0) (some 9223372036854775807) ≡ some (pos 9223372036854775807)
largest = refl

-- `negsuc k` is -(k + 1)
pub least : change_of (some 9223372036854775807) (some 0) ≡ some (negsuc 9223372036854775806)
least = refl

pub equal : change_of (some 9223372036854775807) (some 9223372036854775807) ≡ some (pos 0)
equal = refl

pub too_large : change_of (some 0) (held (some 9223372036854775808)) ≡ none
too_large = refl
