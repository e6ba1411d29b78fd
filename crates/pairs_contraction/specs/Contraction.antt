-- What the contraction answers and leaves. Assumes nothing.
use Rattle.std.proofs.Common.{◌∙◌, ap, sym, arith}
use Rattle.std.specs.Prelude.{◌≡◌, List, None, Option, Some, ◌*◌, ◌<◌, ◌≤◌, suc, ℕ, length}
use Rattle.std.proofs.Math.Option.{none}
use Rattle.std.proofs.Math.Decide.{dec_lt}
use Rattle.graph.specs.Path.{Weights}
use Rattle.graph.specs.Records.{rows}
use Rattle.graph.specs.Map.{Map, pairs_of, rank}
use Rattle.model.specs.Limits.{most_pairs}
use Rattle.model.specs.Bytes.{listed}
use Rattle.model.specs.Areas.{record_size, records_in, times_in}
use Rattle.network.specs.Bodies.{Prepared, Sound, map_in}
use Rattle.pairs_rows.specs.Rows.{Row}
use Rattle.pairs_fronts.specs.Fronts.{Front, Holds, Narrow, Sooner, Wide}

-- the area of ranks: each junction's place in the order
abbrev pub ranks_in : (roads order : List ℕ) → List ℕ
ranks_in roads order = listed (map_in roads order).vertices (rank (map_in roads order))

-- the pairs of the ranks below r stand in the two areas, and their rows are passed up to before r
pub record Ready (w : Weights) (n r count : ℕ) (pairs times cursor ahead ends soon ups downs : List ℕ) : Type 0 where
  pub wide : Wide n cursor ahead ends
  pub area : length pairs ≤ record_size * most_pairs
  pub narrow : Narrow w n
  pub holds : Holds (rows w n r) count pairs times
  pub fronts : (v : ℕ) → v < r → Front w n v r cursor ahead ends
  pub sooner : Sooner n r ahead soon
  pub ups-none : Row r n ups (λ h. none)
  pub downs-none : Row r n downs (λ h. none)

-- the same of the next rank; or the pairs up to those of r do not fit
pub record RowDone (w : Weights) (n r : ℕ) (pairs times cursor ahead ends soon ups downs : List ℕ) (answer : Option ℕ) : Type 0 where
  pub kept : (count : ℕ) → answer ≡ Some count → Ready w n (suc r) count pairs times cursor ahead ends soon ups downs
  pub overflow : answer ≡ None → length pairs < record_size * length (rows w n (suc r))

-- document 01: the number of kept pairs, and their records followed by zeros, if they fit; None exactly if they do not. (Document 02,
-- A7: "room for the same whole number of pairs in both" areas.)
pub record Contraction (M : Map) (room : ℕ) (pairs times : List ℕ) (answer : Option ℕ) : Type 0 where
  pub kept : record_size * length (pairs_of M) ≤ room
      → (answer ≡ Some (length (pairs_of M))) × (pairs ≡ records_in M room) × (times ≡ times_in M room)
  pub overflow : room < record_size * length (pairs_of M) → answer ≡ None

-- ---- what preparing takes from it

module _ {M : Map} {room : ℕ} {pairs times : List ℕ} {answer : Option ℕ} (c : Contraction M room pairs times answer) where
  fits : (k : ℕ) → answer ≡ Some k → record_size * length (pairs_of M) ≤ room
  fits k e = go (dec_lt room (record_size * length (pairs_of M)))
    where
      go : Dec (room < record_size * length (pairs_of M)) → record_size * length (pairs_of M) ≤ room
      go (yes h) =
          let o = c.overflow h in
          let z : ◌≡◌ {A = ℕ} 0 1 = cc in
          absurd (omega arith)
      go (no h) = omega arith

  pub contraction_overflow : answer ≡ None → room < record_size * length (pairs_of M)
  contraction_overflow e = go (dec_lt room (record_size * length (pairs_of M)))
    where
      go : Dec (room < record_size * length (pairs_of M)) → room < record_size * length (pairs_of M)
      go (yes h) = h
      go (no h) =
          let o = (c.kept (omega arith)).0 in
          let z : ◌≡◌ {A = ℕ} 0 1 = cc in
          absurd (omega arith)

pub contraction_prepared : {roads order ranks pairs times : List ℕ} {room count : ℕ} {answer : Option ℕ} → Sound roads order
    → ranks ≡ ranks_in roads order → length pairs ≡ room → length times ≡ room → answer ≡ Some count
    → Contraction (map_in roads order) room pairs times answer → Prepared roads order ranks pairs times count
contraction_prepared {roads} {order} {room = room} {count} {answer} s r pairs-long times_long e c =
    let f = fits c count e in
    let (k, pairs_are, times_are) = c.kept f in
    let q : count ≡ length (pairs_of (map_in roads order)) = cc in
    record {
      sound = s;
      ranks_are = r;
      count-is = q;
      pairs_are = pairs_are ∙ ap (records_in (map_in roads order)) (sym pairs-long);
      times_are = times_are ∙ ap (times_in (map_in roads order)) (sym times_long);
      room = omega (arith, f, q, pairs-long);
      same-room = times_long ∙ sym pairs-long;
    }
