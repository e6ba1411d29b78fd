-- One row of the contraction: from the times of its roads (`lower_start`) over those of its pairs (`row-times`) to its records, after which
-- all is as the next row asks (`row_kept`), or which do not fit (`row-overflow`). Assumes nothing.
use mathlib.Core.Path.{◌∙◌, ◌≡◌, ap, refl, subst, sym}
use mathlib.Core.Bool.{cond}
use mathlib.Core.Option.{none}
use mathlib.Core.List.{List, []}
use Prim.Native.Nat.{◌*◌, ◌+◌, ◌/◌, ◌<◌, ◌≤◌, min, suc, ℕ}
use borrow.Author.Tests.{le-ltb, lt-ltb}
use lib.Dec.{ltb}
use lib.ListN.{get_or-eq_default, get_or, get_or-replicate, length, length-append, length-replicate, length-set, replicate, set}
use lib.Seq.{get_or-set_other, get_or-set_same}
use native.Mathlib.Decide.{dec_lt, ℕ_discrete}
use native.Mathlib.Nat.{not-suc-le-zero}
use native.Mathlib.Numerals.{add-one}
use native.Mathlib.Omega.{arith}
use Rattle.graph.specs.Path.{Weights}
use Rattle.graph.specs.Network.{Network, direct}
use Rattle.graph.specs.Pairs.{down, up}
use Rattle.graph.proofs.Pairs.{down-at, up_at}
use Rattle.graph.specs.Records.{Pair, edge, row, rows}
use Rattle.graph.proofs.Records.{row_low, rows_at}
use Rattle.model.specs.Word.{none_word}
use Rattle.model.specs.Areas.{record_size}
use Rattle.std.specs.Prelude.{None, Option, Some}
use Rattle.pairs_rows.specs.Rows.{RoadTimes, Row, block}
use Rattle.pairs_rows.specs.Entries.{row_same}
use Rattle.pairs_fronts.specs.Fronts.{Begun, Front, Holds, Lower, Sooner, Stage}
use Rattle.pairs_fronts.specs.Holding.{holds_at}
use Rattle.pairs_storing.specs.Storing.{RowAppended, RowTimes}
use Rattle.pairs_contraction.specs.Contraction.{Ready, RowDone}

-- ---- the answers

kept_same : {a b : ℕ} → Some a ≡ Some b → a ≡ b
kept_same e = cc

kept-overflow : {a : ℕ} → Some a ≡ None → ⊥
kept-overflow e = let z : ◌≡◌ {A = ℕ} 0 1 = cc in omega arith

-- ---- the row of times at first

pub long : {n : ℕ} (k v : ℕ) → n ≤ k → n ≤ length (replicate k v)
long k v h = rw (length-replicate k v) h

-- a word for each block
pub blocks : {n : ℕ} (k v : ℕ) → n ≤ block * k → n ≤ block * length (replicate k v)
blocks k v h = rw (length-replicate k v) h

pub none_row : {n : ℕ} (k r : ℕ) → n ≤ k → Row r n (replicate k none_word) (λ h. none)
none_row k r l = record { wide = long k none_word l; at = λ h rh hn. get_or-replicate k h none_word 0 (omega arith) }

-- ---- from the roads to the records

-- the times of its roads are those over no rank
pub lower_start : {N : Network} {n r count : ℕ} {pairs times cursor ahead ends soon ups₀ downs₀ ups downs touched : List ℕ}
    → Ready (direct N) n r count pairs times cursor ahead ends soon ups₀ downs₀ → r < n → RoadTimes N r n ups downs touched
    → Lower (direct N) n r 0 pairs times cursor ahead ends soon ups downs touched
lower_start {count = count} y rn t = record {
  stage = record {
    inside = rn;
    wide = y.wide;
    area = y.area;
    narrow = y.narrow;
    count = count;
    holds = y.holds;
    passed = λ v h. absurd (not-suc-le-zero h);
    waiting = λ v h l. y.fronts v l;
    ups_are = t.ups_are;
    downs_are = t.downs_are;
    marked = t.marked;
  };
  sooner = y.sooner;
}

module _ {w : Weights} {n r count : ℕ} {pairs times cursor ahead ends soon ups₀ downs₀ : List ℕ}
    (y : Ready w n r count pairs times cursor ahead ends soon ups₀ downs₀) where
  module _ {cursor' ahead' ends' soon' ups downs touched : List ℕ}
      (z : Lower w n r r pairs times cursor' ahead' ends' soon' ups downs touched) where
    s : Stage w n r r pairs times cursor' ahead' ends' ups downs touched
    s = z.stage

    -- relaxed over all lower ranks, they are the times of the pairs
    pub row-times : RowTimes w n r count touched ups downs pairs times
    row-times = record {
      narrow = y.narrow;
      holds = y.holds;
      ups_are = row_same (up w r) s.ups_are (λ h rh hn. up_at w r h rh);
      downs_are = row_same (down w r) s.downs_are (λ h rh hn. down-at w r h rh);
      marked = s.marked;
    }

    -- the records do not fit
    pub row-overflow : {pairs' times' ups' downs' : List ℕ} {c : Option ℕ} → c ≡ None → RowAppended w n r ups' downs' pairs' times' c
        → RowDone w n r pairs' times' cursor' ahead' ends' soon' ups' downs' None
    row-overflow e a = record { kept = λ k q. absurd (kept-overflow (sym q)); overflow = λ q. rw (add-one r) at (a.appended.full e) }

    -- they are appended, k in all, and the front of r's own row stands at its first one
    module _ {pairs' times' ups' downs' : List ℕ} {k x : ℕ} {c : Option ℕ}
        (a : RowAppended w n r ups' downs' pairs' times' c) (ec : c ≡ Some k)
        (ex : x ≡ cond (ltb count k) (get_or pairs' (record_size * count + 1) 0) n) (ep : length pairs' ≡ length pairs) where
      -- the fronts, with that of r begun
      abbrev cursor₁ : List ℕ
      cursor₁ = set cursor' r count

      abbrev ahead₁ : List ℕ
      ahead₁ = set ahead' r x

      abbrev ends₁ : List ℕ
      ends₁ = set ends' r k

      abbrev bound₁ : ℕ
      bound₁ = min (get_or soon' (r / block) 0) x

      abbrev soon₁ : List ℕ
      soon₁ = set soon' (r / block) bound₁

      cursor_in : r < length cursor'
      cursor_in = omega (arith, s.inside, s.wide.cursors)

      ahead_in : r < length ahead'
      ahead_in = omega (arith, s.inside, s.wide.aheads)

      ends_in : r < length ends'
      ends_in = omega (arith, s.inside, s.wide.ends_too)

      holds' : Holds (rows w n (suc r)) k pairs' times'
      holds' = let h = a.appended.all k ec in rw (add-one r) at h

      k-is : k ≡ length (rows w n r) + length (row w r n)
      k-is = holds'.count-is ∙ length-append (rows w n r) (row w r n)

      none-low : row w r (suc r) ≡ []
      none-low = row_low w r (suc r) (omega arith)

      -- the high of its first record, or n
      first-high : cond (ltb count k) (get_or pairs' (record_size * count + 1) 0) n ≡ (get_or (row w r n) 0 (edge n)).high
      first-high = go (dec_lt count k)
        where
          go : Dec (count < k) → cond (ltb count k) (get_or pairs' (record_size * count + 1) 0) n ≡ (get_or (row w r n) 0 (edge n)).high
          go (yes q) =
              let c : count ≡ length (rows w n r) + 0 = omega (arith, y.holds.count-is) in
              rw (lt-ltb count k q) ((holds_at holds' count (edge n) q).high
              ∙ ap (λ (i : ℕ). (get_or (rows w n (suc r)) i (edge n)).high) c
              ∙ ap (λ (p : Pair). p.high) (rows_at w n r (suc r) 0 (edge n) (omega arith) (omega (arith, k-is))))
          go (no q) =
              let e : get_or (row w r n) 0 (edge n) ≡ edge n = get_or-eq_default (row w r n) (edge n) {n = 0} (omega (
                arith,
                k-is,
                y.holds.count-is,
              )) in
              rw (le-ltb count k (omega arith)) (sym (ap (λ (p : Pair). p.high) e))

      -- the front of r
      own : Front w n r (suc r) cursor₁ ahead₁ ends₁
      own = record {
        cursor-is = get_or-set_same cursor' r count 0 cursor_in ∙ y.holds.count-is ∙ rw none-low (omega arith);
        ahead-is = get_or-set_same ahead' r x 0 ahead_in ∙ ex ∙ first-high ∙ rw none-low refl;
        end_is = get_or-set_same ends' r k 0 ends_in ∙ k-is;
      }

      sooner' : Sooner n (suc r) ahead₁ soon₁
      sooner' = record {
        wide = omega (arith, z.sooner.wide, length-set soon' (r / block) bound₁);
        before = λ v l. at v l (ℕ_discrete v r) (ℕ_discrete (v / block) (r / block));
      }
        where
          soon_in : r / block < length soon'
          soon_in = omega (arith, s.inside, z.sooner.wide)

          same : (v : ℕ) → v / block ≡ r / block → get_or soon₁ (v / block) 0 ≡ bound₁
          same v q = ap (λ (j : ℕ). get_or soon₁ j 0) q ∙ get_or-set_same soon' (r / block) bound₁ 0 soon_in

          at : (v : ℕ) → v < suc r → Dec (v ≡ r) → Dec (v / block ≡ r / block) → get_or soon₁ (v / block) 0 ≤ get_or ahead₁ v 0
          at v l (yes e) q =
              let f : v / block ≡ r / block = ap (λ (j : ℕ). j / block) e in
              let g : get_or ahead₁ v 0 ≡ x = ap (λ (j : ℕ). get_or ahead₁ j 0) e ∙ get_or-set_same ahead' r x 0 ahead_in in
              omega (arith, same v f, g)
          at v l (no ne) (yes f) =
              let q : get_or soon' (r / block) 0 ≤ get_or ahead' v 0 = rw f at (z.sooner.before v (omega arith)) in
              omega (arith, same v f, get_or-set_other ahead' r v x 0 ne, q)
          at v l (no ne) (no f) =
              omega (
                arith,
                get_or-set_other soon' (r / block) (v / block) bound₁ 0 f,
                get_or-set_other ahead' r v x 0 ne,
                z.sooner.before v (omega arith),
              )

      ready : Ready w n (suc r) k pairs' times' cursor₁ ahead₁ ends₁ soon₁ ups' downs'
      ready = record {
        wide = record {
          cursors = omega (arith, s.wide.cursors, length-set cursor' r count);
          aheads = omega (arith, s.wide.aheads, length-set ahead' r x);
          ends_too = omega (arith, s.wide.ends_too, length-set ends' r k);
        };
        area = omega (arith, y.area);
        narrow = y.narrow;
        holds = holds';
        fronts = λ v l. at v l (ℕ_discrete v r);
        sooner = sooner';
        ups-none = later (a.ups-none k ec);
        downs-none = later (a.downs-none k ec);
      }
        where
          at : (v : ℕ) → v < suc r → Dec (v ≡ r) → Front w n v (suc r) cursor₁ ahead₁ ends₁
          at v l (yes e) = rw e own
          at v l (no ne) =
              let f = s.passed v (omega arith) in
              record {
                cursor-is = get_or-set_other cursor' r v count 0 ne ∙ f.cursor-is;
                ahead-is = get_or-set_other ahead' r v x 0 ne ∙ f.ahead-is;
                end_is = get_or-set_other ends' r v k 0 ne ∙ f.end_is;
              }

          later : {row : List ℕ} → Row r n row (λ h. none) → Row (suc r) n row (λ h. none)
          later q = record { wide = q.wide; at = λ h rh hn. q.at h (omega arith) hn }

      pub row_kept : {cursor'' ahead'' ends'' soon'' : List ℕ} → Begun r count x k cursor' ahead' ends' soon' cursor'' ahead'' ends'' soon''
          → RowDone w n r pairs' times' cursor'' ahead'' ends'' soon'' ups' downs' (Some k)
      row_kept b = rw (b.cursor-is, b.ahead-is, b.ends_are, b.soon-is) (record {
        kept = λ j q. subst (λ (m : ℕ). Ready w n (suc r) m pairs' times' cursor₁ ahead₁ ends₁ soon₁ ups' downs') (kept_same q) ready;
        overflow = λ q. absurd (kept-overflow q);
      })
