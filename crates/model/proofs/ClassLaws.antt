-- Laws of the times as a class meets them (document 02, A6): they are live times like any others. Assumes nothing.
use Rattle.std.proofs.Common.{arith}
use Rattle.std.specs.Prelude.{◌≡◌, refl, Bool, cond, false, true, List, ◌<◌, ◌≤◌, ℕ, get_or, length}
use Rattle.std.proofs.Math.Path.{fun_ext}
use Rattle.std.proofs.Math.Option.{none}
use Rattle.std.proofs.Math.ListN.{get_or-eq_default}
use Rattle.std.proofs.Math.Decide.{dec_lt}
use Rattle.graph.specs.Total.{Total}
use Rattle.graph.specs.Least.{every}
use Rattle.graph.proofs.Least.{every_true}
use Rattle.model.specs.Word.{closed_word, of_word}
use Rattle.model.proofs.Word.{of_word-none}
use Rattle.model.specs.Limits.{classes}
use Rattle.model.specs.Classes.{access_of, admits, class_live, class_times, every_class}
use Rattle.model.specs.Set.{settable}
use Rattle.model.specs.Go.{live_of}
use Rattle.model.proofs.Laws.{listed_at, listed-length}

-- "Without it all classes pass."
pub all_pass : (c : ℕ) → c < classes → admits every_class c ≡ true
unfolding admits every
all_pass c h = every_true classes (admits every_class) refl c h

-- a barred road's word stands for no time
of_cond : (b : Bool) (x : ℕ) → of_word (cond b x closed_word) ≡ cond b (of_word x) none
of_cond true x = refl
of_cond false x = of_word-none

settable_cond : (b : Bool) (base : Total) (x : ℕ) → settable base (of_word x) ≡ true → settable base (of_word (cond b x closed_word)) ≡ true
settable_cond true base x h = h
settable_cond false base x h = rw of_word-none

module _ (access : ℕ → ℕ) (c : ℕ) (live : List ℕ) where
  pub times-length : length (class_times access c live) ≡ length live
  times-length = listed-length (length live) _

  pub times-at : (i : ℕ) → i < length live
      → get_or (class_times access c live) i 0 ≡ cond (admits (access i) c) (get_or live i 0) closed_word
  times-at i l = listed_at (length live) (λ i. cond (admits (access i) c) (get_or live i 0) closed_word) i l

  -- a time that set allows stays one
  pub times-settable : (base : Total) (i : ℕ) → i < length live → settable base (live_of live i) ≡ true
      → settable base (live_of (class_times access c live) i) ≡ true
  times-settable base i l h = rw (times-at i l) (settable_cond (admits (access i) c) base (get_or live i 0) h)

-- the area's words as the class meets them are the times in force as it meets them; past the last road there is no byte either
pub class-lives : (bytes live : List ℕ) (c : ℕ) → c < classes → length bytes ≤ length live
    → live_of (class_times (access_of bytes) c live) ≡ class_live (access_of bytes) c (live_of live)
class-lives bytes live c lc short = fun_ext (λ i. at i (dec_lt i (length live)))
  where
    at : (i : ℕ) → Dec (i < length live)
        → live_of (class_times (access_of bytes) c live) i ≡ class_live (access_of bytes) c (live_of live) i
    at i (yes l) = rw (times-at (access_of bytes) c live i l) (of_cond (admits (access_of bytes i) c) (get_or live i 0))
    at i (no l) =
        let times = class_times (access_of bytes) c live in
        let k = times-length (access_of bytes) c live in
        let p : get_or times i 0 ≡ 0 = get_or-eq_default times 0 (omega (arith, k)) in
        let q : get_or live i 0 ≡ 0 = get_or-eq_default live 0 (omega arith) in
        let b : access_of bytes i ≡ every_class = get_or-eq_default bytes every_class (omega arith) in
        rw (p, q, b, all_pass c lc)
