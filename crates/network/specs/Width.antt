-- The width of a time: totals below the marks fit, others count as none. With the laws that loops over minima use. Assumes nothing.
use Rattle.std.specs.Prelude.{◌≡◌, refl, cond, ◌<◌, ◌≤◌, min, ℕ, ltb}
use Rattle.std.proofs.Math.Option.{none, some}
use Rattle.std.proofs.Common.{le-ltb, lt-ltb, arith}
use Rattle.std.proofs.Math.Decide.{dec_lt}
use Rattle.graph.specs.Total.{Total, ◌⊓◌}
use Rattle.model.specs.Word.{none_word, of_word, unasked, word}
use Rattle.model.proofs.Word.{of_word-none, of_word-some}

-- a total that a time cannot hold is none
abbrev pub fit : Total → Total
fit none = none
fit (some t) = cond (ltb t unasked) (some t) none

pub fit_in : (t : ℕ) → t < unasked → fit (some t) ≡ some t
fit_in t h = rw (lt-ltb t unasked h)

pub fit-out : (t : ℕ) → unasked ≤ t → fit (some t) ≡ none
fit-out t h = rw (le-ltb t unasked h)

-- a number fits, or counts as none
pub data Fits (t : ℕ) : Type 0 where
  fits_in : t < unasked → fit (some t) ≡ some t → Fits t
  fits_out : unasked ≤ t → fit (some t) ≡ none → Fits t

pub fits : (t : ℕ) → Fits t
fits t = go (dec_lt t unasked)
  where
    go : Dec (t < unasked) → Fits t
    go (yes h) = fits_in h (fit_in t h)
    go (no h) = let le : unasked ≤ t = omega arith in fits_out le (fit-out t le)

-- a total that is none, or a number below the marks, is held as it is
pub fit_is : (x : Total) → ((t : ℕ) → x ≡ some t → t < unasked) → fit x ≡ x
fit_is none h = refl
fit_is (some t) h = fit_in t (h t refl)

pub fit_word : (x : Total) → word (fit x) ≤ none_word
fit_word none = omega arith
fit_word (some t) = go (fits t)
  where
    go : Fits t → word (fit (some t)) ≤ none_word
    go (fits_in h e) = rw e (omega arith)
    go (fits_out h e) = rw e (omega arith)

-- the word of what fits stands for it
pub fit-of_word : (x : Total) → of_word (word (fit x)) ≡ fit x
fit-of_word none = of_word-none
fit-of_word (some t) = go (fits t)
  where
    go : Fits t → of_word (word (fit (some t))) ≡ fit (some t)
    go (fits_in h e) = rw e (of_word-some t (omega arith))
    go (fits_out h e) = rw e of_word-none

-- the minimum of words is that of what fits
pub fit-min : (x y : Total) → min (word (fit x)) (word (fit y)) ≡ word (fit (x ⊓ y))
fit-min none y = let h = fit_word y in let e : min none_word (word (fit y)) ≡ word (fit y) = omega (arith, h) in e
fit-min (some a) none = let h = fit_word (some a) in
    let e : min (word (fit (some a))) none_word ≡ word (fit (some a)) = omega (arith, h) in e
fit-min (some a) (some b) = go (fits a) (fits b) (fits (min a b))
  where
    go : Fits a → Fits b → Fits (min a b) → min (word (fit (some a))) (word (fit (some b))) ≡ word (fit (some (min a b)))
    go (fits_in h e) (fits_in k f) (fits_in l g) = rw (e, f, g)
    go (fits_in h e) (fits_in k f) (fits_out l g) = absurd (omega arith)
    go (fits_in h e) (fits_out k f) (fits_in l g) = rw (e, f, g) (omega arith)
    go (fits_in h e) (fits_out k f) (fits_out l g) = absurd (omega arith)
    go (fits_out h e) (fits_in k f) (fits_in l g) = rw (e, f, g) (omega arith)
    go (fits_out h e) (fits_in k f) (fits_out l g) = absurd (omega arith)
    go (fits_out h e) (fits_out k f) (fits_in l g) = absurd (omega arith)
    go (fits_out h e) (fits_out k f) (fits_out l g) = rw (e, f, g)
