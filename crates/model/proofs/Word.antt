-- A total as a 64-bit word: the three marks, and none as the largest word, so that the order and the minimum of words are those of totals.
-- Assumes nothing.
use Rattle.std.specs.Prelude.{◌≡◌, refl, ◌+◌, ◌<◌, ◌≤◌, min, ℕ}
use Rattle.std.proofs.Math.Option.{none, some}
use Rattle.std.proofs.Common.{ne_eqb, arith}
use Rattle.std.proofs.Math.Decide.{dec_lt}
use Rattle.graph.specs.Total.{Total, ◌⊓◌, ◌⊕◌}
use Rattle.graph.proofs.Total.{⊓-none, ⊕-none}
use Rattle.model.specs.Word.{none_word, word, of_word, Reads, nothing, number}

-- ---- laws

pub of_word-none : of_word none_word ≡ none
unfolding of_word
of_word-none = refl

pub of_word-some : (x : ℕ) → x < none_word → of_word x ≡ some x
unfolding of_word
of_word-some x h = rw (ne_eqb x none_word (λ e. omega arith))

pub of_word-word : (x : Total) → ((t : ℕ) → x ≡ some t → t < none_word) → of_word (word x) ≡ x
of_word-word none h = of_word-none
of_word-word (some t) h = of_word-some t (h t refl)

pub reads : (x : ℕ) → x ≤ none_word → Reads x
reads x h = go (dec_lt x none_word)
  where
    go : Dec (x < none_word) → Reads x
    go (yes k) = number k
    go (no k) = nothing (omega arith)

-- a word that stands for a total that fits is a number, or that of none
pub word_some : (e : ℕ) (x : Total) → e ≡ word x → (e ≡ none_word → ⊥) → (p : ℕ) × (x ≡ some p) × (e ≡ p)
word_some e none z ne = absurd (ne z)
word_some e (some p) z ne = (p, refl, z)

pub word_none : (e : ℕ) (x : Total) → e ≡ word x → ((p : ℕ) → x ≡ some p → p < none_word) → e ≡ none_word → x ≡ none
word_none e none z low ne = refl
word_none e (some p) z low ne = absurd (omega (arith, low p refl))

pub word-of_word : (x : ℕ) → x ≤ none_word → word (of_word x) ≡ x
word-of_word x h = go (reads x h)
  where
    go : Reads x → word (of_word x) ≡ x
    go (nothing e) = rw (e, of_word-none)
    go (number k) = rw (of_word-some x k)

pub of_word-min : (x y : ℕ) → x ≤ none_word → y ≤ none_word → of_word (min x y) ≡ of_word x ⊓ of_word y
of_word-min x y hx hy = go (reads x hx) (reads y hy)
  where
    go : Reads x → Reads y → of_word (min x y) ≡ of_word x ⊓ of_word y
    go (nothing e) r =
        let m : min x y ≡ y = omega arith in
        rw (m, e, of_word-none)
    go (number k) (nothing e) =
        let m : min x y ≡ x = omega arith in
        rw (m, e, of_word-none, of_word-some x k)
    go (number k) (number l) = rw (of_word-some x k, of_word-some y l, of_word-some (min x y) (omega arith))

pub of_word-sum : (x y : ℕ) → x + y < none_word → of_word (x + y) ≡ of_word x ⊕ of_word y
of_word-sum x y h = rw (of_word-some x (omega arith), of_word-some y (omega arith), of_word-some (x + y) h)

-- a minimum's next step, `of_word acc ⊓ (of_word x ⊕ of_word y)`, as code takes it
pub relax_left : (acc x y : ℕ) → x ≡ none_word → of_word acc ⊓ (of_word x ⊕ of_word y) ≡ of_word acc
relax_left acc x y e = rw (e, of_word-none) (⊓-none (of_word acc))

pub relax_right : (acc x y : ℕ) → y ≡ none_word → of_word acc ⊓ (of_word x ⊕ of_word y) ≡ of_word acc
relax_right acc x y e = rw (e, of_word-none, ⊕-none) (⊓-none (of_word acc))

pub relax_sum : (acc x y : ℕ) → acc ≤ none_word → x + y < none_word → of_word acc ⊓ (of_word x ⊕ of_word y) ≡ of_word (min acc (x + y))
relax_sum acc x y ha h = rw (← of_word-sum x y h, of_word-min acc (x + y) ha (omega arith))
