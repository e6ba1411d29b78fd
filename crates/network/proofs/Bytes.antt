-- Words put into bytes, one after the other. Assumes nothing.
use mathlib.Core.Path.{◌∙◌, ◌≡◌, ap, ap₂, refl, sym}
use mathlib.Core.List.{List, [], ◌++◌, ◌∷◌, append-nil}
use Prim.Native.Nat.{◌*◌, ◌+◌, ◌<◌, ◌≤◌, zero-le, ℕ}
use lib.ListN.{drop, get_or, length, take}
use lib.Seq.{drop-append-add, drop-drop, drop-length, length-take-le, take_at, take-length, take-suc}
use native.Mathlib.Numerals.{add-one}
use native.Mathlib.Omega.{arith}
use Rattle.model.specs.Bytes.{bytes_of}
use Rattle.model.proofs.CardBack.{bytes-length}
use Rattle.network.specs.Bytes.{bytes-append}

-- the first i words are in place, and the rest is as it was
pub record Put (s₀ words : List ℕ) (i : ℕ) (s : List ℕ) : Type 0 where
  pub in_words : i ≤ length words
  pub kept : length s ≡ length s₀
  pub bytes : s ≡ bytes_of (take i words) ++ drop (4 * i) s₀

module _ (s₀ words : List ℕ) where
  front : (i : ℕ) → i ≤ length words → length (bytes_of (take i words)) ≡ 4 * i
  front i h = bytes-length (take i words) ∙ ap (λ (k : ℕ). 4 * k) (length-take-le i words h)

  next-bytes : (i : ℕ) (s z : List ℕ) → i < length words → s ≡ bytes_of (take i words) ++ drop (4 * i) s₀
      → z ≡ take (4 * i) s ++ bytes_of (get_or words i 0 ∷ []) ++ drop (4 * i + 4) s
      → z ≡ bytes_of (take (i + 1) words) ++ drop (4 * (i + 1)) s₀
  next-bytes i s z h p q =
      let f = front i (omega arith) in
      let t : take (4 * i) s ≡ bytes_of (take i words) =
      ap (take (4 * i)) p ∙ take_at (bytes_of (take i words)) (drop (4 * i) s₀) (4 * i) f in
      let d : drop (4 * i + 4) s ≡ drop (4 * i + 4) s₀ =
      ap (drop (4 * i + 4)) p
      ∙ ap (λ (k : ℕ). drop (k + 4) (bytes_of (take i words) ++ drop (4 * i) s₀)) (sym f)
      ∙ drop-append-add (bytes_of (take i words)) (drop (4 * i) s₀) 4 ∙ drop-drop 4 (4 * i) s₀ in
      let b : bytes_of (take i words) ++ bytes_of (get_or words i 0 ∷ []) ≡ bytes_of (take (i + 1) words) =
      sym (bytes-append (take i words) (get_or words i 0 ∷ []))
      ∙ ap bytes_of (sym (take-suc words i 0 h) ∙ ap (λ (k : ℕ). take k words) (sym (add-one i))) in
      let e : 4 * (i + 1) ≡ 4 * i + 4 = omega arith in
      q ∙ ap₂ (λ (x : List ℕ) (y : List ℕ). x ++ bytes_of (get_or words i 0 ∷ []) ++ y) t d
      ∙ ap₂ (λ (x : List ℕ) (k : ℕ). x ++ drop k s₀) b (sym e)

module _ {s₀ words : List ℕ} where
  pub put-start : Put s₀ words 0 s₀
  put-start = record { in_words = zero-le; kept = refl; bytes = refl }

  pub put-turn : {i : ℕ} {s z : List ℕ} → i < length words → Put s₀ words i s → length z ≡ length s
      → z ≡ take (4 * i) s ++ bytes_of (get_or words i 0 ∷ []) ++ drop (4 * i + 4) s → Put s₀ words (i + 1) z
  put-turn {i} {s} {z} h p k q = record { in_words = omega arith; kept = k ∙ p.kept; bytes = next-bytes s₀ words i s z h p.bytes q }

  pub put-end : {i : ℕ} {s : List ℕ} → length s₀ ≡ 4 * length words → length words ≤ i → Put s₀ words i s → s ≡ bytes_of words
  put-end {i} e h p =
      let all : i ≡ length words = omega (arith, p.in_words) in
      let l : 4 * i ≡ length s₀ = omega arith in
      let first = ap (λ (k : ℕ). take k words) all ∙ take-length words in
      let rest = ap (λ (k : ℕ). drop k s₀) l ∙ drop-length s₀ in
      p.bytes ∙ ap₂ (λ (x : List ℕ) (y : List ℕ). bytes_of x ++ y) first rest ∙ append-nil (bytes_of words)
