-- The words of the calls, told by their length and bytes. Assumes nothing.
use Rattle.std.proofs.Common.{◌≡◌, ap, refl, false, List, ◌∷◌, [], get_or, length, ℕ, None, Option, Some, inl, inr}
use Rattle.std.specs.Str.{bytes_eq}
use Rattle.std.proofs.lemmas.Slice.Eq.{bytes_eq-Decides, text_from_reads}
use Rattle.graph.proofs.Total.{decide}
use Rattle.graph.specs.Total.{Tested}
use Rattle.unit_answers.specs.declared.Call.{Call}
use Rattle.unit_answers.specs.declared.Call.TheVariants.{Aim, Estimate, Go}
use Rattle.line_console.specs.Lines.{call_of, called, junction_in, one, program_class, two}
use Rattle.line_fields.specs.Fields.{after_space, before_space, number_of}
use Rattle.network.specs.declared.Junction.{Junction}
use Rattle.line_texts.specs.Ascii.{ascii}

not_equal : (w u : List ℕ) → (w ≡ u → ⊥) → bytes_eq w u ≡ false
not_equal w u f = go (decide (bytes_eq w u))
  where
    go : Tested (bytes_eq w u) → bytes_eq w u ≡ false
    go (inl t) = absurd (f ((bytes_eq-Decides w u).0 t))
    go (inr t) = t

-- a word's call of a junction
numbered : (call : Junction → Call) (j : Junction) (m : Option ℕ) → junction_in m ≡ Some j
    → Some (call j) ≡ one (λ v. Some (call (record { 0 = v }))) m
numbered call j (Some v) e = cc
numbered call j None e = cc

-- w is not a word of these three letters
other3 : (w : List ℕ) (a b c : ℕ) → (length w ≡ 3 → get_or w 0 0 ≡ a → get_or w 1 0 ≡ b → get_or w 2 0 ≡ c → ⊥)
    → bytes_eq w (a ∷ b ∷ c ∷ []) ≡ false
other3 w a b c f = not_equal w (a ∷ b ∷ c ∷ []) (λ q. f (ap length q) (at 0 q) (at 1 q) (at 2 q))
  where
    at : {l : List ℕ} (i : ℕ) → w ≡ l → get_or w i 0 ≡ get_or l i 0
    at i q = ap (λ (x : List ℕ). get_or x i 0) q

module _ (w r : List ℕ) where
  pub says_set : length w ≡ 3 → get_or w 0 0 ≡ 115 → get_or w 1 0 ≡ 101 → get_or w 2 0 ≡ 116
      → two (number_of (before_space r)) (number_of (after_space r)) ≡ called w r
  unfolding called
  says_set n a b c = rw (text_from_reads w (ascii "set") n (a, (b, (c, tt))))

  pub says_aim : (j : Junction) → length w ≡ 3 → get_or w 0 0 ≡ 97 → get_or w 1 0 ≡ 105 → get_or w 2 0 ≡ 109
      → junction_in (number_of r) ≡ Some j → Some (Aim j) ≡ called w r
  unfolding called call_of
  says_aim j n a b c e = rw (text_from_reads w (ascii "aim") n (a, (b, (c, tt)))) (numbered (λ k. Aim k) j (number_of r) e)

  pub says_estimate : (j : Junction) → length w ≡ 3 → get_or w 0 0 ≡ 101 → get_or w 1 0 ≡ 115 → get_or w 2 0 ≡ 116
      → junction_in (number_of r) ≡ Some j → Some (Estimate j) ≡ called w r
  unfolding called call_of
  says_estimate j n a b c e = rw (text_from_reads w (ascii "est") n (a, (b, (c, tt)))) (numbered (λ k. Estimate k) j (number_of r) e)

  pub says_go : (j : Junction) → length w ≡ 2 → get_or w 0 0 ≡ 103 → get_or w 1 0 ≡ 111
      → junction_in (number_of r) ≡ Some j → Some (Go program_class j) ≡ called w r
  unfolding called call_of
  says_go j n a b e = rw (text_from_reads w (ascii "go") n (a, (b, tt))) (numbered (λ k. Go program_class k) j (number_of r) e)

  pub no_number : (length w ≡ 3 → get_or w 0 0 ≡ 115 → get_or w 1 0 ≡ 101 → get_or w 2 0 ≡ 116 → ⊥)
      → junction_in (number_of r) ≡ None → None ≡ called w r
  unfolding called
  no_number s e = rw (other3 w 115 101 116 s) (go (number_of r) e)
    where
      go : (m : Option ℕ) → junction_in m ≡ None → None ≡ one (call_of w) m
      go (Some v) e = cc
      go None e = refl

  pub says_none : (length w ≡ 3 → get_or w 0 0 ≡ 115 → get_or w 1 0 ≡ 101 → get_or w 2 0 ≡ 116 → ⊥)
      → (length w ≡ 3 → get_or w 0 0 ≡ 97 → get_or w 1 0 ≡ 105 → get_or w 2 0 ≡ 109 → ⊥)
      → (length w ≡ 3 → get_or w 0 0 ≡ 101 → get_or w 1 0 ≡ 115 → get_or w 2 0 ≡ 116 → ⊥)
      → (length w ≡ 2 → get_or w 0 0 ≡ 103 → get_or w 1 0 ≡ 111 → ⊥) → None ≡ called w r
  unfolding called call_of
  says_none s a e g = rw (other3 w 115 101 116 s) (go (number_of r))
    where
      go : (m : Option ℕ) → None ≡ one (call_of w) m
      go (Some v) = rw (
        other3 w 97 105 109 a,
        other3 w 101 115 116 e,
        not_equal w (ascii "go") (λ q. g (ap length q) (ap (λ (x : List ℕ). get_or x 0 0) q) (ap (λ (x : List ℕ). get_or x 1 0) q)),
      )
      go None = refl

-- what a word and what follows it say, by the ways through the code
pub ruleset says = (says_set, says_aim, says_estimate, says_go, says_none, no_number)
