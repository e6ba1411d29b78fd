-- A label in its two words, and a label that an offer takes over. Assumes nothing.
use Rattle.std.proofs.Common.{◌*◌, ◌+◌, ◌/◌, ◌<◌, ◌∙◌, ◌≡◌, ◌≤◌, List, ap, arith, get_or, get_or-set_other, get_or-set_same, length}
use Rattle.std.proofs.Common.{length-set, min, refl, set, sym, ℕ}
use Rattle.std.proofs.Math.Decide.{dec_lt, ℕ_discrete}
use Rattle.graph.specs.Total.{◌⊕◌}
use Rattle.graph.proofs.Total.{⊕-none}
use Rattle.model.specs.Word.{Reads, none_word, nothing, number, of_word, word}
use Rattle.model.proofs.Word.{of_word-none, of_word-some, reads}
use Rattle.network.specs.Width.{fit, fit_in, fits, fits_in, fits_out}
use Rattle.network.specs.Width as width
use Rattle.search_queue.specs.Order.{by_key, key_in, key_unit, most_nodes, settled_key, tie_in}
use Rattle.search_queue.specs.Tree.{Changed, Put, word_of}
use Rattle.search_queue.specs.Laws.{tournament_kept, word-key, word_number}
use Rattle.search_labels.specs.Labelling.{Fits, Improved, Ordered, SameLabel, Taken, behind, earlier, labels_in, later, lost}
use Rattle.search_labels.specs.Labelling.{settled, tied}

-- ---- the key x, as code adds up the offer w and the estimate e: their sum, or both are above all keys
module _ (w e : ℕ) {x : ℕ} (x-is : x ≡ word (fit (of_word w ⊕ of_word e))) where
  -- it is a candidate's: neither is none, and their sum is below the marks of times
  key-is : w ≤ none_word → e ≤ none_word → x < settled_key → x ≡ w + e
  key-is w-low e-low l = go (reads w w-low) (reads e e-low) (fits (w + e))
    where
      go : Reads w → Reads e → width.Fits (w + e) → x ≡ w + e
      go (nothing z) r f = absurd (omega (arith, rw (z, of_word-none) at x-is))
      go (number a) (nothing z) f = absurd (omega (arith, rw (z, of_word-none, ⊕-none) at x-is))
      go (number a) (number b) (fits_in h q) = rw (of_word-some w a, of_word-some e b, q) at x-is
      go (number a) (number b) (fits_out h q) = absurd (omega (arith, rw (of_word-some w a, of_word-some e b, q) at x-is))

  -- it is no candidate's
  key-high : settled_key ≤ x → settled_key ≤ w + e
  key-high l = go (dec_lt (w + e) settled_key)
    where
      go : Dec (w + e < settled_key) → settled_key ≤ w + e
      go (yes h) =
          let q : x ≡ w + e = x-is ∙ rw (of_word-some w (omega arith), of_word-some e (omega arith), fit_in (w + e) (omega arith)) in
          omega arith
      go (no h) = omega arith

  -- the offer is a smaller one than t
  module _ {i t q j : ℕ} (waits : q ≡ settled_key → ⊥) (smaller : w < t) where
    pub takes_over : w ≤ none_word → e ≤ none_word → x < settled_key → Improved w e i t q j w x i
    takes_over w-low e-low l =
        let sum = key-is w-low e-low l in
        rw sum (earlier waits smaller (omega arith))

    pub stays-lost : settled_key ≤ x → Improved w e i t q j t q j
    stays-lost l = lost waits smaller (key-high l)

-- the offer is the time that the label has: the smaller number stays
pub smaller_stays : {w e i t q j y : ℕ} → (q ≡ settled_key → ⊥) → w ≡ t → y ≡ min j i → Improved w e i t q j t q y
smaller_stays {w} {e} {i} {t} {q} {j} {y} waits same y-is = go (dec_lt i j)
  where
    go : Dec (i < j) → Improved w e i t q j t q y
    go (yes l) = let at : y ≡ i = omega arith in rw at (tied waits same l)
    go (no l) = let at : y ≡ j = omega arith in rw at (behind waits same (omega arith))

-- where the time stays, so does the key
key-stays : {w e i a b c t q j : ℕ} → Improved w e i a b c t q j → t ≡ a → q ≡ b
key-stays (settled z) same = refl
key-stays (earlier y l k) same = absurd (omega arith)
key-stays (lost y l z) same = refl
key-stays (later y l) same = refl
key-stays (tied y l m) same = refl
key-stays (behind y l m) same = refl

-- ---- the word of a label is written
module _ {n v : ℕ} (lv : v < n) (room : List ℕ) (r : Ordered n room) (x : ℕ) where
  abbrev relabelled : List ℕ
  relabelled = set room (2 * n + v) x

  label_own : get_or relabelled (2 * n + v) 0 ≡ x
  label_own = get_or-set_same room (2 * n + v) x 0 (omega (arith, r.words))

  -- no other word is altered
  label_apart : (q : ℕ) → (q ≡ 2 * n + v → ⊥) → get_or relabelled q 0 ≡ get_or room q 0
  label_apart q ne = get_or-set_other room (2 * n + v) q x 0 ne

  -- so no key changes, and no place of the tournament
  keys_stay : (u : ℕ) → u < n → key_in n relabelled u ≡ key_in n room u
  keys_stay u l = ap (λ (w : ℕ). w / key_unit) (label_apart (n + u) (λ e. absurd (omega arith)))

  places_stay : (p : ℕ) → p < 2 * n → get_or relabelled p 0 ≡ get_or room p 0
  places_stay p l = label_apart p (λ e. absurd (omega arith))

  -- nor a time but that of v
  times_stay : (u : ℕ) → u < n → (u ≡ v → ⊥) → tie_in n relabelled u ≡ tie_in n room u
  times_stay u l ne = ap (λ (w : ℕ). w / most_nodes) (label_apart (2 * n + u) (λ e. ne (omega arith)))

  -- the tournament is right but at v, whose key may be put now
  pub changed : Changed (by_key n relabelled) n v relabelled
  changed = record {
    old = by_key n room;
    same = record { keys-same = λ u l ne. keys_stay u l; ties-same = times_stay };
    right =
        tournament_kept (record { keys_alike = λ u l. refl; ties_alike = λ u l. refl }) room relabelled places_stay r.right;
  }

  -- it is right where the time of v stays
  pub room-relabelled : x / most_nodes ≡ tie_in n room v → Ordered n relabelled
  room-relabelled same = record {
    n-high = r.n-high;
    words = simp length-set r.words;
    right =
        tournament_kept (record { keys_alike = keys_stay; ties_alike = λ u l. at u l (ℕ_discrete u v) }) room relabelled places_stay
        r.right;
  }
    where
      at : (u : ℕ) → u < n → Dec (u ≡ v) → tie_in n relabelled u ≡ tie_in n room u
      at u l (yes e) = rw e (ap (λ (w : ℕ). w / most_nodes) label_own ∙ same)
      at u l (no ne) = times_stay u l ne

-- ---- the label of v takes an offer, and is (t, q, j) then; x is the word of its time and its arc
module _ {n v t q j x : ℕ} (lv : v < n) (room : List ℕ) (r : Ordered n room) (fits : Fits t q j) (x-is : x ≡ word_of t j) where
  same_after : (u : ℕ) → u < n → (u ≡ v → ⊥) → SameLabel n u room (set room (2 * n + v) x)
  same_after u lu ne = record {
    key-word = label_apart lv room r x (n + u) (λ d. absurd (omega arith));
    label_word = label_apart lv room r x (2 * n + u) (λ d. ne (omega arith));
  }

  -- it was read as (a, b, c), and is read again from its two words
  read_again : {w e i a b c : ℕ} (room' : List ℕ) → get_or room' (2 * n + v) 0 ≡ x → (labels_in n room').keys v ≡ q
      → a ≡ (labels_in n room).times v → b ≡ (labels_in n room).keys v → c ≡ (labels_in n room).vias v → Improved w e i a b c t q j
      → Improved w e i ((labels_in n room).times v) ((labels_in n room).keys v) ((labels_in n room).vias v)
      ((labels_in n room').times v) ((labels_in n room').keys v) ((labels_in n room').vias v)
  read_again room' Label-is key-is ea eb ec h =
      let z = Label-is ∙ x-is in
      rw (key-is, word-key t fits.via-low z, word_number t fits.via-low z) (rw (ea, eb, ec) at h)

  -- its time stays
  pub taken-kept : {w e i a b c : ℕ} → t ≡ a → a ≡ (labels_in n room).times v → b ≡ (labels_in n room).keys v
      → c ≡ (labels_in n room).vias v → Improved w e i a b c t q j → Taken w e i n v room (set room (2 * n + v) x)
  taken-kept same ea eb ec h = record {
    improves =
        read_again (set room (2 * n + v) x) (label_own lv room r x) (keys_stay lv room r x v lv ∙ sym (key-stays h same ∙ eb)) ea eb ec h;
    others = same_after;
    room = room-relabelled lv room r x (word-key t fits.via-low x-is ∙ same ∙ ea);
  }

  -- it changes
  pub taken-put : {w e i a b c : ℕ} {room' : List ℕ} → 3 * n ≤ length room' → Put n v q (set room (2 * n + v) x) room'
      → a ≡ (labels_in n room).times v → b ≡ (labels_in n room).keys v → c ≡ (labels_in n room).vias v → Improved w e i a b c t q j
      → Taken w e i n v room room'
  taken-put {room' = room'} sized put ea eb ec h = record {
    improves =
        read_again room' (put.others (2 * n + v) (omega arith) (λ d. absurd (omega arith)) ∙ label_own lv room r x)
        put.own ea eb ec h;
    others = λ u lu ne. record {
      key-word = put.others (n + u) (omega arith) (λ d. ne (omega arith)) ∙ (same_after u lu ne).key-word;
      label_word = put.others (2 * n + u) (omega arith) (λ d. absurd (omega arith)) ∙ (same_after u lu ne).label_word;
    };
    room = record {
      n-high = r.n-high;
      words = sized;
      right = put.right;
    };
  }
