-- Labels while arcs are relaxed. Assumes nothing.
use Rattle.std.proofs.Common.{◌∙◌, ap, sym, inl, inr, ne_eqb, arith}
use Rattle.std.specs.Prelude.{◌≡◌, refl, ◌⊎◌, List, ◌+◌, ◌<◌, ◌≤◌, ℕ}
use Rattle.std.proofs.Math.Option.{none, some}
use Rattle.std.proofs.Math.Decide.{dec_lt, ℕ_discrete}
use Rattle.graph.specs.Total.{Total}
use Rattle.graph.proofs.Total.{none-some, some-some}
use Rattle.graph.specs.Least.{IsLeast}
use Rattle.graph.proofs.Least.{least-map, least-number}
use Rattle.graph.proofs.Walk.{offer_via-some}
use Rattle.graph.specs.Search.{Entry, Problem, offer_via, time_in}
use Rattle.graph.specs.History.{Reached}
use Rattle.model.specs.Word.{word}
use Rattle.model.proofs.Word.{word_some}
use Rattle.search_queue.specs.Order.{settled_key}
use Rattle.search_labels.specs.Labelling.{Improved, Labelling, Taken, behind, earlier, labels_in, later, lost, settled, tied}
use Rattle.search_labels.specs.Labelled.{Gives, Labelled, Labels, Offers, Searchable, Way, label_candidate}
use Rattle.search_labels.specs.Labelled.{label_hopeless, label_logged, label_unseen}

-- ---- an offered time w, and the potential x that the word e stands for: where their sum is a key x is a number, else none
module _ (w : ℕ) {e : ℕ} (x : Total) (e-is : e ≡ word x) where
  pub pot-some : w + e < settled_key → (p : ℕ) × (x ≡ some p) × (e ≡ p)
  pot-some l = word_some e x e-is (λ z. absurd (omega arith))

  pub pot-none : ((p : ℕ) → x ≡ some p → w + p < settled_key) → settled_key ≤ w + e → x ≡ none
  pot-none fits l = go x e-is fits
    where
      go : (y : Total) → e ≡ word y → ((p : ℕ) → y ≡ some p → w + p < settled_key) → y ≡ none
      go none z f = refl
      go (some p) z f = absurd (omega (arith, f p refl))

-- ---- the same label for another history, where v is logged alike and the same arcs give it the same times
module _ {G : Problem} {H L : List Entry} {c k d l v : ℕ}
    (ways : (i : ℕ) → Way G H v i → Way G L v i)
    (into : (i t : ℕ) → Gives G H c k v i t → Gives G L d l v i t)
    (back : (i t : ℕ) → Gives G L d l v i t → Gives G H c k v i t) where
  offers-into : (t : ℕ) → Offers G H c k v t → Offers G L d l v t
  offers-into t (inl q) = inl q
  offers-into t (inr w) = inr (w.0, into w.0 t w.1)

  offers-back : (t : ℕ) → Offers G L d l v t → Offers G H c k v t
  offers-back t (inl q) = inl q
  offers-back t (inr w) = inr (w.0, back w.0 t w.1)

  pub label_same : time_in H v ≡ time_in L v → {t q i : ℕ} → Labelled G H c k v t q i → Labelled G L d l v t q i
  label_same e (label_logged h s w) = label_logged (sym e ∙ h) s (ways _ w)
  label_same e (label_hopeless h p a b) = label_hopeless (sym e ∙ h) p a b
  label_same e (label_unseen h bare a b) = label_unseen (sym e ∙ h) (λ s o. bare s (offers-back s o)) a b
  label_same e (label_candidate {t} {i} h p least keyed first b) =
      label_candidate (sym e ∙ h) p (least-map offers-into offers-back least) keyed (origin first) b
    where
      origin : (G.start v ≡ some t) ⊎ IsLeast (λ j. Gives G H c k v j t) (some i) → (G.start v ≡ some t)
          ⊎ IsLeast (λ j. Gives G L d l v j t) (some i)
      origin (inl q) = inl q
      origin (inr f) = inr (least-map (λ j g. into j t g) (λ j g. back j t g) f)

-- ---- arcs that need no relaxing: those of c between a and b are closed
module _ {G : Problem} {H : List Entry} {c a b : ℕ} (le : a ≤ b)
    (closed : (i : ℕ) → a ≤ i → i < b → G.net.tail i ≡ c → G.net.cost i ≡ none) where
  gives_more : {v : ℕ} (i t : ℕ) → Gives G H c a v i t → Gives G H c b v i t
  gives_more i t g = record { below = g.below; relaxed = λ q. omega (arith, g.relaxed q); offer = g.offer }

  gives_less : {v : ℕ} (i t : ℕ) → Gives G H c b v i t → Gives G H c a v i t
  gives_less {v} i t g = record { below = g.below; relaxed = λ q. at q (dec_lt i a); offer = g.offer }
    where
      at : G.net.tail i ≡ c → Dec (i < a) → i < a
      at q (yes l) = l
      at q (no l) =
          absurd (none-some (closed i (omega arith) (g.relaxed q) q) (offer_via-some G.net H v i t g.offer).1.3)

  pub labels-skip : (l : Labelling) → Labels G H c a l → Labels G H c b l
  labels-skip l h v lv = label_same (λ i w. w) gives_more gives_less refl (h v lv)

-- ---- arc i of c is relaxed
module _ {G : Problem} {H : List Entry} {c i : ℕ} (li : i < G.net.arcs) where
  gives-old : {v : ℕ} (j s : ℕ) → Gives G H c i v j s → Gives G H c (i + 1) v j s
  gives-old j s g = record { below = g.below; relaxed = λ q. omega (arith, g.relaxed q); offer = g.offer }

  gives_other : {v : ℕ} → offer_via G.net H v i ≡ none → (j s : ℕ) → Gives G H c (i + 1) v j s → Gives G H c i v j s
  gives_other {v} e j s g = record { below = g.below; relaxed = λ q. at (g.relaxed q) (ℕ_discrete j i); offer = g.offer }
    where
      at : j < i + 1 → Dec (j ≡ i) → j < i
      at l (yes q) = absurd (none-some e (ap (offer_via G.net H v) (sym q) ∙ g.offer))
      at l (no q) = omega arith

  -- it gives v nothing
  pub label_passed : {v : ℕ} → offer_via G.net H v i ≡ none → {t q j : ℕ} → Labelled G H c i v t q j → Labelled G H c (i + 1) v t q j
  label_passed e h = label_same (λ i w. w) gives-old (gives_other e) refl h

  -- it gives no vertex a time
  pub labels-passed : ((v : ℕ) → offer_via G.net H v i ≡ none) → (l : Labelling) → Labels G H c i l → Labels G H c (i + 1) l
  labels-passed e l h v lv = label_passed (e v) (h v lv)

  -- it gives v the time w
  module _ {v w : ℕ} (gives : offer_via G.net H v i ≡ some w) (low : w < settled_key) where
    gives-new : Gives G H c (i + 1) v i w
    gives-new = record { below = li; relaxed = λ q. omega arith; offer = gives }

    split : (j s : ℕ) → Gives G H c (i + 1) v j s → Gives G H c i v j s ⊎ ((j ≡ i) × (s ≡ w))
    split j s g = at (ℕ_discrete j i)
      where
        at : Dec (j ≡ i) → Gives G H c i v j s ⊎ ((j ≡ i) × (s ≡ w))
        at (yes q) = inr (q, some-some (ap (offer_via G.net H v) (sym q) ∙ g.offer) gives)
        at (no q) = inl (record { below = g.below; relaxed = λ e. omega (arith, g.relaxed e); offer = g.offer })

    -- a time above w, or none, gives way to it
    over : {p : ℕ} → time_in H v ≡ none → G.pot v ≡ some p → w + p < settled_key → ((s : ℕ) → Offers G H c i v s → w < s)
        → Labelled G H c (i + 1) v w (w + p) i
    over {p} un pot keyed above =
        label_candidate un pot (least-number (inr (i, gives-new)) (λ s o. low_of s o)) keyed
        (inr (least-number gives-new (λ j g. first_of j (split j w g)))) refl
      where
        low_of : (s : ℕ) → Offers G H c (i + 1) v s → w ≤ s
        low_of s (inl q) = omega (arith, above s (inl q))
        low_of s (inr g) = at (split g.0 s g.1)
          where
            at : Gives G H c i v g.0 s ⊎ ((g.0 ≡ i) × (s ≡ w)) → w ≤ s
            at (inl o) = omega (arith, above s (inr (g.0, o)))
            at (inr e) = omega arith

        first_of : (j : ℕ) → Gives G H c i v j w ⊎ ((j ≡ i) × (w ≡ w)) → i ≤ j
        first_of j (inl o) = absurd (omega (arith, above w (inr (j, o))))
        first_of j (inr e) = omega (arith, e.0)

    -- a time of at most w stays; of the arcs that give it, the first
    under : {t q j p : ℕ} → time_in H v ≡ none → G.pot v ≡ some p → IsLeast (Offers G H c i v) (some t) → q < settled_key
        → q ≡ t + p → t ≤ w → (G.start v ≡ some t) ⊎ IsLeast (λ j. Gives G H c (i + 1) v j t) (some j) → Labelled G H c (i + 1) v t q j
    under {t} {q} {j} {p} un pot least keyed key le first =
        label_candidate un pot (record { attained = λ s e. old s (least.attained s e); bound = λ s o. low_of s o }) keyed first key
      where
        old : (s : ℕ) → Offers G H c i v s → Offers G H c (i + 1) v s
        old s (inl e) = inl e
        old s (inr g) = inr (g.0, gives-old g.0 s g.1)

        low_of : (s : ℕ) → Offers G H c (i + 1) v s → t ≤ s
        low_of s (inl e) = least.bound s (inl e)
        low_of s (inr g) = at (split g.0 s g.1)
          where
            at : Gives G H c i v g.0 s ⊎ ((g.0 ≡ i) × (s ≡ w)) → t ≤ s
            at (inl o) = least.bound s (inr (g.0, o))
            at (inr e) = omega arith

    -- the arc that stays, and the one that takes over at an equal time
    origin-stays : {t j : ℕ} → (t ≡ w → j ≤ i) → (G.start v ≡ some t) ⊎ IsLeast (λ j. Gives G H c i v j t) (some j)
        → (G.start v ≡ some t) ⊎ IsLeast (λ j. Gives G H c (i + 1) v j t) (some j)
    origin-stays le (inl q) = inl q
    origin-stays {t} {j} le (inr f) = inr (least-number (gives-old j t (f.attained j refl)) (λ x g. at x (split x t g)))
      where
        at : (x : ℕ) → Gives G H c i v x t ⊎ ((x ≡ i) × (t ≡ w)) → j ≤ x
        at x (inl o) = f.bound x o
        at x (inr e) = omega (arith, le e.1, e.0)

    origin-new : {t j : ℕ} → w ≡ t → i < j → (G.start v ≡ some t) ⊎ IsLeast (λ j. Gives G H c i v j t) (some j)
        → (G.start v ≡ some t) ⊎ IsLeast (λ j. Gives G H c (i + 1) v j t) (some i)
    origin-new e l (inl q) = inl q
    origin-new {t} {j} e l (inr f) =
        inr (least-number (record { below = li; relaxed = λ q. omega arith; offer = gives ∙ ap some e }) (λ x g. at x (split x t g)))
      where
        at : (x : ℕ) → Gives G H c i v x t ⊎ ((x ≡ i) × (t ≡ w)) → i ≤ x
        at x (inl o) = let b : j ≤ x = f.bound x o in omega arith
        at x (inr d) = omega (arith, d.0)

    -- the label after the arc, as code improves it
    module _ {e : ℕ} (e-is : e ≡ word (G.pot v)) (fits : (p : ℕ) → G.pot v ≡ some p → w + p < settled_key) where
      pub label_improved : {t q j t' q' j' : ℕ} → Improved w e i t q j t' q' j' → Labelled G H c i v t q j
          → Labelled G H c (i + 1) v t' q' j'
      label_improved (settled z) (label_logged h s y) = label_logged h s y
      label_improved (earlier b l keyed) (label_logged h s y) = absurd (b s)
      label_improved (lost b l z) (label_logged h s y) = absurd (b s)
      label_improved (later b l) (label_logged h s y) = absurd (b s)
      label_improved (tied b l m) (label_logged h s y) = absurd (b s)
      label_improved (behind b l m) (label_logged h s y) = absurd (b s)
      label_improved (settled z) (label_hopeless h p x y) = label_hopeless h p x y
      label_improved (earlier b l keyed) (label_hopeless h p x y) = absurd (omega (arith, e-is ∙ ap word p))
      label_improved (lost b l z) (label_hopeless h p x y) = label_hopeless h p x y
      label_improved (later b l) (label_hopeless h p x y) = label_hopeless h p x y
      label_improved (tied b l m) (label_hopeless h p x y) = label_hopeless h p x y
      label_improved (behind b l m) (label_hopeless h p x y) = label_hopeless h p x y
      label_improved (settled z) (label_unseen h bare x y) = absurd (omega arith)
      label_improved (earlier b l keyed) (label_unseen h bare x y) =
          let r = pot-some w (G.pot v) e-is keyed in
          rw r.2 (over h r.1 (fits r.0 r.1) (λ s o. absurd (bare s o)))
      label_improved (lost b l z) (label_unseen h bare x y) = label_hopeless h (pot-none w (G.pot v) e-is fits z) x y
      label_improved (later b l) (label_unseen h bare x y) = absurd (omega arith)
      label_improved (tied b l m) (label_unseen h bare x y) = absurd (omega arith)
      label_improved (behind b l m) (label_unseen h bare x y) = absurd (omega arith)
      label_improved (settled z) (label_candidate h p least keyed first y) = absurd (omega arith)
      label_improved (earlier b l keyed) (label_candidate {t} h p least k first y) =
          let r = pot-some w (G.pot v) e-is keyed in
          rw r.2 (over h r.1 (fits r.0 r.1) (λ s o. (let k : t ≤ s = least.bound s o in omega arith)))
      label_improved (lost b l z) (label_candidate h p least keyed first y) = absurd (none-some (pot-none w (G.pot v) e-is fits z) p)
      label_improved (later b l) (label_candidate h p least keyed first y) =
          under h p least keyed y (omega arith) (origin-stays (λ q. absurd (omega arith)) first)
      label_improved (tied b l m) (label_candidate h p least keyed first y) =
          under h p least keyed y (omega arith) (origin-new l m first)
      label_improved (behind b l m) (label_candidate h p least keyed first y) =
          under h p least keyed y (omega arith) (origin-stays (λ q. m) first)

-- ---- the same in a room

-- the label of v is the improved one, those of other vertices stay
pub labels-set : {G : Problem} {H : List Entry} {c k w e i n v : ℕ} {l l' : List ℕ} → G.size ≡ n → Taken w e i n v l l'
    → Labelled G H c k v ((labels_in n l').times v) ((labels_in n l').keys v) ((labels_in n l').vias v)
    → ((u : ℕ) → u < G.size → (u ≡ v → ⊥) → Labelled G H c k u ((labels_in n l).times u) ((labels_in n l).keys u) ((labels_in n l).vias u))
    → Labels G H c k (labels_in n l')
labels-set {G} {H} {c} {k} {n = n} {v} {l} {l'} size_is taken new old u lu = at (ℕ_discrete u v)
  where
    at : Dec (u ≡ v) → Labelled G H c k u ((labels_in n l').times u) ((labels_in n l').keys u) ((labels_in n l').vias u)
    at (yes q) = rw q new
    at (no q) =
        let same = taken.others u (omega (arith, size_is)) q in
        rw (same.label_word, same.key-word) (old u lu q)

-- an arc gives no time to a vertex that is not its head
via-other : (G : Problem) (H : List Entry) (v i : ℕ) → (G.net.head i ≡ v → ⊥) → offer_via G.net H v i ≡ none
unfolding offer_via
via-other G H v i ne = rw (ne_eqb (G.net.head i) v ne)

-- arc i gives its head v the time w, which is taken into the room
pub labels-taken : {G : Problem} (ok : Searchable G) {H : List Entry} (reached : Reached G H) {c i v w e n : ℕ} {l l' : List ℕ}
    → i < G.net.arcs → G.net.head i ≡ v → offer_via G.net H v i ≡ some w → e ≡ word (G.pot v) → v < G.size → G.size ≡ n
    → Taken w e i n v l l' → Labels G H c i (labels_in n l) → Labels G H c (i + 1) (labels_in n l')
labels-taken {G} ok {H} reached {c} {i} {v} {w} {l} li hd gives e-is lv size_is taken labels =
    labels-set size_is taken
    (label_improved li gives (omega (arith, low, ok.sums)) e-is fits taken.improves (labels v lv))
    (λ u lu ne. label_passed li (via-other G H u i (λ q. ne (sym q ∙ hd))) (labels u lu))
  where
    low : w ≤ ok.most
    low = ok.offers reached v i w li gives

    fits : (p : ℕ) → G.pot v ≡ some p → w + p < settled_key
    fits p q = let b = ok.pots v p lv q in omega (arith, low, ok.sums)
