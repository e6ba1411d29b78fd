-- The labels before anything is logged: only starts are candidates, those that have a potential. Assumes nothing.
use Rattle.std.specs.Prelude.{◌≡◌, refl, List, [], ◌+◌, ◌<◌, ◌≤◌, ℕ, eqb}
use Rattle.std.proofs.Common.{inl, inr, arith}
use Rattle.std.proofs.Math.Option.{none, some}
use Rattle.graph.proofs.Total.{cond_same, none-some, some-some}
use Rattle.graph.proofs.Least.{least-number}
use Rattle.graph.specs.Search.{Problem, offer_via, time_in}
use Rattle.model.specs.Word.{word}
use Rattle.search_queue.specs.Order.{no_key, settled_key}
use Rattle.search_labels.specs.Labelling.{Improved, Taken, behind, earlier, labels_in, later, lost, no_time, settled, tied}
use Rattle.search_labels.specs.Labelled.{Gives, Labelled, Labels, Offers, Searchable, label_candidate, label_hopeless, label_unseen}
use Rattle.search_labels.specs.Relax.{labels-set, pot-none, pot-some}

no-arc : {G : Problem} {c k v i t : ℕ} → Gives G [] c k v i t → ⊥
unfolding offer_via time_in
no-arc {G} {v} {i} g = none-some (cond_same (eqb (G.net.head i) v) none) g.offer

-- a vertex that is no start
pub label_bare : {G : Problem} {c k v t q i : ℕ} → G.start v ≡ none → t ≡ no_time → q ≡ no_key → Labelled G [] c k v t q i
unfolding time_in
label_bare {G} {c} {k} {v} s a b = label_unseen refl never a b
  where
    never : (x : ℕ) → Offers G [] c k v x → ⊥
    never x (inl e) = none-some s e
    never x (inr g) = no-arc g.1

-- a start of time w, which is taken as if arc i offered it
pub label_started : {G : Problem} {c k v w e i j t' q' j' : ℕ} → G.start v ≡ some w → e ≡ word (G.pot v) → w < settled_key
    → ((p : ℕ) → G.pot v ≡ some p → w + p < settled_key) → Improved w e i no_time no_key j t' q' j' → Labelled G [] c k v t' q' j'
unfolding time_in
label_started s e-is low fits (settled z) = absurd (omega arith)
label_started {G} {c} {k} {v} {w} {e} s e-is low fits (earlier b l keyed) =
    let r = pot-some w (G.pot v) e-is keyed in
    rw r.2 (label_candidate refl r.1 (least-number (inl s) least) (fits r.0 r.1) (inl s) refl)
  where
    least : (x : ℕ) → Offers G [] c k v x → w ≤ x
    least x (inl q) = omega (arith, some-some s q)
    least x (inr g) = absurd (no-arc g.1)
label_started {G} {v} {w} s e-is low fits (lost b l z) = label_hopeless refl (pot-none w (G.pot v) e-is fits z) refl refl
label_started s e-is low fits (later b l) = absurd (omega arith)
label_started s e-is low fits (tied b l m) = absurd (omega arith)
label_started s e-is low fits (behind b l m) = absurd (omega arith)

-- one start s, taken into a room that is blank
pub labels-started : {G : Problem} (ok : Searchable G) {c k s w e i n : ℕ} {l₀ l : List ℕ} → G.start s ≡ some w
    → ((v : ℕ) → (v ≡ s → ⊥) → G.start v ≡ none) → ((v : ℕ) → v < G.size → (labels_in n l₀).times v ≡ no_time)
    → ((v : ℕ) → v < G.size → (labels_in n l₀).keys v ≡ no_key) → e ≡ word (G.pot s) → s < G.size → G.size ≡ n
    → Taken w e i n s l₀ l → Labels G [] c k (labels_in n l)
labels-started {G} ok {c} {k} {s} {w} {l₀} here elsewhere blank keyless e-is ls size_is taken =
    labels-set size_is taken
    (label_started here e-is (omega (arith, low, ok.sums)) fits (rw (blank s ls, keyless s ls) at taken.improves))
    (λ u lu ne. label_bare (elsewhere u ne) (blank u lu) (keyless u lu))
  where
    low : w ≤ ok.most
    low = ok.starts s w ls here

    fits : (p : ℕ) → G.pot s ≡ some p → w + p < settled_key
    fits p q = let b = ok.pots s p ls q in omega (arith, low, ok.sums)
