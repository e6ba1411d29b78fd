-- What the label of a vertex (a node, in the code) says in a search over any problem: of its place in the log, or of the arcs that were
-- relaxed. Definitions only.
use Rattle.std.specs.Prelude.{◌≡◌, ◌⊎◌, false, true, List, [], ◌++◌, ◌∷◌, ◌+◌, ◌<◌, ◌≤◌, ℕ}
use Rattle.std.proofs.Math.Option.{none, some}
use Rattle.graph.specs.Least.{IsLeast}
use Rattle.graph.specs.Search.{Entry, Problem, back, is, offer_via, time_in}
use Rattle.graph.specs.Walk.{WellFormed}
use Rattle.graph.specs.History.{Reached}
use Rattle.search_queue.specs.Order.{no_key, settled_key}
use Rattle.search_labels.specs.Labelling.{Labelling, no_time}

-- What a program asks of a problem whose times and keys it keeps in words: no time that is offered, and no potential, is above some `most`,
-- twice of which is below the marks of keys, and so of times.
pub record Searchable (G : Problem) : Type 0 where
  pub well_formed : WellFormed G
  pub most : ℕ
  pub sums : most + most < settled_key
  pub starts : (v t : ℕ) → v < G.size → G.start v ≡ some t → t ≤ most
  pub pots : (v p : ℕ) → v < G.size → G.pot v ≡ some p → p ≤ most
  pub offers : {H : List Entry} → Reached G H → (v i t : ℕ) → i < G.net.arcs → offer_via G.net H v i ≡ some t → t ≤ most

-- Arc i is relaxed, and gives v the time t. Relaxed are the arcs of logged vertices, of those of c the ones below k.
pub record Gives (G : Problem) (H : List Entry) (c k v i t : ℕ) : Type 0 where
  pub below : i < G.net.arcs
  pub relaxed : G.net.tail i ≡ c → i < k
  pub offer : offer_via G.net H v i ≡ some t

-- the start or a relaxed arc gives v the time t
abbrev pub Offers : Problem → List Entry → (c k v t : ℕ) → Type 0
Offers G H c k v t = (G.start v ≡ some t) ⊎ ((i : ℕ) × Gives G H c k v i t)

-- the way back from a logged vertex v: its time is its start time, or its last arc is i
pub data Way (G : Problem) (H : List Entry) (v i : ℕ) : Type 0 where
  way-begins : (t : ℕ) → time_in H v ≡ some t → is (G.start v) t ≡ true → back G H v ≡ [] → Way G H v i
  way-through : (t u : ℕ) → time_in H v ≡ some t → is (G.start v) t ≡ false → i < G.net.arcs → time_in H (G.net.tail i) ≡ some u
      → back G H v ≡ back G H (G.net.tail i) ++ (i ∷ []) → Way G H v i

-- v's word of time, key and arc, after the history H. The arc is free where the way begins at v, and where v has no time.
pub data Labelled (G : Problem) (H : List Entry) (c k v : ℕ) : (time key via : ℕ) → Type 0 where
  -- logged: its time, and the last arc of its way
  label_logged : {t q i : ℕ} → time_in H v ≡ some t → q ≡ settled_key → Way G H v i → Labelled G H c k v t q i
  -- never a candidate: it has no potential
  label_hopeless : {t q i : ℕ} → time_in H v ≡ none → G.pot v ≡ none → t ≡ no_time → q ≡ no_key → Labelled G H c k v t q i
  -- not yet one: nothing offers it a time
  label_unseen : {t q i : ℕ} → time_in H v ≡ none → ((s : ℕ) → Offers G H c k v s → ⊥) → t ≡ no_time → q ≡ no_key → Labelled G H c k v t q i
  -- a candidate: the least time offered, and the smallest-numbered arc that gives it
  label_candidate :
      {t q i p : ℕ} → time_in H v ≡ none → G.pot v ≡ some p → IsLeast (Offers G H c k v) (some t) → q < settled_key
      → (G.start v ≡ some t) ⊎ IsLeast (λ j. Gives G H c k v j t) (some i) → q ≡ t + p → Labelled G H c k v t q i

-- every vertex's label
abbrev pub Labels : Problem → List Entry → (c k : ℕ) → Labelling → Type 0
Labels G H c k l = (v : ℕ) → v < G.size → Labelled G H c k v (l.times v) (l.keys v) (l.vias v)
