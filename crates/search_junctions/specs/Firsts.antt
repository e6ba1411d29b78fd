-- The first candidate: the start, whose estimate was asked, is offered time 0. Assumes nothing.
use Rattle.std.proofs.Common.{◌∙◌, ap, sym, inr, arith}
use Rattle.std.specs.Prelude.{◌≡◌, refl, List, [], ◌<◌, ℕ}
use Rattle.model.specs.Word.{word}
use Rattle.model.specs.Estimate.{Kept}
use Rattle.model.specs.Good.{AimFacts}
use Rattle.network.specs.declared.Sizes.{Sizes}
use Rattle.network.specs.Bodies.{map_in}
use Rattle.pairs_hierarchy.specs.Estimates.{Estimated, aim-estimated}
use Rattle.search_queue.specs.Order.{no_key}
use Rattle.search_labels.specs.Labelling.{Ordered, Taken, labels_in, no_time}
use Rattle.search_labels.specs.Labelled.{Labels}
use Rattle.search_labels.specs.Begun.{labels-started}
use Rattle.search_junctions.specs.Asking.{Asked, Filling, PairsIn, asked-start}
use Rattle.search_junctions.specs.State.{Ready, given_of, go_in}
use Rattle.search_junctions.specs.Facts.{codes}
use Rattle.search_junctions.specs.Fills.{asked-first, filling-more, filling-none}

-- before the first candidate: lengths, room, and no junction has a time or a key
pub record Blank (z : Sizes) (order ranks pairs times down estimates l : List ℕ) : Type 0 where
  pub over : PairsIn z order ranks pairs times down estimates
  pub room : Ordered z.n l
  pub timeless : (v : ℕ) → v < z.n → (labels_in z.n l).times v ≡ no_time
  pub keyless : (v : ℕ) → v < z.n → (labels_in z.n l).keys v ≡ no_key

-- Before anything is logged: the start's estimate is asked, and the start is the first candidate if it has one.
pub record Begun (roads order live down : List ℕ) (s z n : ℕ) (e e' l : List ℕ) : Type 0 where
  pub labels : (c k : ℕ) → Labels (go_in roads order live s z) [] c k (labels_in n l)
  pub filling : Filling (map_in roads order) z (Asked (go_in roads order live s z) s z []) down e e'

-- e are the estimates before, e' those after
pub record Begins (n : Sizes) (order ranks pairs times down : List ℕ) (s : ℕ) (e e' l : List ℕ) : Type 0 where
  -- on any contents: what is filled stays, and there is room
  pub kept : Kept e e'
  pub room : Ordered n.n l
  -- in a state that is ready
  pub exact : (roads live : List ℕ) (z : ℕ) → Ready (given_of n roads order ranks pairs times live down) s z
      → AimFacts (map_in roads order) z down e → Begun roads order live down s z n.n e e' l

pub begins-first : {n : Sizes} {order ranks pairs times down : List ℕ} {s v i : ℕ} {e e' l₀ l : List ℕ} → s < n.n
    → Blank n order ranks pairs times down e l₀ → Estimated order ranks pairs times n.pairs down e e' s v → Taken 0 v i n.n s l₀ l
    → Begins n order ranks pairs times down s e e' l
begins-first {n} {s = s} ls blank est taken = record {
  kept = est.kept;
  room = taken.room;
  exact = λ roads live z r a.
      let k = codes r in
      let x = est.exact roads r.prepared z a in
      record {
        labels = λ c j.
            labels-started k.ok k.start-here k.start_elsewhere
            (λ u lu. blank.timeless u (omega (arith, lu, k.reads.size_is)))
            (λ u lu. blank.keyless u (omega (arith, lu, k.reads.size_is)))
            (x.0 ∙ ap word (sym (k.pots s))) (omega (arith, ls, k.reads.size_is)) k.reads.size_is taken;
        filling =
            filling-more s (rw r.n-is ls) (λ u y. absurd y) (asked-start refl) (λ u y. inr (asked-first u y))
            (aim-estimated est roads r.prepared z a) x.1 (filling-none a (blank.over.estimates_are ∙ sym r.n-is));
      };
}
