-- The better of two words: what the test says of their candidates, and which it is by the tests of the code. Assumes nothing.
use Rattle.std.proofs.Common.{◌%◌, ◌/◌, ◌<◌, ◌∙◌, ◌≡◌, ◌≤◌, Bool, arith, eq-eqb, false, le-leb, le-ltb, leb-false, leb-true}
use Rattle.std.proofs.Common.{lt-ltb, min, ne_eqb, refl, sym, true, ℕ}
use Rattle.std.proofs.Math.Decide.{dec_lt, ℕ_discrete}
use Rattle.std.specs.Prelude.{leb}
use Rattle.std.proofs.lemmas.Bool.{lt-leb}
use Rattle.graph.specs.Search.{below_or}
use Rattle.graph.proofs.Choice.{below_or_false, below_or_true}
use Rattle.search_queue.specs.Order.{Before, Order, Waiting, key_unit, most_nodes, settled_key}
use Rattle.search_queue.specs.Tree.{Tells, before, better, placed_of}
use Rattle.search_queue.specs.Laws.{placed-key, placed-number}

-- ---- what the test says
module _ (tie : ℕ → ℕ) (x y : ℕ) where
  pub before-keys : before tie x y ≡ true → x / key_unit ≤ y / key_unit
  unfolding before
  before-keys h = (below_or_true (x / key_unit) (y / key_unit) _ h).0

  pub after-keys : before tie x y ≡ false → y / key_unit ≤ x / key_unit
  unfolding before
  after-keys h = (below_or_false (x / key_unit) (y / key_unit) _ h).0

-- of the words of two candidates
module _ (o : Order) {a b x y : ℕ} (la : a < most_nodes) (lb : b < most_nodes) (ea : x ≡ placed_of (o.key a) (o.tie a) a)
    (eb : y ≡ placed_of (o.key b) (o.tie b) b) (waits : Waiting o a) where
  test-is : before o.tie x y ≡ below_or (o.key a) (o.key b) (below_or (o.tie a) (o.tie b) (leb a b))
  unfolding before
  test-is =
      rw (
        placed-key (o.key a) (o.tie a) la ea,
        placed-key (o.key b) (o.tie b) lb eb,
        placed-number (o.key a) (o.tie a) la ea,
        placed-number (o.key b) (o.tie b) lb eb,
        lt-leb settled_key (o.key a) waits,
      )

  pub before_true : before o.tie x y ≡ true → Before o a b
  before_true h =
      let k = below_or_true (o.key a) (o.key b) _ (sym test-is ∙ h) in
      record {
        keys-le = k.0;
        ties-le = λ q. (below_or_true (o.tie a) (o.tie b) _ (k.1 q)).0;
        numbers = λ q r. leb-true a b ((below_or_true (o.tie a) (o.tie b) _ (k.1 q)).1 r);
      }

  pub before_false : before o.tie x y ≡ false → Before o b a
  before_false h =
      let k = below_or_false (o.key a) (o.key b) _ (sym test-is ∙ h) in
      record {
        keys-le = k.0;
        ties-le = λ q. (below_or_false (o.tie a) (o.tie b) _ (k.1 (sym q))).0;
        numbers = λ q r. (
            let l : b < a = leb-false a b ((below_or_false (o.tie a) (o.tie b) _ (k.1 (sym q))).1 (sym r)) in
            omega arith);
      }

-- ---- the better of two
module _ (tie : ℕ → ℕ) (x y : ℕ) where
  pub better-first : before tie x y ≡ true → better tie x y ≡ x
  unfolding better
  better-first t = rw t refl

  pub better-second : before tie x y ≡ false → better tie x y ≡ y
  unfolding better
  better-second t = rw t refl

  -- it asks the ties of the two nodes and of no other
  pub better-same : (tie' : ℕ → ℕ) → tie (x % most_nodes) ≡ tie' (x % most_nodes) → tie (y % most_nodes) ≡ tie' (y % most_nodes)
      → better tie x y ≡ better tie' x y
  unfolding better before
  better-same tie' p q = rw (p, q)

-- ---- the test by what the code compares

-- keys a and b, what is asked of equal ones
module _ (a b : ℕ) (t : Bool) where
  or_below : a < b → below_or a b t ≡ true
  unfolding below_or
  or_below l = rw (lt-ltb a b l)

  or_above : b < a → below_or a b t ≡ false
  unfolding below_or
  or_above l = rw (le-ltb a b (omega arith), ne_eqb a b (λ e. absurd (omega arith)))

  or_equal : a ≡ b → below_or a b t ≡ t
  unfolding below_or
  or_equal e = rw (le-ltb a b (omega arith), eq-eqb a b e)

-- what holds of each where it is the smaller holds of the smaller
smaller-is : {x y z m : ℕ} → m ≡ min x y → (x ≤ y → x ≡ z) → (y < x → y ≡ z) → m ≡ z
smaller-is {x} {y} {z} {m} m-is f g = go (dec_lt y x)
  where
    go : Dec (y < x) → m ≡ z
    go (yes l) = let e : m ≡ y = omega arith in e ∙ g l
    go (no l) = let e : m ≡ x = omega arith in e ∙ f (omega arith)

module _ (tie : ℕ → ℕ) (x y : ℕ) where
  -- of one key: that of no candidate, and that of two
  rests_is : x / key_unit ≡ y / key_unit → settled_key ≤ x / key_unit → before tie x y ≡ leb (x / most_nodes) (y / most_nodes)
  unfolding before
  rests_is same rests = or_equal (x / key_unit) (y / key_unit) _ same ∙ rw (le-leb settled_key (x / key_unit) rests)

  tied_is : x / key_unit ≡ y / key_unit → x / key_unit < settled_key
      → before tie x y ≡ below_or (tie (x % most_nodes)) (tie (y % most_nodes)) (leb (x % most_nodes) (y % most_nodes))
  unfolding before
  tied_is same waits = or_equal (x / key_unit) (y / key_unit) _ same ∙ rw (lt-leb settled_key (x / key_unit) waits)

  -- key or part differ
  module _ {n : ℕ} (tells-x : Tells n tie x) (tells-y : Tells n tie y) (ne : x / most_nodes ≡ y / most_nodes → ⊥) where
    better_lower : x ≤ y → x ≡ better tie x y
    unfolding before
    better_lower l = sym (better-first tie x y (go (ℕ_discrete (x / key_unit) (y / key_unit)) (dec_lt (x / key_unit) settled_key)))
      where
        go : Dec (x / key_unit ≡ y / key_unit) → Dec (x / key_unit < settled_key) → before tie x y ≡ true
        go (no other) _ = or_below (x / key_unit) (y / key_unit) _ (omega arith)
        go (yes same) (no rests) = rests_is same (omega arith) ∙ le-leb (x / most_nodes) (y / most_nodes) (omega arith)
        go (yes same) (yes waits) =
            let (_, part-x) = tells-x waits in
            let (_, part-y) = tells-y (omega arith) in
            tied_is same waits ∙ or_below (tie (x % most_nodes)) (tie (y % most_nodes)) _ (omega arith)

    better-higher : y < x → y ≡ better tie x y
    unfolding before
    better-higher l = sym (better-second tie x y (go (ℕ_discrete (x / key_unit) (y / key_unit)) (dec_lt (x / key_unit) settled_key)))
      where
        go : Dec (x / key_unit ≡ y / key_unit) → Dec (x / key_unit < settled_key) → before tie x y ≡ false
        go (no other) _ = or_above (x / key_unit) (y / key_unit) _ (omega arith)
        go (yes same) (no rests) = rests_is same (omega arith) ∙ lt-leb (x / most_nodes) (y / most_nodes) (omega arith)
        go (yes same) (yes waits) =
            let (_, part-x) = tells-x waits in
            let (_, part-y) = tells-y (omega arith) in
            tied_is same waits ∙ or_above (tie (x % most_nodes)) (tie (y % most_nodes)) _ (omega arith)

    pub better_apart : {m : ℕ} → m ≡ min x y → m ≡ better tie x y
    better_apart m-is = smaller-is m-is better_lower better-higher

  -- they are one
  module _ (same : x / most_nodes ≡ y / most_nodes) where
    same_key : x / key_unit ≡ y / key_unit
    same_key = omega arith

    -- that of no candidate
    pub better_rests : settled_key ≤ x / key_unit → x ≡ better tie x y
    better_rests rests =
        sym (better-first tie x y (rests_is same_key rests ∙ le-leb (x / most_nodes) (y / most_nodes) (omega arith)))

    module _ (waits : x / key_unit < settled_key) where
      tied : before tie x y ≡ below_or (tie (x % most_nodes)) (tie (y % most_nodes)) (leb (x % most_nodes) (y % most_nodes))
      tied = tied_is same_key waits

      pub better-earlier : tie (x % most_nodes) < tie (y % most_nodes) → x ≡ better tie x y
      better-earlier l = sym (better-first tie x y (tied ∙ or_below (tie (x % most_nodes)) (tie (y % most_nodes)) _ l))

      pub better-later : tie (y % most_nodes) < tie (x % most_nodes) → y ≡ better tie x y
      better-later l = sym (better-second tie x y (tied ∙ or_above (tie (x % most_nodes)) (tie (y % most_nodes)) _ l))

      module _ (alike : tie (x % most_nodes) ≡ tie (y % most_nodes)) where
        numbers : before tie x y ≡ leb (x % most_nodes) (y % most_nodes)
        numbers = tied ∙ or_equal (tie (x % most_nodes)) (tie (y % most_nodes)) _ alike

        pub better-number : {m : ℕ} → m ≡ min x y → m ≡ better tie x y
        better-number m-is =
            smaller-is m-is
            (λ l. sym (better-first tie x y (numbers ∙ le-leb (x % most_nodes) (y % most_nodes) (omega arith))))
            (λ l. sym (better-second tie x y (numbers ∙ lt-leb (x % most_nodes) (y % most_nodes) (omega arith))))
