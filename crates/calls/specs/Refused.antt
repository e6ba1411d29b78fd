-- A call that a question refuses, and one that none refuses, meet their contract. Assumes nothing.
use Rattle.std.proofs.Common.{◌∙◌, inl, inr, le-ltb, arith}
use Rattle.std.specs.Prelude.{◌≡◌, false, List, ◌+◌, ◌<◌, ℕ, eqb}
use Rattle.std.proofs.Math.Path.{ap, refl, subst, sym}
use Rattle.std.proofs.Math.Bool.{true}
use Rattle.std.proofs.Math.Option.{Option, none, some}
use Rattle.std.proofs.Math.Decide.{dec_lt}
use Rattle.graph.specs.Total.{Tested}
use Rattle.graph.proofs.Total.{and_true, decide, none-some, some-some, true_false}
use Rattle.model.specs.Types.{Header, Lengths, Refusal}
use Rattle.model.specs.Card.{and_then, ask, card_map, map_on}
use Rattle.model.specs.Areas.{Areas, lengths}
use Rattle.model.specs.State.{Lent, State, Step, fitting, usable}
use Rattle.model.specs.Set.{set_refusal}
use Rattle.model.specs.Aim.{aim_refusal}
use Rattle.model.specs.Estimate.{estimate_refusal}
use Rattle.model.specs.Go.{ask_class, go_refusal}
use Rattle.model.specs.Preview.{preview_refusal, work_size}
use Rattle.model.specs.Stops.{stops_refusal}
use Rattle.model.specs.Calls.{Aim, Asked, Call, Estimate, Go, Left, Preview, Set, Stops, Writes, calling, known_of, made, refusal_by, step}
use Rattle.model.specs.Promises.{CallContract, base_on, before, refusing}
use Rattle.model.specs.Good.{Good}
use Rattle.model.proofs.Good.{left-good, left-usable, zero-refused}
use Rattle.model.proofs.Chain.{step-lengths}
use Rattle.unit_questions.specs.Lending.{fits_by}
use Rattle.calls.specs.Roads.{good-base}

-- ---- in a state that a list of calls left

-- the card's base time is the map's, so 10 and 11 refuse the same
pub set_same : {card : List ℕ} {s : State} (i t : ℕ) → (i < s.header.m → Good card s)
    → set_refusal (known_of (map_on card).base.cost s.header) i t ≡ set_refusal (known_of (base_on card) s.header) i t
unfolding set_refusal
set_same {card} {s} i t good = go (dec_lt i s.header.m)
  where
    go : Dec (i < s.header.m)
        → set_refusal (known_of (map_on card).base.cost s.header) i t ≡ set_refusal (known_of (base_on card) s.header) i t
    go (yes b) = rw (good-base (good b) i b)
    go (no b) = rw (le-ltb i s.header.m (omega arith))

module _ {card : List ℕ} {s : State} (w : Left card s) where
  -- the card's base times are the map's, so the same questions refuse
  same_questions : (c : Call) → refusal_by (map_on card).base.cost s.header c ≡ refusal_by (base_on card) s.header c
  unfolding aim_refusal estimate_refusal go_refusal preview_refusal stops_refusal
  same_questions c = go c.asked c.lent
    where
      good : (i : ℕ) → i < s.header.m → Good card s
      good i b = left-good w (omega arith)

      -- what a preview asks once x has told what a set would
      previewed : (k j work : ℕ) → Option Refusal → Option Refusal
      previewed k j work x =
          ask (eqb work (work_size s.header.n)) Lengths
          (ask_class k (and_then x (estimate_refusal (known_of (base_on card) s.header) j)))

      go : (a : Asked) (l : Lent)
          → refusal_by (map_on card).base.cost s.header (calling a l) ≡ refusal_by (base_on card) s.header (calling a l)
      go (Set i t) l = set_same i t (good i)
      go (Aim j) l = refl
      go (Estimate j) l = refl
      go (Go k j) l = refl
      go (Preview k i t j work) l = ap (previewed k j work) (set_same i t (good i))
      go (Stops k stops) l = refl

-- a call that none of its own questions refuses is made where there is a junction or a road
pub passed-there : (base : ℕ → Option ℕ) (h : Header) (c : Call) → refusal_by base h c ≡ none → 0 < h.n + h.m
passed-there base h c e = go (dec_lt 0 (h.n + h.m))
  where
    go : Dec (0 < h.n + h.m) → 0 < h.n + h.m
    go (yes l) = l
    go (no l) = let z = zero-refused base h c (omega arith) in absurd (none-some e z.1)

-- where no question says no, a step is what was made
steps-made : (card : List ℕ) (h : Header) (a : Areas) (c : Call) → fits_by h card (lengths a) ≡ true
    → refusal_by (base_on card) h c ≡ none → Left card (before h a)
    → made (card_map card) (before h a) c.asked c.lent ≡ step card (before h a) c
unfolding step
steps-made card h a c f x w = let (_, fits) = and_true (usable card h) (fitting card (before h a)) f in rw (fits, same_questions w c, x)

-- ---- the two ways through a call

module _ {card : List ℕ} {h : Header} {a : Areas} {c : Call} where
  -- 9, of a header out of range and of a table that names other bodies too
  refused_9 : fits_by h card (lengths a) ≡ false → CallContract card (before h a) c (refusing Lengths (before h a) c)
  refused_9 e = record {
    lengths = λ f. refl;
    exact = λ w. go w (decide (fitting card (before h a)));
    anywhere = λ f. absurd (true_false f e);
  }
    where
      go : Left card (before h a) → Tested (fitting card (before h a)) → refusing Lengths (before h a) c ≡ step card (before h a) c
      go w (inr f) = sym (step-lengths card (before h a) c f)
      go w (inl f) = absurd (true_false (rw (left-usable w f, f)) e)

  -- the first question that says no
  pub refused-by : {q : Refusal} → some q ≡ ask (fits_by h card (lengths a)) Lengths (refusal_by (base_on card) h c)
      → CallContract card (before h a) c (refusing q (before h a) c)
  unfolding step
  refused-by {q} e = go (decide (fits_by h card (lengths a)))
    where
      go : Tested (fits_by h card (lengths a)) → CallContract card (before h a) c (refusing q (before h a) c)
      go (inr f) =
          let i : q ≡ Lengths = some-some refl (rw f at e) in
          subst (λ (x : Refusal). CallContract card (before h a) c (refusing x (before h a) c)) (sym i) (refused_9 f)
      go (inl f) =
          let x : refusal_by (base_on card) h c ≡ some q = sym (rw f at e) in
          let (_, fits) = and_true (usable card h) (fitting card (before h a)) f in
          record {
            lengths = λ g. absurd (true_false f g);
            exact = λ w. stepped w fits x;
            anywhere = λ g. record {
              refuses = λ p d. ap (λ (z : Refusal). refusing z (before h a) c) (some-some x d);
              writes = λ d. absurd (none-some d x);
            };
          }
        where
          stepped : Left card (before h a) → fitting card (before h a) ≡ true → refusal_by (base_on card) h c ≡ some q
              → refusing q (before h a) c ≡ step card (before h a) c
          stepped w g x = rw (g, same_questions w c, x)

  -- no question says no
  module _ (f : fits_by h card (lengths a) ≡ true) (x : refusal_by (base_on card) h c ≡ none) where
    made_where : {r : Step} → (Left card (before h a) → r ≡ step card (before h a) c) → Writes (before h a) c.asked c.lent r
        → CallContract card (before h a) c r
    made_where e w = record {
      lengths = λ g. absurd (true_false f g);
      exact = e;
      anywhere = λ g. record { refuses = λ q d. absurd (none-some x d); writes = λ d. w };
    }

    -- what a list of calls left, as the definition makes it
    pub made-left : {r : Step} → (Left card (before h a) → r ≡ made (card_map card) (before h a) c.asked c.lent)
        → Writes (before h a) c.asked c.lent r → CallContract card (before h a) c r
    made-left e w = made_where (λ l. e l ∙ steps-made card h a c f x l) w

    pub made_by : {r : Step} → (Good card (before h a) → r ≡ made (card_map card) (before h a) c.asked c.lent)
        → Writes (before h a) c.asked c.lent r → CallContract card (before h a) c r
    made_by e w = made-left (λ l. e (left-good l (passed-there (base_on card) h c x))) w

    -- what no list of calls leaves
    pub never-left : {r : Step} → (Good card (before h a) → ⊥) → Writes (before h a) c.asked c.lent r
        → CallContract card (before h a) c r
    never-left never w = made_where (λ l. absurd (never (left-good l (passed-there (base_on card) h c x)))) w
