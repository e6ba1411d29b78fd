-- Laws behind A8 (`ReportProof`): changes as signed numbers, the live times around a set, and the calls of a report that no question
-- refuses. Assumes nothing.
use Rattle.std.proofs.Common.{◌∙◌, ap, sym, inl, length-set, get_or-set_other, get_or-set_same, arith}
use Rattle.std.specs.Prelude.{◌≡◌, refl, ◌&&◌, cond, false, List, ◌+◌, ◌-◌, ◌<◌, ◌≤◌, ℕ, eqb, ltb, ◌+ℤ◌, ◌-ℤ◌, neg_ℤ, pos, ℤ, get_or}
use Rattle.std.specs.Prelude.{length, set}
use Rattle.std.proofs.Math.Bool.{true}
use Rattle.std.proofs.Math.Option.{none, some}
use borrow.Author.Tests.{eq-eqb, le-leb, lt-ltb}
use Rattle.std.proofs.Math.Dec.{leb}
use Rattle.std.proofs.Math.IntN.{+ℤ_assoc, +ℤ_idl, +ℤ_invl, +ℤ-neg_ℤ_cancel, pos-+ℤ-pos}
use Rattle.std.proofs.Math.Decide.{ℕ_discrete}
use Rattle.graph.specs.Total.{Total, ◌≼◌}
use Rattle.graph.proofs.Total.{cond_some, cond_yes, none-some}
use Rattle.graph.specs.Delay.{Delays, Grown, Late, Raised}
use Rattle.model.specs.Word.{closed_word, of_word}
use Rattle.model.specs.Types.{Header, Lengths, LentLengths, NoClass, NoJunction, NoRoad, NoTarget, NotAllowed}
use Rattle.model.specs.Bytes.{listed}
use Rattle.model.specs.Limits.{classes}
use Rattle.model.specs.Classes.{admits, class_live, class_times}
use Rattle.model.specs.Card.{and_then}
use Rattle.model.specs.Machine.{is_at}
use Rattle.model.specs.Set.{set_refusal, settable}
use Rattle.model.specs.Estimate.{estimate_refusal}
use Rattle.model.specs.Go.{go_refusal, live_of}
use Rattle.model.specs.Preview.{change_of, preview_refusal, work_size}
use Rattle.model.specs.Calls.{known_of}
use Rattle.model.specs.Report.{Closes, Larger, Opens, Persists, Smaller}
use Rattle.model.proofs.Laws.{ask-pass}
use Rattle.model.proofs.Ends.{listed_same}

-- ---- changes as signed numbers

-- b - a where b is a + e
grown-by : (a b e : ℕ) → b ≡ a + e → pos b -ℤ pos a ≡ pos e
grown-by a b e h =
    let k : e + a ≡ b = omega (arith, h) in
    ap (λ (x : ℤ). x -ℤ pos a) (sym (pos-+ℤ-pos e a ∙ ap pos k)) ∙ +ℤ-neg_ℤ_cancel (pos e) (pos a)

-- b - a where a is b + e
shrunk_by : (a b e : ℕ) → a ≡ b + e → pos b -ℤ pos a ≡ neg_ℤ (pos e)
shrunk_by a b e h =
    let k : e + b ≡ a = omega (arith, h) in
    let back : neg_ℤ (pos e) +ℤ pos a ≡ pos b =
    ap (λ (x : ℤ). neg_ℤ (pos e) +ℤ x) (sym (pos-+ℤ-pos e b ∙ ap pos k))
    ∙ sym (+ℤ_assoc (neg_ℤ (pos e)) (pos e) (pos b)) ∙ ap (λ (x : ℤ). x +ℤ pos b) (+ℤ_invl (pos e)) ∙ +ℤ_idl (pos b) in
    ap (λ (x : ℤ). x -ℤ pos a) (sym back) ∙ +ℤ-neg_ℤ_cancel (neg_ℤ (pos e)) (pos a)

-- two totals, of which one is the other, later by at most d, and their change
pub grows : (d : ℕ) (X Y : Total) → Delays d X Y → Persists (Larger d) X Y (change_of X Y)
grows d none none h = refl
grows d none (some b) h = absurd h
grows d (some a) none h = absurd h
grows d (some a) (some b) h =
    (b - a, omega (arith, h.0, h.1), omega (arith, h.0), ap some (grown-by a b (b - a) (omega (arith, h.0))))

pub shrinks : (d : ℕ) (X Y : Total) → Delays d Y X → Persists (Smaller d) X Y (change_of X Y)
shrinks d none none h = refl
shrinks d none (some b) h = absurd h
shrinks d (some a) none h = absurd h
shrinks d (some a) (some b) h =
    (a - b, omega (arith, h.0, h.1), omega (arith, h.0), ap some (shrunk_by a b (a - b) (omega (arith, h.0))))

-- two totals, of which one is no larger than the other
pub no-smaller : (X Y : Total) → X ≼ Y → Closes X Y (change_of X Y)
no-smaller none none h = refl
no-smaller none (some b) h = absurd h
no-smaller (some a) none h = refl
no-smaller (some a) (some b) h = (b - a, grows (b - a) (some a) (some b) (h, omega (arith, h)))

pub no-larger : (X Y : Total) → Y ≼ X → Opens X Y (change_of X Y)
no-larger none none h = refl
no-larger none (some b) h = refl
no-larger (some a) none h = absurd h
no-larger (some a) (some b) h = (a - b, shrinks (a - b) (some a) (some b) (h, omega (arith, h)))

-- ---- the live times around a set

module _ (live : List ℕ) (i u : ℕ) (li : i < length live) where
  set_here : live_of (set live i u) i ≡ of_word u
  set_here = ap of_word (get_or-set_same live i u 0 li)

  set-others : (j : ℕ) → (j ≡ i → ⊥) → live_of (set live i u) j ≡ live_of live j
  set-others j ne = ap of_word (get_or-set_other live i j u 0 ne)

  -- "goes up by d", and "goes down by d"
  pub set_raises : {t x : ℕ} (d : ℕ) → live_of live i ≡ some t → of_word u ≡ some x → x ≡ t + d
      → Raised (live_of live) (live_of (set live i u)) i t d
  set_raises d old new e = record { old = old; new = set_here ∙ new ∙ ap some e; others = set-others }

  pub set_lowers : {t x : ℕ} (d : ℕ) → live_of live i ≡ some t → of_word u ≡ some x → t ≡ x + d
      → Raised (live_of (set live i u)) (live_of live) i x d
  set_lowers d old new e = record { old = set_here ∙ new; new = old ∙ ap some e; others = λ j ne. sym (set-others j ne) }

  -- the road is closed after it: an open road was open before, at the same time
  pub set-closes : of_word u ≡ none → Grown (live_of (set live i u)) (live_of live) i 0
  set-closes shut j t q = go (ℕ_discrete j i)
    where
      go : Dec (j ≡ i) → (y : ℕ) × (live_of live j ≡ some y) × Late i 0 j t y
      go (yes e) = absurd (none-some (ap (live_of (set live i u)) e ∙ set_here ∙ shut) q)
      go (no ne) = (t, sym (set-others j ne) ∙ q, inl (omega arith))

  -- it was closed before
  pub set-opens : live_of live i ≡ none → Grown (live_of live) (live_of (set live i u)) i 0
  set-opens shut j t q = go (ℕ_discrete j i)
    where
      go : Dec (j ≡ i) → (y : ℕ) × (live_of (set live i u) j ≡ some y) × Late i 0 j t y
      go (yes e) = absurd (none-some (ap (live_of live) e ∙ shut) q)
      go (no ne) = (t, set-others j ne ∙ q, inl (omega arith))

-- a class meets a report as the others do, or not at all
pub class-grown : (access : ℕ → ℕ) (c : ℕ) {live live' : ℕ → Total} {i : ℕ} (d : ℕ) → Grown live live' i d
    → Grown (class_live access c live) (class_live access c live') i d
class-grown access c {live} {live'} d g j t q =
    let o = cond_some (admits (access j) c) (live j) t q in
    let w = g j t o.1 in
    (w.0, cond_yes (admits (access j) c) (live' j) none o.0 ∙ w.1, w.2)

-- a class that the road bars does not meet the report
pub times-barred : (access : ℕ → ℕ) (c : ℕ) (live : List ℕ) (i u : ℕ) → admits (access i) c ≡ false
    → class_times access c (set live i u) ≡ class_times access c live
times-barred access c live i u bar =
    ap (λ (n : ℕ). listed n (seen (set live i u))) (length-set live i u)
    ∙ listed_same (length live) (seen (set live i u)) (seen live) (λ k l. at k (ℕ_discrete k i))
  where
    seen : List ℕ → ℕ → ℕ
    seen times k = cond (admits (access k) c) (get_or times k 0) closed_word

    at : (k : ℕ) → Dec (k ≡ i) → seen (set live i u) k ≡ seen live k
    at k (yes e) = let shut = ap (λ (k : ℕ). admits (access k) c) e ∙ bar in rw shut
    at k (no ne) = rw (get_or-set_other live i k u 0 ne)

-- ---- the calls that no question refuses, be it asked by the map's base times or by the card's

module _ (base : ℕ → Total) (h : Header) where
  pub set-asked : (i u : ℕ) → i < h.m → settable (base i) (of_word u) ≡ true → set_refusal (known_of base h) i u ≡ none
  unfolding set_refusal
  set-asked i u li may = ask-pass (ltb i h.m) NoRoad (lt-ltb i h.m li) (ask-pass _ NotAllowed may refl)

  -- from a start, with a target in force
  module _ {j : ℕ} (lj : j < h.n) (at : is_at h.target ≡ true) where
    pub estimate-asked : estimate_refusal (known_of base h) j ≡ none
    unfolding estimate_refusal
    estimate-asked = ask-pass (ltb j h.n) NoJunction (lt-ltb j h.n lj) (ask-pass (is_at h.target) NoTarget at refl)

    -- of a class
    module _ {c : ℕ} (lc : c < classes) where
      pub go_asked : {r l : ℕ} → h.n ≤ r → h.n ≤ l → go_refusal (known_of base h) c j r l ≡ none
      unfolding go_refusal
      go_asked {r} {l} lr ll =
          let roomy : leb h.n r && leb h.n l ≡ true = rw (le-leb h.n r lr, le-leb h.n l ll) in
          ask-pass (ltb c classes) NoClass (lt-ltb c classes lc)
          (ask-pass (ltb j h.n) NoJunction (lt-ltb j h.n lj)
          (ask-pass (is_at h.target) NoTarget at (ask-pass _ LentLengths roomy refl)))

      pub preview-asked : (i u w : ℕ) → i < h.m → settable (base i) (of_word u) ≡ true → w ≡ work_size h.n
          → preview_refusal (known_of base h) c i u j w ≡ none
      unfolding preview_refusal
      preview-asked i u w li may size =
          let both : and_then (set_refusal (known_of base h) i u) (estimate_refusal (known_of base h) j) ≡ none =
          rw (set-asked i u li may, estimate-asked) in
          ask-pass (eqb w (work_size h.n)) Lengths (eq-eqb w (work_size h.n) size)
          (ask-pass (ltb c classes) NoClass (lt-ltb c classes lc) both)
