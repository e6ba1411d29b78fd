-- Proves their laws, and the cases of an option and of a test. Assumes nothing.
use Rattle.std.specs.Prelude.{◌≡◌, refl, ◌⊎◌, Bool, ◌&&◌, cond, false, true, ◌+◌, ◌≤◌, ℕ}
use Rattle.std.proofs.Common.{ap, inl, inr, le-leb, leb-false, leb-true, add_assoc, add_comm, zero-add, arith}
use Rattle.std.proofs.Math.Option.{Option, none, some}
use Rattle.graph.specs.Total.{Total, ◌≼◌, ◌⊓◌, ◌⊕◌, no_more, is_number, Tested}

-- ---- cases of an option and of a test

pub none-some : {A : Type 0} {x : Option A} {a : A} → x ≡ none → x ≡ some a → ⊥
none-some p q = let z : ◌≡◌ {A = ℕ} 0 1 = cc in omega arith

pub some-some : {A : Type 0} {x : Option A} {a b : A} → x ≡ some a → x ≡ some b → a ≡ b
some-some p q = cc

pub true_false : {b : Bool} → b ≡ true → b ≡ false → ⊥
true_false p q = let z : ◌≡◌ {A = ℕ} 0 1 = cc in omega arith

pub decide : (b : Bool) → Tested b
decide true = inl refl
decide false = inr refl

pub decide_option : {A : Type 0} (x : Option A) → (x ≡ none) ⊎ ((a : A) × (x ≡ some a))
decide_option none = inl refl
decide_option (some a) = inr (a, refl)

pub and_true : (a b : Bool) → a && b ≡ true → (a ≡ true) × (b ≡ true)
and_true true b h = (refl, h)
and_true false b h = absurd (true_false h refl)

pub cond_yes : (b : Bool) (x y : Total) → b ≡ true → cond b x y ≡ x
cond_yes b x y e = rw e

pub cond_no : (b : Bool) (x y : Total) → b ≡ false → cond b x y ≡ y
cond_no b x y e = rw e

pub cond_same : (b : Bool) (x : Total) → cond b x x ≡ x
cond_same true x = refl
cond_same false x = refl

pub cond_some : (b : Bool) (x : Total) (t : ℕ) → cond b x none ≡ some t → (b ≡ true) × (x ≡ some t)
cond_some true x t h = (refl, h)
cond_some false x t h = absurd (none-some refl h)

-- ---- the laws

pub ⊕-none : (x : Total) → x ⊕ none ≡ none
⊕-none none = refl
⊕-none (some a) = refl

pub ⊓-none : (x : Total) → x ⊓ none ≡ x
⊓-none none = refl
⊓-none (some a) = refl

pub ⊓-assoc : (x y z : Total) → (x ⊓ y) ⊓ z ≡ x ⊓ (y ⊓ z)
⊓-assoc none y z = refl
⊓-assoc (some a) none z = refl
⊓-assoc (some a) (some b) none = refl
⊓-assoc (some a) (some b) (some c) = ap some (omega arith)

pub ⊓-comm : (x y : Total) → x ⊓ y ≡ y ⊓ x
⊓-comm none none = refl
⊓-comm none (some b) = refl
⊓-comm (some a) none = refl
⊓-comm (some a) (some b) = ap some (omega arith)

pub ⊕-assoc : (x y z : Total) → (x ⊕ y) ⊕ z ≡ x ⊕ (y ⊕ z)
⊕-assoc none y z = refl
⊕-assoc (some a) none z = refl
⊕-assoc (some a) (some b) none = refl
⊕-assoc (some a) (some b) (some c) = ap some (add_assoc a b c)

pub ⊕-comm : (x y : Total) → x ⊕ y ≡ y ⊕ x
⊕-comm none none = refl
⊕-comm none (some b) = refl
⊕-comm (some a) none = refl
⊕-comm (some a) (some b) = ap some (add_comm a b)

pub zero-⊕ : (x : Total) → some 0 ⊕ x ≡ x
zero-⊕ none = refl
zero-⊕ (some a) = ap some (zero-add a)

-- a sum that is a number has both its parts
pub ⊕-some : (x y : Total) (t : ℕ) → x ⊕ y ≡ some t → (a b : ℕ) × (x ≡ some a) × (y ≡ some b) × (t ≡ a + b)
⊕-some none y t e = absurd (none-some refl e)
⊕-some (some a) none t e = absurd (none-some refl e)
⊕-some (some a) (some b) t e = (a, b, refl, refl, some-some e refl)

pub ≼_trans : (x y z : Total) → x ≼ y → y ≼ z → x ≼ z
≼_trans x y none p q = tt
≼_trans none none (some c) p q = q
≼_trans (some a) none (some c) p q = absurd q
≼_trans none (some b) (some c) p q = p
≼_trans (some a) (some b) (some c) p q = omega arith

pub ≼_refl : (x : Total) → x ≼ x
≼_refl none = tt
≼_refl (some a) = omega arith

pub ≼-antisym : (x y : Total) → x ≼ y → y ≼ x → x ≡ y
≼-antisym none none p q = refl
≼-antisym none (some b) p q = absurd p
≼-antisym (some a) none p q = absurd q
≼-antisym (some a) (some b) p q = ap some (omega arith)

-- at most u: a number, and at most u
pub within : (x : Total) (u : ℕ) → x ≼ some u → (t : ℕ) × (x ≡ some t) × (t ≤ u)
within none u h = absurd h
within (some t) u h = (t, refl, h)

-- ---- what the tests say

pub no_more_true : (x y : Total) → no_more x y ≡ true → x ≼ y
unfolding no_more
no_more_true x none h = tt
no_more_true none (some b) h = absurd (true_false h refl)
no_more_true (some a) (some b) h = leb-true a b h

pub true_no_more : (x y : Total) → x ≼ y → no_more x y ≡ true
unfolding no_more
true_no_more x none h = refl
true_no_more none (some b) h = absurd h
true_no_more (some a) (some b) h = le-leb a b h

pub no_more_false : (x y : Total) → no_more x y ≡ false → y ≼ x
unfolding no_more
no_more_false x none h = absurd (true_false refl h)
no_more_false none (some b) h = tt
no_more_false (some a) (some b) h = let l = leb-false a b h in omega arith

pub is_number_true : (x : Total) → is_number x ≡ true → (t : ℕ) × (x ≡ some t)
unfolding is_number
is_number_true none h = absurd (true_false h refl)
is_number_true (some t) h = (t, refl)

pub true_is_number : (x : Total) (t : ℕ) → x ≡ some t → is_number x ≡ true
unfolding is_number
true_is_number x t e = rw e

pub is_number-⊕ : (x y : Total) → is_number (x ⊕ y) ≡ is_number x && is_number y
unfolding is_number
is_number-⊕ none y = refl
is_number-⊕ (some a) none = refl
is_number-⊕ (some a) (some b) = refl
