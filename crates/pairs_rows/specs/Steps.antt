-- Steps of numbers that the loops take. Assumes nothing.
use Rattle.std.specs.Prelude.{◌≡◌, ◌*◌, ◌+◌, ◌-◌, ◌/◌, ◌<◌, ◌≤◌, min, suc, ℕ}
use Rattle.std.proofs.Common.{arith}
use Rattle.model.specs.Limits.{most_pairs}
use Rattle.model.specs.Areas.{record_size}
use Rattle.pairs_rows.specs.Rows.{block}

pub le-more : {a b : ℕ} → a ≤ b → a ≤ b + 1
le-more {a} {b} h = omega arith

pub lt_next : {v to : ℕ} → v < to → v + 1 ≤ to
lt_next {v} {to} h = omega arith

pub less : {v to : ℕ} → v < to → to - (v + 1) < to - v
less {v} {to} h = omega arith

pub lt_le : {v to r : ℕ} → v < to → to ≤ r → v < r
lt_le {v} {to} {r} h k = omega arith

-- below a length that is kept
pub in_length : {h l l₀ : ℕ} → h < l₀ → l ≡ l₀ → h < l
in_length {h} {l} {l₀} k e = omega arith

pub in_blocks : {h l l₀ : ℕ} → h < block * l₀ → l ≡ l₀ → h < block * l
in_blocks {h} {l} {l₀} k e = omega arith

pub in_fronts : {v r n l : ℕ} → v < r → r < n → n ≤ l → v < l
in_fronts {v} {r} {n} {l} h k p = omega arith

pub in_fronts_kept : {v to r n l l₀ : ℕ} → v < to → to ≤ r → r < n → n ≤ l₀ → l ≡ l₀ → v < l
in_fronts_kept {v} {to} {r} {n} {l} {l₀} h t k p e = omega arith

-- ---- blocks

pub min-le : {to r : ℕ} (a : ℕ) → to ≡ min a r → to ≤ r
min-le {to} {r} a e = omega arith

pub block-from : {v to r : ℕ} → to ≡ min (v + block) r → v < r → v ≤ to
block-from {v} {to} {r} e h = omega arith

pub block-less : {v to r : ℕ} → to ≡ min (v + block) r → v < r → r - to < r - v
block-less {v} {to} {r} e h = omega arith

pub block_in : {v r n l l₀ : ℕ} → n ≤ block * l₀ → r < n → v < r → l ≡ l₀ → v / block < l
block_in {v} {r} {n} {l} {l₀} w k h e = omega arith

-- ---- places of records

pub le_same : {v : ℕ} → v ≤ v
le_same {v} = omega arith

pub next_fits : {i end l : ℕ} → i < end → record_size * end ≤ l → l ≤ record_size * most_pairs → i + 1 < 4294967296
next_fits {i} {end} {l} h k a = omega arith

pub count_fits : {l : ℕ} (k : ℕ) → record_size * k ≤ l → l ≤ record_size * most_pairs → k + 1 < 4294967296
count_fits {l} k h a = omega arith

pub room_in : {e l : ℕ} (k : ℕ) → e ≡ record_size * (k + 1) → e ≤ l → record_size * k + record_size ≤ l
room_in {e} {l} k h a = omega arith

pub room_out : {e l : ℕ} (k : ℕ) → e ≡ record_size * (k + 1) → l < e → l < record_size * k + record_size
room_out {e} {l} k h a = omega arith

pub room_next : {l l₀ : ℕ} (k : ℕ) → record_size * k + record_size ≤ l → l ≡ l₀ → record_size * (k + 1) ≤ l₀
room_next {l} {l₀} k h e = omega arith

-- ---- the highs of a row

pub lt_more : {r h : ℕ} → r < h → r < h + 1
lt_more {r} {h} k = omega arith

pub in_kept : {h n l l₀ : ℕ} → h < n → n ≤ l₀ → l ≡ l₀ → h < l
in_kept {h} {n} {l} {l₀} k w e = omega arith

pub by-below : {a b n : ℕ} → a ≡ b → b < n → a < n
by-below {a} {b} {n} e h = omega arith

pub over-above : {r h n to : ℕ} → to ≡ min (block * (h / block) + block) n → r < h → h < n → r < to
over-above {r} {h} {n} {to} e k l = omega arith

pub over-less : {h n to : ℕ} → to ≡ min (block * (h / block) + block) n → h < n → n - to < n - h
over-less {h} {n} {to} e k = omega arith

-- ---- the roads of a row

pub by_most : {a b n : ℕ} → a ≡ b → b ≤ n → a ≤ n
by_most {a} {b} {n} e h = omega arith

pub le-kept : {n l l₀ : ℕ} → n ≤ l₀ → l ≡ l₀ → n ≤ l
le-kept {n} {l} {l₀} h e = omega arith

pub le-blocks : {n l l₀ : ℕ} → n ≤ block * l₀ → l ≡ l₀ → n ≤ block * l
le-blocks {n} {l} {l₀} h e = omega arith

pub before-arc : {c m : ℕ} → c ≤ m → 0 < c → c - 1 < m
before-arc {c} {m} h k = omega arith

pub back-less : {c d : ℕ} → d ≤ c - 1 → 0 < c → d < c
back-less {c} {d} h k = omega arith

pub back-most : {c d m : ℕ} → d ≤ c - 1 → c ≤ m → d ≤ m
back-most {c} {d} {m} h k = omega arith

pub one_less : {c : ℕ} → 0 < c → c ≡ suc (c - 1)
one_less {c} h = omega arith

pub by-none : {c : ℕ} → c ≤ 0 → c ≡ 0
by-none {c} h = omega arith
