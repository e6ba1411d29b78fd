-- The order of choice: that it is an order, and that it stays between nodes that did not change. Assumes nothing.
use Rattle.std.proofs.Common.{◌*◌, ◌+◌, ◌/◌, ◌<◌, ◌∙◌, ◌≡◌, List, ap, arith, get_or-set_other, set, ℕ}
use Rattle.search_queue.specs.Order.{Before, Order, SameBut, Waiting, by_key, key_unit, most_nodes}

-- ---- any order
module _ (o : Order) (a b : ℕ) where
  pub before_trans : (c : ℕ) → Before o a b → Before o b c → Before o a c
  before_trans c p q = record {
    keys-le = omega (arith, p.keys-le, q.keys-le);
    ties-le = λ e. omega (arith, p.ties-le (first e), q.ties-le (second e));
    numbers = λ e t. omega (arith, p.numbers (first e) (first-tie e t), q.numbers (second e) (second-tie e t));
  }
    where
      first : o.key a ≡ o.key c → o.key a ≡ o.key b
      first e = omega (arith, p.keys-le, q.keys-le)

      second : o.key a ≡ o.key c → o.key b ≡ o.key c
      second e = omega (arith, p.keys-le, q.keys-le)

      first-tie : o.key a ≡ o.key c → o.tie a ≡ o.tie c → o.tie a ≡ o.tie b
      first-tie e t = omega (arith, p.ties-le (first e), q.ties-le (second e))

      second-tie : o.key a ≡ o.key c → o.tie a ≡ o.tie c → o.tie b ≡ o.tie c
      second-tie e t = omega (arith, p.ties-le (first e), q.ties-le (second e))

pub before_self : (o : Order) (a : ℕ) → Before o a a
before_self o a = record { keys-le = omega arith; ties-le = λ e. omega arith; numbers = λ e t. omega arith }

-- between nodes other than v, two orders that are the same but at v agree
module _ {n v : ℕ} {o o' : Order} (s : SameBut n v o o') where
  pub waiting-new : {u : ℕ} → u < n → (u ≡ v → ⊥) → Waiting o u → Waiting o' u
  waiting-new {u} l ne w = rw (s.keys-same u l ne) w

  pub waiting-old : {u : ℕ} → u < n → (u ≡ v → ⊥) → Waiting o' u → Waiting o u
  waiting-old {u} l ne w = rw (s.keys-same u l ne) at w

  pub before-new : {a b : ℕ} → a < n → b < n → (a ≡ v → ⊥) → (b ≡ v → ⊥) → Before o a b → Before o' a b
  before-new {a} {b} la lb na nb p =
      let x = s.keys-same a la na in
      let y = s.keys-same b lb nb in
      let x' = s.ties-same a la na in
      let y' = s.ties-same b lb nb in
      record {
        keys-le = omega (arith, p.keys-le);
        ties-le = λ e. omega (arith, p.ties-le (omega arith));
        numbers = λ e t. p.numbers (omega arith) (omega arith);
      }

-- ---- the key of v is written
pub same-put : {n v : ℕ} → v < n → (room : List ℕ) (w : ℕ) {o : Order} → SameBut n v o (by_key n room)
    → SameBut n v o (by_key n (set room (n + v) w))
same-put {n} {v} lv room w s = record {
  keys-same = λ u l ne.
      ap (λ (x : ℕ). x / key_unit) (get_or-set_other room (n + v) (n + u) w 0 (λ e. ne (omega arith))) ∙ s.keys-same u l ne;
  ties-same = λ u l ne.
      ap (λ (x : ℕ). x / most_nodes) (get_or-set_other room (n + v) (2 * n + u) w 0 (λ e. absurd (omega arith))) ∙ s.ties-same u l ne;
}
