-- The root of a tournament tells what is chosen, and where every candidate's sum is kept that is what the definition logs next. Assumes
-- nothing.
use Rattle.std.proofs.Common.{◌%◌, ◌+◌, ◌/◌, ◌<◌, ◌∙◌, ◌≡◌, ◌≤◌, List, ap, arith, get_or, refl, suc, zero, ℕ}
use Rattle.std.proofs.Math.Decide.{dec_lt}
use Rattle.std.specs.Prelude.{None, Some}
use Rattle.graph.proofs.Total.{some-some}
use Rattle.graph.specs.Search.{Entry, Problem, offered}
use Rattle.graph.specs.Choice.{Candidate, Prior, chosen, finished}
use Rattle.search_queue.specs.Order.{Chosen, FirstOf, Order, first-is, key_unit, most_nodes, none_left, settled_key}
use Rattle.search_queue.specs.Tree.{Above, Holds, Tournament, here, higher, nobody, somebody}
use Rattle.search_queue.specs.Sums.{Choice, NextAt, Picks, SumsKept, entry_in, next-at, no-next}
use Rattle.search_queue.specs.Laws.{placed-key, placed-number}

-- the root is above every place
above_root : (p : ℕ) → 0 < p → Above 1 p
above_root p l = below (suc p) p (omega arith) l
  where
    below : (d q : ℕ) → q < d → 0 < q → Above 1 q
    below zero q lt low = absurd (omega arith)
    below (suc d) q lt low = go (dec_lt 1 q) (λ m. below d (q / 2) (omega arith) (omega arith))
      where
        go : Dec (1 < q) → (1 < q → Above 1 (q / 2)) → Above 1 q
        go (yes m) f = higher m (f m)
        go (no m) f = let e : q ≡ 1 = omega arith in rw e here

-- ---- what is chosen is what the definition logs next

-- two candidates that are one vertex have one time and one key
candidate-once : {G : Problem} {H : List Entry} {c d : Entry} → Candidate G H c → Candidate G H d → c.vertex ≡ d.vertex
    → (c.time ≡ d.time) × (c.key ≡ d.key)
candidate-once {G} {H} x y e =
    let time = some-some x.time-is (ap (offered G H) e ∙ y.time-is) in
    let estimate = some-some x.pot-is (ap G.pot e ∙ y.pot-is) in
    (time, omega (arith, x.key-is, y.key-is))

module _ {G : Problem} {H : List Entry} {times : ℕ → ℕ} {o : Order} (sums : SumsKept G H times o) where
  -- v comes before every candidate
  prior : {v : ℕ} → FirstOf o G.size v → (d : Entry) → Candidate G H d → Prior G (entry_in times o v) d
  prior {v} f d m =
      let waits = sums.waits d m in
      let (time, key) = candidate-once (sums.kept d.vertex m.below waits) m refl in
      let tie-v : o.tie v ≡ G.tie (times v) = sums.ties v f.inside in
      let tie-d : o.tie d.vertex ≡ G.tie d.time = sums.ties d.vertex m.below ∙ ap G.tie time in
      let b = f.best d.vertex m.below waits in
      record {
        keys = omega (arith, b.keys-le, key);
        ties = λ q. omega (arith, b.ties-le (omega (arith, key, q)), tie-v, tie-d);
        numbers = λ q r. b.numbers (omega (arith, key, q)) (omega (arith, tie-v, tie-d, r));
      }

  next_of : {n v : ℕ} → G.size ≡ n → Chosen o n v → NextAt G H times o n v
  next_of size_is (none_left f) =
      no-next refl (finished (λ d m. f d.vertex (omega (arith, m.below)) (sums.waits d m)))
  next_of {n} {v} size_is (first-is f) =
      let first : FirstOf o G.size v = rw size_is f in
      next-at f.inside f.waits (chosen (sums.kept v first.inside f.waits) (prior first))

choice_of : {n : ℕ} {room : List ℕ} {v : ℕ} → ((o : Order) → 0 < n → n ≤ most_nodes → Tournament o n room → Chosen o n v) → Choice n room v
choice_of ch = record {
  by_order = ch;
  by-sums = λ G H times o size_is l high t sums. next_of sums size_is (ch o l high t);
}

-- ---- the root's word is no candidate's, or tells a number
module _ {n : ℕ} (room : List ℕ) where
  pub root_nobody : settled_key ≤ get_or room 1 0 / key_unit → Picks n room None
  root_nobody q = record { choice = choice_of (λ o l high t. go o l high (t 1 (omega arith) (omega arith))); inside = λ o l high t. tt }
    where
      go : (o : Order) → 0 < n → n ≤ most_nodes → Holds o n 1 (get_or room 1 0) → Chosen o n n
      go o l high (nobody e f) = none_left (λ v lv w. f v lv (above_root (n + v) (omega arith)) w)
      go o l high (somebody u e lu a w best) = let z = placed-key (o.key u) (o.tie u) (omega arith) e in absurd (omega arith)

  pub root_number : get_or room 1 0 / key_unit < settled_key → Picks n room (Some (get_or room 1 0 % most_nodes))
  root_number q = record {
    choice = choice_of (λ o l high t. first-is (first o l high t));
    inside = λ o l high t. (first o l high t).inside;
  }
    where
      go : (o : Order) → 0 < n → n ≤ most_nodes → Holds o n 1 (get_or room 1 0) → FirstOf o n (get_or room 1 0 % most_nodes)
      go o l high (nobody e f) = absurd (omega arith)
      go o l high (somebody u e lu a w best) =
          rw (placed-number (o.key u) (o.tie u) (omega arith) e)
          (record { inside = lu; waits = w; best = λ v lv wv. best v lv (above_root (n + v) (omega arith)) wv })

      first : (o : Order) → 0 < n → n ≤ most_nodes → Tournament o n room → FirstOf o n (get_or room 1 0 % most_nodes)
      first o l high t = go o l high (t 1 (omega arith) (omega arith))
