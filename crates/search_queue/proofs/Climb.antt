-- One node's key has changed, and the places above it are decided anew, from its own place up. Assumes nothing.
use Rattle.std.proofs.Common.{◌%◌, ◌*◌, ◌+◌, ◌-◌, ◌/◌, ◌<◌, ◌∙◌, ◌≡◌, ◌≤◌, ◌⊎◌, List, ap, arith, false, get_or, get_or-set_other}
use Rattle.std.proofs.Common.{get_or-set_same, inl, inr, length, length-set, refl, set, subst, sym, true, ℕ}
use Rattle.std.proofs.Math.Decide.{dec_lt, ℕ_discrete}
use Rattle.graph.specs.Total.{Tested}
use Rattle.graph.proofs.Total.{decide}
use Rattle.search_queue.specs.Order.{Alike, Before, Order, SameBut, Waiting, by_key, key_unit, most_nodes, settled_key, tie_in}
use Rattle.search_queue.specs.Tree.{Above, Changed, Holds, Own, Put, Tells, before, better, here, nobody, part_of, placed_of}
use Rattle.search_queue.specs.Tree.{somebody}
use Rattle.search_queue.specs.Laws.{placed-key, placed-number, placed-part, tournament_kept}
use Rattle.search_queue.proofs.Orders.{before-new, before_self, before_trans, same-put, waiting-new, waiting-old}
use Rattle.search_queue.proofs.Words.{after-keys, before_false, before-keys, before_true, better-first, better-same}
use Rattle.search_queue.proofs.Words.{better-second}
use Rattle.search_queue.proofs.Places.{Two, above_half, above-le, above-leaf, two-beside}

-- ---- a place is decided by the two under it
module _ (o : Order) {n p a b : ℕ} (two : Two n p a b) where
  -- what holds of all candidates u under the two holds of all under p
  under-two : (A : ℕ → Type 0) → ((u : ℕ) → u < n → Above a (n + u) → Waiting o u → A u)
      → ((u : ℕ) → u < n → Above b (n + u) → Waiting o u → A u)
      → (u : ℕ) → u < n → Above p (n + u) → Waiting o u → A u
  under-two A f g u lu c w = go (two.either u c)
    where
      go : Above a (n + u) ⊎ Above b (n + u) → A u
      go (inl d) = f u lu d w
      go (inr d) = g u lu d w

  module _ (room : n ≤ most_nodes) {x y : ℕ} where
    decided-first : before o.tie x y ≡ true → Holds o n a x → Holds o n b y → Holds o n p x
    decided-first t (nobody e f) (nobody e' g) = nobody e (under-two (λ u. ⊥) f g)
    decided-first t (nobody e f) (somebody j ej lj aj wj best) =
        let lm : j < most_nodes = omega arith in
        let k = before-keys o.tie x y t in
        let z = placed-key (o.key j) (o.tie j) lm ej in
        absurd (omega arith)
    decided-first t (somebody i ei li ai wi best) (nobody e g) =
        somebody i ei li (two.under_first (n + i) ai) wi (under-two (λ u. Before o i u) best (λ u lu c w. absurd (g u lu c w)))
    decided-first t (somebody i ei li ai wi best) (somebody j ej lj aj wj best') =
        let k : Before o i j = before_true o (omega arith) (omega arith) ei ej wi t in
        somebody i ei li (two.under_first (n + i) ai) wi
        (under-two (λ u. Before o i u) best (λ u lu c w. before_trans o i j u k (best' u lu c w)))

    decided-second : before o.tie x y ≡ false → Holds o n a x → Holds o n b y → Holds o n p y
    decided-second t (nobody e f) (nobody e' g) = nobody e' (under-two (λ u. ⊥) f g)
    decided-second t (nobody e f) (somebody j ej lj aj wj best) =
        somebody j ej lj (two.under-second (n + j) aj) wj (under-two (λ u. Before o j u) (λ u lu c w. absurd (f u lu c w)) best)
    decided-second t (somebody i ei li ai wi best) (nobody e g) =
        let lm : i < most_nodes = omega arith in
        let k = after-keys o.tie x y t in
        let z = placed-key (o.key i) (o.tie i) lm ei in
        absurd (omega arith)
    decided-second t (somebody i ei li ai wi best) (somebody j ej lj aj wj best') =
        let k : Before o j i = before_false o (omega arith) (omega arith) ei ej wi t in
        somebody j ej lj (two.under-second (n + j) aj) wj
        (under-two (λ u. Before o j u) (λ u lu c w. before_trans o j i u k (best u lu c w)) best')

    decided : Holds o n a x → Holds o n b y → Holds o n p (better o.tie x y)
    decided h h' = go (decide (before o.tie x y))
      where
        go : Tested (before o.tie x y) → Holds o n p (better o.tie x y)
        go (inl t) = rw (better-first o.tie x y t) (decided-first t h h')
        go (inr t) = rw (better-second o.tie x y t) (decided-second t h h')

-- ---- what a place holds stays, where v is no candidate under it
module _ {o₀ o : Order} {n v : ℕ} (s : SameBut n v o₀ o) where
  word-new : {u w : ℕ} → u < n → (u ≡ v → ⊥) → w ≡ placed_of (o₀.key u) (o₀.tie u) u → w ≡ placed_of (o.key u) (o.tie u) u
  word-new {u} l ne e = rw (s.keys-same u l ne, s.ties-same u l ne) e

  holds-apart : {q x : ℕ} → ((u : ℕ) → Above q (n + u) → u ≡ v → ⊥) → Holds o₀ n q x → Holds o n q x
  holds-apart apart (nobody e f) = nobody e (λ u lu a w. f u lu a (waiting-old s lu (apart u a) w))
  holds-apart apart (somebody i e li ai wi best) =
      let ni = apart i ai in
      somebody i (word-new li ni e) li ai (waiting-new s li ni wi)
      (λ u lu a w. before-new s li lu ni (apart u a) (best u lu a (waiting-old s lu (apart u a) w)))

-- v's own place holds its word
holds-leaf : (o : Order) {n v w : ℕ} → v < n → w / key_unit ≡ o.key v → (o.key v < settled_key → w ≡ placed_of (o.key v) (o.tie v) v)
    → Holds o n (n + v) w
holds-leaf o {n} {v} {w} lv key-is w-is = go (dec_lt (o.key v) settled_key)
  where
    own : {u : ℕ} → u < n → Above (n + v) (n + u) → u ≡ v
    own lu a = above-leaf lv lu a

    go : Dec (o.key v < settled_key) → Holds o n (n + v) w
    go (yes t) = somebody v (w-is t) lv here t (λ u lu a _. (let e : u ≡ v = own lu a in rw e (before_self o v)))
    go (no t) =
        let rests : settled_key ≤ w / key_unit = omega arith in
        nobody rests (λ u lu a z. (let e : u ≡ v = own lu a in t (rw e at z)))

-- ---- a place is written
module _ (o : Order) (n : ℕ) (tree : List ℕ) (at x q : ℕ) where
  holds_kept : (q ≡ at → ⊥) → Holds o n q (get_or tree q 0) → Holds o n q (get_or (set tree at x) q 0)
  holds_kept ne h = subst (Holds o n q) (sym (get_or-set_other tree at q x 0 ne)) h

  holds-written : at < length tree → Holds o n at x → ((q ≡ at → ⊥) → Holds o n q (get_or tree q 0))
      → Holds o n q (get_or (set tree at x) q 0)
  holds-written room h f = go (ℕ_discrete q at)
    where
      go : Dec (q ≡ at) → Holds o n q (get_or (set tree at x) q 0)
      go (yes e) = rw (e, get_or-set_same tree at x 0 room) h
      go (no ne) = holds_kept ne (f ne)

-- the word of a place, if it is a candidate's, tells a node and a part of its tie
holds-tells : {o : Order} {n p w : ℕ} → n ≤ most_nodes → Holds o n p w → Tells n o.tie w
holds-tells high (nobody e f) = λ l. absurd (omega arith)
holds-tells {o} high (somebody u e lu a wu best) =
    let number = placed-number (o.key u) (o.tie u) (omega arith) e in
    λ l. (omega arith, placed-part (o.key u) (o.tie u) (omega arith) e ∙ sym (ap (λ (i : ℕ). part_of (o.tie i)) number))

-- ---- the way up

-- All places but those properly above `at` hold what they should, and `at` holds w; nothing from place n on is altered. room₀ is the room
-- at the beginning of the loop.
pub record Climb (o : Order) (n : ℕ) (room₀ room : List ℕ) (at w : ℕ) : Type 0 where
  pub low : 0 < at
  pub high : at < 2 * n
  pub words : 3 * n ≤ length room
  pub long : length room ≡ length room₀
  pub kept : (q : ℕ) → n ≤ q → get_or room q 0 ≡ get_or room₀ q 0
  pub word : Holds o n at w
  pub done : (q : ℕ) → 0 < q → q < 2 * n → (Above q at → q < at → ⊥) → Holds o n q (get_or room q 0)

-- the word of v is written at its own place
module _ {n v : ℕ} (key : ℕ) {room : List ℕ} {x : ℕ} (inside : v < n) (few : n ≤ most_nodes) (sized : 3 * n ≤ length room)
    (x-is : Own n v key room x) where
  abbrev written : List ℕ
  written = set room (n + v) x

  own-word : get_or written (n + v) 0 ≡ x
  own-word = get_or-set_same room (n + v) x 0 (omega arith)

  pub climb-start : Changed (by_key n room) n v room → Climb (by_key n written) n written written (n + v) x
  climb-start c = record {
    low = omega arith;
    high = omega arith;
    words = simp length-set sized;
    long = refl;
    kept = λ q l. refl;
    word = leaf;
    done = λ q low high f.
        holds-written o n room (n + v) x q (omega arith) leaf
        (λ ne. holds-apart same (other q ne f) (c.right q low high));
  }
    where
      o : Order
      o = by_key n written

      same : SameBut n v c.old o
      same = same-put inside room x c.same

      leaf : Holds o n (n + v) x
      leaf =
          let k : o.key v ≡ key = ap (λ (w : ℕ). w / key_unit) own-word ∙ x-is.key-is in
          let t : o.tie v ≡ tie_in n room v =
          ap (λ (w : ℕ). w / most_nodes) (get_or-set_other room (n + v) (2 * n + v) x 0 (λ e. absurd (omega arith))) in
          holds-leaf o inside (x-is.key-is ∙ sym k) (λ l. rw (k, t) (x-is.placed (rw k at l)))

      other : (q : ℕ) → (q ≡ n + v → ⊥) → (Above q (n + v) → q < n + v → ⊥) → (u : ℕ) → Above q (n + u) → u ≡ v → ⊥
      other q ne f u a e =
          let b : Above q (n + v) = subst (λ (w : ℕ). Above q (n + w)) e a in
          let le = above-le b in
          f b (omega arith)

  pub climb-end : {room' : List ℕ} {at w : ℕ} → at ≤ 1 → Climb (by_key n written) n written room' at w → Put n v key room room'
  climb-end {room'} end c = record {
    own = ap (λ (w : ℕ). w / key_unit) (c.kept (n + v) (omega arith) ∙ own-word) ∙ x-is.key-is;
    others = λ q l ne. c.kept q l ∙ get_or-set_other room (n + v) q x 0 ne;
    right = tournament_kept same room' room' (λ q high. refl) (λ q low high. c.done q low high (λ a l. omega arith));
  }
    where
      same : Alike n (by_key n written) (by_key n room')
      same = record {
        keys_alike = λ u l. ap (λ (x : ℕ). x / key_unit) (c.kept (n + u) (omega arith));
        ties_alike = λ u l. ap (λ (x : ℕ). x / most_nodes) (c.kept (2 * n + u) (omega arith));
      }

module _ {o : Order} {n : ℕ} {room₀ room : List ℕ} {at up beside w : ℕ} (nodes : n ≤ most_nodes) (more : 1 < at) (up_is : up ≡ at / 2)
    (beside-is : beside ≡ 4 * up + 1 - at) (c : Climb o n room₀ room at w) where
  -- the place beside is decided
  holds-beside : Holds o n beside (get_or room beside 0)
  holds-beside = c.done beside (omega arith) (omega arith) (λ a l. (let z = above-le (above_half a l) in omega arith))

  -- the ties are those of room₀, which no place above alters
  module _ (o_is : o ≡ by_key n room₀) where
    ties-kept : (u : ℕ) → tie_in n room u ≡ o.tie u
    ties-kept u = rw o_is (ap (λ (x : ℕ). x / most_nodes) (c.kept (2 * n + u) (omega arith)))

    tells-kept : (x : ℕ) → Tells n o.tie x → Tells n (tie_in n room) x
    tells-kept x tells l =
        let (number, part) = tells l in
        (number, part ∙ sym (ap part_of (ties-kept (x % most_nodes))))

    -- so both words tell a node, if they are candidates'
    pub climb-tells : Tells n (tie_in n room) w
    climb-tells = tells-kept w (holds-tells nodes c.word)

    pub beside-tells : Tells n (tie_in n room) (get_or room beside 0)
    beside-tells = tells-kept (get_or room beside 0) (holds-tells nodes holds-beside)

    module _ {w' : ℕ} (w-is : w' ≡ better (tie_in n room) w (get_or room beside 0)) where
      holds-up : Holds o n up w'
      holds-up =
          let y = get_or room beside 0 in
          let same = better-same (tie_in n room) w y o.tie (ties-kept (w % most_nodes)) (ties-kept (y % most_nodes)) in
          rw (w-is, same) (decided o (two-beside n at up beside more c.high up_is beside-is) nodes c.word holds-beside)

      pub climb-turn : Climb o n room₀ (set room up w') up w'
      climb-turn = record {
        low = omega arith;
        high = omega (arith, c.high);
        words = simp length-set c.words;
        long = length-set room up w' ∙ c.long;
        kept = λ q l. get_or-set_other room up q w' 0 (λ e. absurd (omega (arith, c.high))) ∙ c.kept q l;
        word = holds-up;
        done = λ q low high f.
            holds-written o n room up w' q (omega (arith, c.words, c.high)) holds-up
            (λ ne. c.done q low high (λ a l. next q ne f (above_half a l)));
      }
        where
          next : (q : ℕ) → (q ≡ up → ⊥) → (Above q up → q < up → ⊥) → Above q (at / 2) → ⊥
          next q ne f a = let le = above-le a in f (rw up_is a) (omega arith)
