-- The invariant of the unit: what every state that a list of calls leaves is like, for the proofs of the code. Assumes nothing.
use Rattle.std.proofs.Common.{◌∙◌, ap, sym, inl, inr, length-append, length-set, get_or-set_other, get_or-set_same, arith}
use Rattle.std.specs.Prelude.{◌≡◌, refl, ◌⊎◌, Bool, ◌&&◌, cond, false, true, ◌%◌, ◌*◌, ◌+◌, ◌-◌, ◌<◌, ◌≤◌, suc, ℕ, eqb, ltb, drop, get_or}
use Rattle.std.specs.Prelude.{replicate, set}
use Rattle.std.proofs.Math.Option.{Option, none, some}
use mathlib.Core.List.Memᴰ
use mathlib.Core.List.{List, Memᴰ, [], ◌∷◌}
use borrow.Author.Tests.{eq-eqb, eqb-true, le-leb, le-ltb, leb-true, ltb-true, ne_eqb}
use Rattle.std.proofs.Math.Dec.{leb}
use Rattle.std.proofs.lemmas.List.{get_or-replicate, length-replicate}
use Rattle.std.proofs.Math.ListN.{length}
use Rattle.std.proofs.Math.Decide.{ℕ_discrete}
use Rattle.graph.proofs.ByTailLaws.{start_of-all}
use Rattle.graph.specs.Total.{Tested, Total, ◌≼◌}
use Rattle.graph.proofs.Total.{and_true, decide, true_false}
use Rattle.graph.proofs.Least.{any_below_true, true_any_below}
use Rattle.graph.specs.Path.{empty}
use Rattle.graph.proofs.Path.{path_join}
use Rattle.graph.specs.Records.{Pair}
use Rattle.graph.proofs.Reach.{path-reaches, reaches-path}
use Rattle.graph.specs.Potential.{Slower}
use Rattle.graph.specs.Search.{history, route_of, total_of}
use Rattle.graph.specs.Stops.{Below}
use Rattle.graph.specs.Map.{Map, estimate_of, fills, pairs_of, rank, weights}
use Rattle.model.specs.Word.{none_word, of_word, unasked, word}
use Rattle.model.specs.Types.{Absent, Accepted, AreaLengths, At, Header, Lengths, LentLengths, NoClass, NoJunction}
use Rattle.model.specs.Types.{NoRoad, NoTarget, NotAllowed, Refusal, Room, StopCount, Target}
use Rattle.model.specs.Bytes.{word_at}
use Rattle.model.specs.Limits.{classes, fewest_stops, most_junctions, most_pairs, most_roads, most_stops, most_time}
use Rattle.model.specs.Layout.{access_in, entry_of, named, names}
use Rattle.model.specs.Classes.{access_of, class_live, class_times}
use Rattle.model.specs.Card.{ask, card_map, card_refusal, map_on, rows_of}
use Rattle.model.specs.Areas.{Aimed, Areas, Each, Trip, lengths, lengths_fit, record_size, records_in}
use Rattle.model.specs.Areas.{rank_words, room_fits, time_words, times_in, zeroed, zeros_after}
use Rattle.model.specs.State.{Lent, State, Step, answering, areas_refusal, fitting, fresh, leaving, none_lent}
use Rattle.model.specs.State.{prepare, question9, room_refusal, unless, unprepared, usable, zero_header}
use Rattle.model.specs.Machine.{is_at, target_of}
use Rattle.model.specs.Set.{set_made, set_refusal, settable}
use Rattle.model.specs.Aim.{aim_made, aim_refusal}
use Rattle.model.specs.Estimate.{estimate_refusal, filled, with_estimates}
use Rattle.model.specs.Go.{asks, go_asks, go_fills, go_made, go_refusal, live_of, search_of}
use Rattle.model.specs.Preview.{either_asks, preview_refusal, work_size}
use Rattle.model.specs.Stops.{Journey, all_below, journey, leg_made, past, stops_refusal, with_leg}
use Rattle.model.specs.Calls.{Aim, Asked, Call, Estimate, Go, Left, Preview, Set, Stops, asked_of, known_of, made, refusal_by, run}
use Rattle.model.specs.Calls.{step}
use Rattle.model.proofs.Laws.{and_then-none, ask-none, ask-pass, listed_at, listed-length, not_accepted, or_true, true_and}
use Rattle.model.proofs.Laws.{true_or_left, true_or_right}
use Rattle.model.proofs.ClassLaws as classes-of
use Rattle.model.proofs.ClassLaws.{class-lives, times-settable}
use Rattle.model.proofs.Accept.{card-facts}
use Rattle.model.specs.Good.{LengthFacts, Filled, Aims, Good, UpClosed, PreparedFacts, Leaves, GoPassed, PreviewPassed, StopsPassed}
use Rattle.model.specs.Good.{met_times, as_met}

pub lengths-facts : (n m p : ℕ) (l : Each ℕ) → lengths_fit n m p l ≡ true → LengthFacts n m p l
unfolding lengths_fit
lengths-facts n m p l h =
    let k = l.built.pairs in
    let q = l.built.times in
    let r = eqb l.built.ranks n in
    let o = room_fits p k q in
    let v = eqb l.live m in
    let d = eqb l.aimed.down n in
    let e = eqb l.aimed.estimates n in
    let t = eqb l.trip.elapsed n in
    let g = eqb l.built.leaving m in
    let to-groups = and_true (r && o && v && d && e && t && g) (eqb l.built.groups (suc n)) h in
    let to-leaving = and_true (r && o && v && d && e && t) g to-groups.0 in
    let to-elapsed = and_true (r && o && v && d && e) t to-leaving.0 in
    let to-estimates = and_true (r && o && v && d) e to-elapsed.0 in
    let to-down = and_true (r && o && v) d to-estimates.0 in
    let to-live = and_true (r && o) v to-down.0 in
    let to_room = and_true r o to-live.0 in
    let high = and_true (eqb q k && eqb (k % record_size) 0 && leb (record_size * p) k) (leb k (record_size * most_pairs)) to_room.1 in
    let holds = and_true (eqb q k && eqb (k % record_size) 0) (leb (record_size * p) k) high.0 in
    let even = and_true (eqb q k) (eqb (k % record_size) 0) holds.0 in
    record {
      ranks = eqb-true l.built.ranks n to_room.0;
      whole = eqb-true (k % record_size) 0 even.1;
      room = leb-true (record_size * p) k holds.1;
      pairs-high = leb-true k (record_size * most_pairs) high.1;
      times = eqb-true q k even.0;
      live = eqb-true l.live m to-live.1;
      down = eqb-true l.aimed.down n to-down.1;
      estimates = eqb-true l.aimed.estimates n to-estimates.1;
      elapsed = eqb-true l.trip.elapsed n to-elapsed.1;
      leaving = eqb-true l.built.leaving m to-leaving.1;
      groups = eqb-true l.built.groups (suc n) to-groups.1;
    }

pub facts-lengths : {n m p : ℕ} {l : Each ℕ} → LengthFacts n m p l → lengths_fit n m p l ≡ true
unfolding lengths_fit
facts-lengths {n} {m} {p} {l} f =
    let k = l.built.pairs in
    rw (
      eq-eqb l.built.ranks n f.ranks,
      eq-eqb l.built.times k f.times,
      eq-eqb (k % record_size) 0 f.whole,
      le-leb (record_size * p) k f.room,
      le-leb k (record_size * most_pairs) f.pairs-high,
      eq-eqb l.live m f.live,
      eq-eqb l.aimed.down n f.down,
      eq-eqb l.aimed.estimates n f.estimates,
      eq-eqb l.trip.elapsed n f.elapsed,
      eq-eqb l.built.leaving m f.leaving,
      eq-eqb l.built.groups (suc n) f.groups,
    )

-- question 9 passes
pub good-fits : {card : List ℕ} {s : State} → Good card s → fitting card s ≡ true
unfolding question9
good-fits {card} {s} g =
    rw (g.n-is, g.m-is, g.pairs_is, eq-eqb (length card) s.header.card (sym g.card-is), facts-lengths g.lengths)

-- a live time is closed, or from the base time to the largest one
pub settable_slower : (b : Total) (x : Total) → settable b x ≡ true → b ≼ x
settable_slower b none h = tt
settable_slower none (some t) h = absurd (true_false h refl)
settable_slower (some b) (some t) h = leb-true b t (and_true (leb b t) (leb t most_time) h).0

pub settable-most : (b : Total) (t : ℕ) → settable b (some t) ≡ true → t ≤ most_time
settable-most none t h = absurd (true_false h refl)
settable-most (some b) t h = leb-true t most_time (and_true (leb b t) (leb t most_time) h).1

pub good_slower : {card : List ℕ} {s : State} → Good card s → Slower (map_on card).base (live_of s.areas.live)
good_slower {card} {s} g =
    record { no_faster = λ i l. settable_slower ((map_on card).base.cost i) (live_of s.areas.live i) (g.times i l) }

-- ---- reached through up times

module _ (M : Map) where
  pub fills_self : (v : ℕ) → fills M v v ≡ true
  fills_self v = path-reaches (weights M) M.vertices (rank M v) (rank M v) empty

  pub fills-on : (j v u : ℕ) → fills M j v ≡ true → fills M v u ≡ true → fills M j u ≡ true
  fills-on j v u p q =
      let w = weights M in
      let n = M.vertices in
      path-reaches w n (rank M j) (rank M u)
      (path_join (reaches-path w n (rank M j) (rank M v) p).1 (reaches-path w n (rank M v) (rank M u) q).1)

module _ (M : Map) (z : ℕ) (p : ℕ → Bool) (e : List ℕ) where
  pub filled-length : length (filled M z p e) ≡ M.vertices
  filled-length = listed-length M.vertices _

  pub filled_yes : (v : ℕ) → v < M.vertices → p v ≡ true → get_or (filled M z p e) v 0 ≡ word (estimate_of M z v)
  filled_yes v l h = listed_at M.vertices (λ v. cond (p v) (word (estimate_of M z v)) (get_or e v 0)) v l ∙ rw h

  pub filled-no : (v : ℕ) → v < M.vertices → p v ≡ false → get_or (filled M z p e) v 0 ≡ get_or e v 0
  filled-no v l h = listed_at M.vertices (λ v. cond (p v) (word (estimate_of M z v)) (get_or e v 0)) v l ∙ rw h

  -- entries stay unasked or filled
  pub filled-entries : UpClosed M p → ((v : ℕ) → v < M.vertices → (get_or e v 0 ≡ unasked) ⊎ Filled M z e v)
      → (v : ℕ) → v < M.vertices → (get_or (filled M z p e) v 0 ≡ unasked) ⊎ Filled M z (filled M z p e) v
  filled-entries closed old v l = go (decide (p v)) (old v l)
    where
      keep : Filled M z e v → (u : ℕ) → u < M.vertices → fills M v u ≡ true → Tested (p u)
          → get_or (filled M z p e) u 0 ≡ word (estimate_of M z u)
      keep f u lu r (inl q) = filled_yes u lu q
      keep f u lu r (inr q) = filled-no u lu q ∙ f u lu r

      go : Tested (p v) → (get_or e v 0 ≡ unasked) ⊎ Filled M z e v
          → (get_or (filled M z p e) v 0 ≡ unasked) ⊎ Filled M z (filled M z p e) v
      go (inl q) o = inr (λ u lu r. filled_yes u lu (closed v u q r))
      go (inr q) (inl o) = inl (filled-no v l q ∙ o)
      go (inr q) (inr f) = inr (λ u lu r. keep f u lu r (decide (p u)))

pub asks-closed : (M : Map) (live : List ℕ) (s z : ℕ) → UpClosed M (asks M live s z)
unfolding go_fills
asks-closed M live s z v u h r =
    let p : ℕ → Bool = go_asks M (live_of live) s z (history (search_of M live s z)) in
    let k = any_below_true M.vertices (λ a. p a && fills M a v) h in
    let q = and_true (p k.0) (fills M k.0 v) k.2 in
    true_any_below M.vertices (λ a. p a && fills M a u) k.0 k.1
    (true_and (p k.0) (fills M k.0 u) q.0 (fills-on M k.0 v u q.1 r))

-- what either of two searches asks
pub either-closed : (M : Map) (live live' : List ℕ) (s z : ℕ) → UpClosed M (either_asks M live live' s z)
either-closed M live live' s z v u h r = go (or_true (asks M live s z v) (asks M live' s z v) h)
  where
    go : (asks M live s z v ≡ true) ⊎ (asks M live' s z v ≡ true) → either_asks M live live' s z u ≡ true
    go (inl a) = true_or_left (asks M live' s z u) (asks-closed M live s z v u a r)
    go (inr a) = true_or_right (asks M live s z u) (asks-closed M live' s z v u a r)

-- ---- every call keeps it

unless-accepted : (x : Option Refusal) (s : State) (l : Lent) (r : Step) → (unless x s l r).answer ≡ Accepted → x ≡ none
unless-accepted none s l r e = refl
unless-accepted (some q) s l r e = absurd (not_accepted refl e)

pub unless-none : (x : Option Refusal) (s : State) (l : Lent) (r : Step) → x ≡ none → unless x s l r ≡ r
unless-none x s l r e = rw e

pub prepared-facts : (card : List ℕ) (a : Areas) → (prepare card a).answer ≡ Accepted → PreparedFacts card a
unfolding prepare areas_refusal room_refusal
prepared-facts card a e =
    let M = map_on card in
    let x = unless-accepted (areas_refusal card a) _ _ _ e in
    let y = unless-accepted (room_refusal M a) _ _ _ (rw x at e) in
    let p = and_then-none (card_refusal card) _ x in
    let q = ask-none (lengths_fit M.vertices M.base.arcs 0 (lengths a)) AreaLengths none p.1 in
    let k = ask-none (leb (record_size * length (pairs_of M)) (length a.built.pairs)) Room none y in
    record {
      card-ok = p.0;
      sizes = lengths-facts M.vertices M.base.arcs 0 (lengths a) q.0;
      room = leb-true (record_size * length (pairs_of M)) (length a.built.pairs) k.0;
      leaves = rw (x, y);
    }

-- and conversely: what passes questions 1 to 8 is accepted
pub prepare-accepts : (card : List ℕ) (a : Areas) → card_refusal card ≡ none
    → LengthFacts (map_on card).vertices (map_on card).base.arcs 0 (lengths a)
    → record_size * length (pairs_of (map_on card)) ≤ length a.built.pairs → (prepare card a).answer ≡ Accepted
unfolding prepare areas_refusal room_refusal
prepare-accepts card a c f r =
    let M = map_on card in
    let x : areas_refusal card a ≡ none =
    rw c (ask-pass (lengths_fit M.vertices M.base.arcs 0 (lengths a)) AreaLengths (facts-lengths f) refl) in
    let fits = le-leb (record_size * length (pairs_of M)) (length a.built.pairs) r in
    let y : room_refusal M a ≡ none = ask-pass (leb (record_size * length (pairs_of M)) (length a.built.pairs)) Room fits refl in
    rw (x, y)

pub ranks-length : (l : List Pair) → length (rank_words l) ≡ record_size * length l
ranks-length [] = refl
ranks-length (p ∷ l) = let h = ranks-length l in omega (arith, h)

pub times-length : (l : List Pair) → length (time_words l) ≡ record_size * length l
times-length [] = refl
times-length (p ∷ l) = let h = times-length l in omega (arith, h)

zeros-length : (l : List ℕ) (k : ℕ) → length l ≤ k → length (zeros_after l k) ≡ k
zeros-length l k h =
    let e = length-append l (replicate (k - length l) 0) in
    let r = length-replicate {A = ℕ} (k - length l) 0 in
    omega (arith, e, r)

-- both have room for all pairs where one has
module _ (M : Map) (k : ℕ) (h : record_size * length (pairs_of M) ≤ k) where
  pub records_in-length : length (records_in M k) ≡ k
  records_in-length = zeros-length (rank_words (pairs_of M)) k (omega (arith, ranks-length (pairs_of M)))

  pub times_in-length : length (times_in M k) ≡ k
  times_in-length = zeros-length (time_words (pairs_of M)) k (omega (arith, times-length (pairs_of M)))

-- base times are settable
base-settable : (b : ℕ) → b ≤ most_time → settable (some b) (of_word b) ≡ true
unfolding of_word
base-settable b h = rw (ne_eqb b none_word (λ e. omega arith), le-leb b b (omega arith), le-leb b most_time h)

pub fresh-good : (card : List ℕ) (a : Areas) → PreparedFacts card a → Good card (fresh card a)
fresh-good card a f =
    let M = map_on card in
    let n = M.vertices in
    let c = card-facts card f.card-ok in
    let k : length (records_in M (length a.built.pairs)) ≡ length a.built.pairs =
    records_in-length M (length a.built.pairs) f.room in
    record {
      accepted = f.card-ok;
      n-is = refl;
      m-is = refl;
      pairs_is = refl;
      card-is = refl;
      lengths = record {
        ranks = listed-length n _;
        whole = rw k f.sizes.whole;
        room = rw k f.room;
        pairs-high = rw k f.sizes.pairs-high;
        times = times_in-length M (length a.built.pairs) f.room ∙ sym k;
        live = listed-length M.base.arcs _;
        down = length-replicate n none_word;
        estimates = length-replicate n unasked;
        elapsed = length-replicate n none_word;
        leaving = start_of-all M.base.tail M.base.arcs n (λ i l. c.valid.inside.tails i l);
        groups = listed-length (suc n) _;
      };
      ranks_are = refl;
      leaving-is = refl;
      groups_are = refl;
      pairs_are = ap (records_in M) (sym k);
      times_are = ap (times_in M) (sym k);
      times = λ i l. rw (listed_at M.base.arcs (λ i. word (M.base.cost i)) i l)
          (base-settable (get_or (rows_of card).roads (3 * i + 2) 0) (c.roads i l).high);
      aims = record { downs = refl; entries = refl };
    }

pub prepared-good : (card : List ℕ) (a : Areas) → (prepare card a).answer ≡ Accepted → Good card (prepare card a).state
prepared-good card a e = let f = prepared-facts card a e in rw f.leaves (fresh-good card a f)

-- a refused call leaves the state
unless-good : {card : List ℕ} {s : State} (x : Option Refusal) (l : Lent) (r : Step)
    → Good card s → (x ≡ none → Good card r.state) → Good card (unless x s l r).state
unless-good none l r g f = f refl
unless-good (some q) l r g f = g

aims-filled : (M : Map) (t : Target) (p : ℕ → Bool) (d e : List ℕ)
    → is_at t ≡ true → UpClosed M p → Aims M t d e → Aims M t d (filled M (target_of t) p e)
aims-filled M (At z) p d e h closed a =
    record { below = a.below; downs = a.downs; entries = filled-entries M z p e closed a.entries }
aims-filled M Absent p d e h closed a = absurd (true_false h refl)

-- every stop that question 12 passes is a junction
pub all-below : (n : ℕ) (stops : List ℕ) → all_below n stops ≡ true → Below n stops
all-below n [] h v m = absurd (Memᴰ.not-nil m)
all-below n (w ∷ stops) h v m =
    let k = and_true (ltb w n) (all_below n stops) h in
    go (ltb-true w n k.0) (all-below n stops k.1) (Memᴰ.cases_cons m)
  where
    go : w < n → Below n stops → (v ≡ w) ⊎ Memᴰ v stops → v < n
    go lw rest (inl e) = rw e lw
    go lw rest (inr k) = rest v k

-- and so are those after the first
pub below_further : {n : ℕ} (stops : List ℕ) → Below n stops → Below n (drop 1 stops)
below_further [] below = below
below_further (w ∷ stops) below = λ v m. below v (Memᴰ.tail m)

module _ {card : List ℕ} {s : State} (g : Good card s) where
  leaving-good : {z : Target} {live : List ℕ} {a : Aimed (List ℕ)} {t : Trip (List ℕ)}
      → Leaves (map_on card) z live a t → Good card (leaving s z live a t)
  leaving-good k =
      let f = g.lengths in
      record {
        accepted = g.accepted;
        n-is = g.n-is;
        m-is = g.m-is;
        pairs_is = g.pairs_is;
        card-is = g.card-is;
        lengths = record {
          ranks = f.ranks;
          whole = f.whole;
          room = f.room;
          pairs-high = f.pairs-high;
          times = f.times;
          live = k.live-length;
          down = k.down-length;
          estimates = k.estimates-length;
          elapsed = k.elapsed-length;
          leaving = f.leaving;
          groups = f.groups;
        };
        ranks_are = g.ranks_are;
        pairs_are = g.pairs_are;
        times_are = g.times_are;
        leaving-is = g.leaving-is;
        groups_are = g.groups_are;
        times = k.times;
        aims = k.aims;
      }

  -- ---- the questions that passed, after 9

  pub after_9 : (c : Call) → asked_of card s c ≡ none → refusal_by (map_on card).base.cost s.header c ≡ none
  after_9 c h = (ask-none (fitting card s) Lengths _ h).1

  junction-below : {j : ℕ} → ltb j s.header.n ≡ true → j < (map_on card).vertices
  junction-below {j} h = rw g.n-is at (ltb-true j s.header.n h)

  pub set-passed : (i t : ℕ) → set_refusal (known_of (map_on card).base.cost s.header) i t ≡ none
      → (i < (map_on card).base.arcs) × (settable ((map_on card).base.cost i) (of_word t) ≡ true)
  unfolding set_refusal
  set-passed i t h =
      let q = ask-none (ltb i s.header.m) NoRoad _ h in
      let k = ask-none (settable ((map_on card).base.cost i) (of_word t)) NotAllowed none q.1 in
      (rw g.m-is at (ltb-true i s.header.m q.0), k.0)

  pub aim-passed : (j : ℕ) → aim_refusal (known_of (map_on card).base.cost s.header) j ≡ none → j < (map_on card).vertices
  unfolding aim_refusal
  aim-passed j h = junction-below (ask-none (ltb j s.header.n) NoJunction none h).0

  pub estimate-passed : (j : ℕ) → estimate_refusal (known_of (map_on card).base.cost s.header) j ≡ none
      → (j < (map_on card).vertices) × (is_at s.header.target ≡ true)
  unfolding estimate_refusal
  estimate-passed j h =
      let q = ask-none (ltb j s.header.n) NoJunction _ h in
      let k = ask-none (is_at s.header.target) NoTarget none q.1 in
      (junction-below q.0, k.0)

  -- the class that 18 passed
  class-below : {c : ℕ} → ltb c classes ≡ true → c < classes
  class-below {c} h = ltb-true c classes h

  pub go-passed : (c j r l : ℕ) → go_refusal (known_of (map_on card).base.cost s.header) c j r l ≡ none → GoPassed g c j r l
  unfolding go_refusal
  go-passed c j r l h =
      let n = s.header.n in
      let v = ask-none (ltb c classes) NoClass _ h in
      let q = ask-none (ltb j n) NoJunction _ v.1 in
      let k = ask-none (is_at s.header.target) NoTarget _ q.1 in
      let x = ask-none (leb n r && leb n l) LentLengths none k.1 in
      let y = and_true (leb n r) (leb n l) x.0 in
      record {
        class = class-below v.0;
        start = junction-below q.0;
        target = k.0;
        route = rw g.n-is at (leb-true n r y.0);
        log = rw g.n-is at (leb-true n l y.1);
      }

  pub preview-passed : (c i t j w : ℕ) → preview_refusal (known_of (map_on card).base.cost s.header) c i t j w ≡ none
      → PreviewPassed g c i t j
  unfolding preview_refusal
  preview-passed c i t j w h =
      let k = known_of (map_on card).base.cost s.header in
      let q = ask-none (eqb w (work_size s.header.n)) Lengths _ h in
      let v = ask-none (ltb c classes) NoClass _ q.1 in
      let x = and_then-none (set_refusal k i t) _ v.1 in
      let y = estimate-passed j x.1 in
      record { class = class-below v.0; settable-there = x.0; start = y.0; aimed = y.1 }

  pub stops-passed : (c : ℕ) (stops : List ℕ) (r l : ℕ) → stops_refusal (known_of (map_on card).base.cost s.header) c stops r l ≡ none
      → StopsPassed g c stops r l
  unfolding stops_refusal
  stops-passed c stops r l h =
      let n = s.header.n in
      let k = length stops in
      let q = ask-none (leb fewest_stops k && leb k most_stops) StopCount _ h in
      let v = ask-none (ltb c classes) NoClass _ q.1 in
      let x = ask-none (all_below n stops) NoJunction _ v.1 in
      let y = ask-none (leb (k * n) r && leb n l) LentLengths none x.1 in
      let count = and_true (leb fewest_stops k) (leb k most_stops) q.0 in
      let room = and_true (leb (k * n) r) (leb n l) y.0 in
      record {
        class = class-below v.0;
        fewest = leb-true fewest_stops k count.0;
        most = leb-true k most_stops count.1;
        below = rw g.n-is at (all-below n stops x.0);
        route = rw g.n-is at (leb-true (k * n) r room.0);
        log = rw g.n-is at (leb-true n l room.1);
      }

  -- ---- what each call leaves

  pub set-good : (i t : ℕ) (l : Lent) → set_refusal (known_of (map_on card).base.cost s.header) i t ≡ none
      → Good card (set_made s i t l).state
  set-good i t l h =
      let q = set-passed i t h in
      leaving-good (record {
        live-length = length-set s.areas.live i t ∙ g.lengths.live;
        down-length = g.lengths.down;
        estimates-length = g.lengths.estimates;
        elapsed-length = g.lengths.elapsed;
        times = λ k lk. at k lk q.0 q.1 (ℕ_discrete k i);
        aims = g.aims;
      })
    where
      at : (k : ℕ) → k < (map_on card).base.arcs → i < (map_on card).base.arcs → settable ((map_on card).base.cost i) (of_word t) ≡ true
          → Dec (k ≡ i) → settable ((map_on card).base.cost k) (live_of (set s.areas.live i t) k) ≡ true
      at k lk li ok (yes e) = rw (e, get_or-set_same s.areas.live i t 0 (omega (arith, g.lengths.live))) ok
      at k lk li ok (no e) = rw (get_or-set_other s.areas.live i k t 0 e) (g.times k lk)

  pub aim-good : (j : ℕ) (l : Lent) → j < (map_on card).vertices → Good card (aim_made (map_on card) s j l).state
  aim-good j l lj =
      let M = map_on card in
      leaving-good (record {
        live-length = g.lengths.live;
        down-length = listed-length M.vertices _;
        estimates-length = length-replicate M.vertices unasked;
        elapsed-length = g.lengths.elapsed;
        times = g.times;
        aims = record {
          below = lj;
          downs = refl;
          entries = λ v lv. inl (get_or-replicate M.vertices v unasked 0 lv);
        };
      })

  -- estimates filled by p, up to the highest
  fill_good : (p : ℕ → Bool) (t : Trip (List ℕ)) → length t.elapsed ≡ (map_on card).vertices → is_at s.header.target ≡ true
      → UpClosed (map_on card) p
      → Good card (leaving s s.header.target s.areas.live
      (with_estimates s.areas.aimed (filled (map_on card) (target_of s.header.target) p s.areas.aimed.estimates)) t)
  fill_good p t lt q closed =
      let M = map_on card in
      leaving-good (record {
        live-length = g.lengths.live;
        down-length = g.lengths.down;
        estimates-length = filled-length M (target_of s.header.target) p s.areas.aimed.estimates;
        elapsed-length = lt;
        times = g.times;
        aims = aims-filled M s.header.target p s.areas.aimed.down s.areas.aimed.estimates q closed g.aims;
      })

  pub met-good : (c : ℕ) → Good card (as_met g c)
  met-good c =
      let live = s.areas.live in
      let access = access_of (access_in card) in
      leaving-good (record {
        live-length = classes-of.times-length access c live ∙ g.lengths.live;
        down-length = g.lengths.down;
        estimates-length = g.lengths.estimates;
        elapsed-length = g.lengths.elapsed;
        times = λ i l. times-settable access c live ((map_on card).base.cost i) i (omega (arith, l, g.lengths.live)) (g.times i l);
        aims = g.aims;
      })

  -- and its times are those in force, as the class meets them
  pub met-lives : (c : ℕ) → c < classes → live_of (met_times g c) ≡ class_live (access_of (access_in card)) c (live_of s.areas.live)
  met-lives c lc = class-lives (access_in card) s.areas.live c lc (short (card-facts card g.accepted).access-length)
    where
      short : (length (access_in card) ≡ 0) ⊎ (length (access_in card) ≡ (map_on card).base.arcs)
          → length (access_in card) ≤ length s.areas.live
      short (inl e) = omega (arith, e)
      short (inr e) = omega (arith, e, g.lengths.live)

  go-good : (c j : ℕ) (l : Lent) → is_at s.header.target ≡ true → Good card (go_made (card_map card) s c j l).state
  go-good c j l h =
      let M = map_on card in
      let z = target_of s.header.target in
      fill_good (asks M (met_times g c) j z) _ (listed-length M.vertices _) h (asks-closed M (met_times g c) j z)

-- a leg of a list of stops is an aim and a go
pub leg-good : {card : List ℕ} {s : State} → Good card s → (c a b : ℕ) (l : Lent) → b < (map_on card).vertices
    → Good card (leg_made (card_map card) c s a b l).state
leg-good g c a b l lb = go-good (aim-good g b l lb) c a l refl

-- so all legs up to the last, or to one that has no chain, keep it
leg_or_on : {card : List ℕ} (x : Total) (k : ℕ) (u : Step) (j : Journey) → Good card u.state → Good card j.state
    → Good card (with_leg x k u j).state
leg_or_on none k u j g on = g
leg_or_on (some t) k u j g on = on

pub journey-good : {card : List ℕ} (c : ℕ) (s : State) (a : ℕ) (stops : List ℕ) (l : Lent) → Good card s
    → Below (map_on card).vertices stops → Good card (journey (card_map card) c s a stops l).state
journey-good c s a [] l g below = g
journey-good {card} c s a (b ∷ stops) l g below =
    let C = card_map card in
    let G = search_of (map_on card) (met_times g c) a b in
    let k = length (route_of G) in
    let u = leg_made C c s a b l in
    let left = leg-good g c a b l (below b (Memᴰ.head refl)) in
    let on = journey-good c u.state b stops (past k u.lent) left (λ v m. below v (Memᴰ.tail m)) in
    leg_or_on (total_of G) k u (journey C c u.state b stops (past k u.lent)) left on

module _ {card : List ℕ} {s : State} (g : Good card s) where
  made-good : (a : Asked) (l : Lent) → refusal_by (map_on card).base.cost s.header (record { asked = a; lent = l }) ≡ none
      → Good card (made (card_map card) s a l).state
  made-good (Set i t) l h = set-good g i t l h
  made-good (Aim j) l h = aim-good g j l (aim-passed g j h)
  made-good (Estimate j) l h =
      let M = map_on card in
      fill_good g (fills M j) s.areas.trip g.lengths.elapsed (estimate-passed g j h).1 (λ v u x y. fills-on M j v u x y)
  made-good (Go c j) l h = go-good g c j l (go-passed g c j (length l.route) (length l.log) h).target
  made-good (Preview c i t j w) l h =
      let M = map_on card in
      let live = met_times g c in
      let live' = class_times (access_of (access_in card)) c (set s.areas.live i t) in
      let z = target_of s.header.target in
      fill_good g (either_asks M live live' j z) s.areas.trip g.lengths.elapsed (preview-passed g c i t j w h).aimed
      (either-closed M live live' j z)
  made-good (Stops c stops) l h =
      journey-good c s (get_or stops 0 0) (drop 1 stops) l g
      (below_further stops (stops-passed g c stops (length l.route) (length l.log) h).below)

  pub step-good : (c : Call) → Good card (step card s c).state
  unfolding step
  step-good c = unless-good (asked_of card s c) c.lent _ g (λ h. made-good c.asked c.lent (after_9 g c h))

pub run-good : {card : List ℕ} (s : State) (l : List Call) → Good card s → Good card (run card s l)
run-good s [] g = g
run-good {card} s (c ∷ l) g = run-good (step card s c).state l (step-good g c)

-- ---- after a refused preparing

-- it hands back a header of zeros
prepare-cases : (card : List ℕ) (a : Areas) → ((prepare card a).answer ≡ Accepted) ⊎ ((prepare card a).state.header ≡ zero_header)
unfolding prepare
prepare-cases card a = go (areas_refusal card a) (room_refusal (map_on card) a)
  where
    go : (x y : Option Refusal)
        → let r = unless x (unprepared a) none_lent
        (unless y (unprepared (zeroed a)) none_lent (answering Accepted (fresh card a) none_lent)) in
        (r.answer ≡ Accepted) ⊎ (r.state.header ≡ zero_header)
    go (some q) y = inr refl
    go none (some q) = inr refl
    go none none = inl refl

-- with which every call is refused, by 10, 12, 16 or 18 where 9 passes
pub zero-refused : (base : ℕ → Total) (h : Header) (c : Call) → h.n + h.m ≡ 0 → (q : Refusal) × (refusal_by base h c ≡ some q)
unfolding set_refusal aim_refusal estimate_refusal go_refusal preview_refusal stops_refusal
zero-refused base h c e = go c.asked c.lent
  where
    no-road : (i : ℕ) → ltb i h.m ≡ false
    no-road i = le-ltb i h.m (omega (arith, e))

    no-junction : (j : ℕ) → ltb j h.n ≡ false
    no-junction j = le-ltb j h.n (omega (arith, e))

    go : (a : Asked) (l : Lent) → (q : Refusal) × (refusal_by base h (record { asked = a; lent = l }) ≡ some q)
    go (Set i t) l = (NoRoad, rw (no-road i))
    go (Aim j) l = (NoJunction, rw (no-junction j))
    go (Estimate j) l = (NoJunction, rw (no-junction j))
    go (Go c j) l = driven (decide (ltb c classes))
      where
        driven : Tested (ltb c classes) → (q : Refusal) × (refusal_by base h (record { asked = Go c j; lent = l }) ≡ some q)
        driven (inl e) = (NoJunction, rw (e, no-junction j))
        driven (inr e) = (NoClass, rw e)
    go (Preview c i t j w) l = preview (decide (eqb w (work_size h.n))) (decide (ltb c classes))
      where
        preview : Tested (eqb w (work_size h.n)) → Tested (ltb c classes)
            → (q : Refusal) × (refusal_by base h (record { asked = Preview c i t j w; lent = l }) ≡ some q)
        preview (inl e) (inl d) = (NoRoad, rw (e, d, no-road i))
        preview (inl e) (inr d) = (NoClass, rw (e, d))
        preview (inr e) d = (Lengths, rw e)
    go (Stops c stops) l = listed stops
      where
        listed : (stops : List ℕ) → (q : Refusal) × (refusal_by base h (record { asked = Stops c stops; lent = l }) ≡ some q)
        listed [] = (StopCount, refl)
        listed (v ∷ stops) =
            counted (decide (leb fewest_stops (suc (length stops)) && leb (suc (length stops)) most_stops)) (decide (ltb c classes))
          where
            counted : Tested (leb fewest_stops (suc (length stops)) && leb (suc (length stops)) most_stops) → Tested (ltb c classes)
                → (q : Refusal) × (refusal_by base h (record { asked = Stops c (v ∷ stops); lent = l }) ≡ some q)
            counted (inl e) (inl d) = (NoJunction, rw (e, d, no-junction v))
            counted (inl e) (inr d) = (NoClass, rw (e, d))
            counted (inr e) d = (StopCount, rw e)

ask-refuses : (b : Bool) (p q : Refusal) (s : State) (l : Lent) (r : Step) → (unless (ask b p (some q)) s l r).state ≡ s
ask-refuses true p q s l r = refl
ask-refuses false p q s l r = refl

pub zero-stays : (card : List ℕ) (s : State) (c : Call) → s.header ≡ zero_header → (step card s c).state ≡ s
unfolding step
zero-stays card s c e =
    let z = zero-refused (map_on card).base.cost s.header c (ap (λ (h : Header). h.n + h.m) e) in
    rw z.1 (ask-refuses (fitting card s) Lengths z.0 s c.lent _)

run-zero : (card : List ℕ) (s : State) (l : List Call) → s.header ≡ zero_header → run card s l ≡ s
run-zero card s [] e = refl
run-zero card s (c ∷ l) e = let k = zero-stays card s c e in ap (λ (t : State). run card t l) k ∙ run-zero card s l e

-- ---- every state that a list of calls leaves

left-cases : {card : List ℕ} {s : State} → Left card s → Good card s ⊎ (s.header ≡ zero_header)
left-cases {card} {s} w = go (prepare-cases card w.lent)
  where
    go : ((prepare card w.lent).answer ≡ Accepted) ⊎ ((prepare card w.lent).state.header ≡ zero_header)
        → Good card s ⊎ (s.header ≡ zero_header)
    go (inl e) = inl (rw w.leaves at (run-good (prepare card w.lent).state w.calls (prepared-good card w.lent e)))
    go (inr e) =
        let left = sym w.leaves ∙ run-zero card (prepare card w.lent).state w.calls e in
        inr (ap (λ (t : State). t.header) left ∙ e)

-- where the header has a junction or a road
pub left-good : {card : List ℕ} {s : State} → Left card s → 0 < s.header.n + s.header.m → Good card s
left-good {card} {s} w some-there = go (left-cases w)
  where
    go : Good card s ⊎ (s.header ≡ zero_header) → Good card s
    go (inl g) = g
    go (inr k) = absurd (omega (arith, some-there, ap (λ (h : Header). h.n) k, ap (λ (h : Header). h.m) k))

-- a card without bytes, which alone fits a header of zeros, names bodies for no junction and no road
empty-usable : (card : List ℕ) → length card ≡ 0 → usable card zero_header ≡ true
unfolding named names entry_of word_at
empty-usable [] e = refl
empty-usable (b ∷ card) e = absurd (omega arith)

-- n and m are in range, and the card's table names bodies for them
pub left-usable : {card : List ℕ} {s : State} → Left card s → fitting card s ≡ true → usable card s.header ≡ true
unfolding question9
left-usable {card} {s} w fits = go (left-cases w)
  where
    go : Good card s ⊎ (s.header ≡ zero_header) → usable card s.header ≡ true
    go (inl g) =
        let c = card-facts card g.accepted in
        rw (
          g.n-is,
          g.m-is,
          le-leb (map_on card).vertices most_junctions c.vertices-high,
          le-leb (map_on card).base.arcs most_roads c.arcs-high,
          c.named-is,
        )
    go (inr k) =
        let h = s.header in
        let q = and_true (eqb (length card) h.card) (lengths_fit h.n h.m h.pairs (lengths s.areas)) fits in
        let none-there : length card ≡ 0 = eqb-true (length card) h.card q.0 ∙ ap (λ (x : Header). x.card) k in
        rw k (empty-usable card none-there)
