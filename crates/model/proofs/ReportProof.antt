-- A8 holds of every state that a list of calls from an accepted preparing left: one report moves a trip by at most what it says
-- (`report_moves`), a closed road makes no total smaller (`report_closes`), an opened one none larger (`report_opens`). A report on a road
-- that is barred to the class moves nothing (`report_barred`), and none moves an estimate (`report_estimate`). Assumes nothing.
use Rattle.std.proofs.Common.{◌∙◌, ap, subst₂, sym, arith}
use Rattle.std.specs.Prelude.{◌≡◌, refl, false, true, List, ◌+◌, ◌<◌, ℕ, ℤ, length, set}
use Rattle.std.proofs.Math.Option.{Option, none, some}
use Rattle.graph.specs.Total.{Total, ◌≼◌}
use Rattle.graph.specs.Delay.{Delays, Grown}
use Rattle.graph.proofs.Delay.{go-delays, go-grows, raised_down, raised_up}
use Rattle.graph.specs.Map.{estimate_of}
use Rattle.model.specs.Word.{closed_word, none_word, of_word, word}
use Rattle.model.proofs.Word.{of_word-none, of_word-some}
use Rattle.model.specs.Types.{Answer, Estimated, Lengths, Target}
use Rattle.model.specs.Limits.{classes}
use Rattle.model.specs.Layout.{access_in}
use Rattle.model.specs.Classes.{access_of, admits}
use Rattle.model.specs.Card.{card_map, map_on}
use Rattle.model.specs.State.{Lent, State, Step, fitting, none_lent, prepare}
use Rattle.model.specs.Machine.{is_at, target_of}
use Rattle.model.specs.Set.{set_made}
use Rattle.model.specs.Go.{by_time, go_answer, live_of, search_of}
use Rattle.model.specs.Preview.{change_of, preview_answer, work_size}
use Rattle.model.specs.Calls.{Call, Estimate, Go, Left, Preview, Set, calling, made, refusal_by, step}
use Rattle.model.specs.Promises.{CallContract}
use Rattle.model.specs.Report.{Calls, CanGo, CanSet, Closes, Larger, LeftAccepted, Makes, Moves, Opens, Persists, Reported, Room}
use Rattle.model.specs.Report.{Smaller, TellsTotal}
use Rattle.model.proofs.Laws.{ask-pass}
use Rattle.model.proofs.Accept.{card-facts}
use Rattle.model.specs.Good.{Good, met_times}
use Rattle.model.proofs.Good.{good-fits, good_slower, met-good, met-lives, prepared-good, run-good, set-good}
use Rattle.model.proofs.Good.{unless-none}
use Rattle.model.proofs.GoProof.{in_force}
use Rattle.model.proofs.ReportLaws.{class-grown, estimate-asked, go_asked, grows, no-larger, no-smaller, preview-asked, set-asked}
use Rattle.model.proofs.ReportLaws.{set-closes, set_lowers, set-opens, set_raises, shrinks, times-barred}
use Rattle.model.specs.ReportProof.{answers_at, goes_at, total_at}

abbrev previews_at : (card live live' : List ℕ) → Target → (class start : ℕ) → Answer
previews_at card live live' z c j = preview_answer (total_at card live z c j) (total_at card live' z c j)

pub tells-total : (x : Total) (c k : ℕ) → TellsTotal (go_answer x c k) x
tells-total none c k = (c, refl)
tells-total (some t) c k = (c, k, refl)

-- a call that no question refuses is made
pub asked-made : {card : List ℕ} {s : State} → Good card s → (c : Call) → refusal_by (map_on card).base.cost s.header c ≡ none
    → step card s c ≡ made (card_map card) s c.asked c.lent
unfolding step
asked-made {card} {s} g c h = unless-none _ s c.lent _ (ask-pass (fitting card s) Lengths (good-fits g) h)

module _ {card : List ℕ} {s : State} (r : LeftAccepted card s) where
  pub reached-good : Good card s
  reached-good = rw r.leaves at (run-good (prepare card r.areas).state r.calls (prepared-good card r.areas r.accepted))

  pub reached-left : Left card s
  reached-left = record { lent = r.areas; calls = r.calls; leaves = r.leaves }

  -- what the unit answers and leaves there, to a call that no question refuses
  made-there : {c : Call} {d : Step} → CallContract card s c d → refusal_by (map_on card).base.cost s.header c ≡ none
      → d ≡ made (card_map card) s c.asked c.lent
  made-there {c} m asked = m.exact reached-left ∙ asked-made reached-good c asked

  set_there : {i u : ℕ} {l : Lent} {d : Step} → CanSet card s i u → CallContract card s (calling (Set i u) l) d → d ≡ set_made s i u l
  set_there {i} {u} may m = made-there m (set-asked (map_on card).base.cost s.header i u (omega (arith, may.road_in)) may.time_in)

  module _ {c j : ℕ} (can : CanGo s c j) where
    class_in : c < classes
    class_in = omega (arith, can.class_in)

    aimed : is_at s.header.target ≡ true
    aimed = ap is_at can.aimed

    go-there : {l : Lent} {d : Step} → Room s l → CallContract card s (calling (Go c j) l) d
        → d.answer ≡ goes_at card s.areas.live s.header.target c j
    go-there room m =
        let asked = go_asked (map_on card).base.cost s.header can.start_in aimed class_in room.route room.log in
        ap (λ (y : Step). y.answer) (made-there m asked)

    estimate-there : {l : Lent} {d : Step} → CallContract card s (calling (Estimate j) l) d
        → d.answer ≡ Estimated (word (estimate_of (map_on card) (target_of s.header.target) j))
    estimate-there m =
        ap (λ (y : Step). y.answer) (made-there m (estimate-asked (map_on card).base.cost s.header can.start_in aimed))

    preview-there : {i u w : ℕ} {l : Lent} {d : Step} → CanSet card s i u → w ≡ work_size s.header.n
        → CallContract card s (calling (Preview c i u j w) l) d
        → d.answer ≡ previews_at card s.areas.live (set s.areas.live i u) s.header.target c j
    preview-there {i} {u} {w} may size m =
        let li : i < s.header.m = omega (arith, may.road_in) in
        let asked = preview-asked (map_on card).base.cost s.header can.start_in aimed class_in i u w li may.time_in size in
        ap (λ (y : Step). y.answer) (made-there m asked)

-- what can be asked in s can be asked in any other such state; a trip, with the same target
module _ {card : List ℕ} {s x : State} (r : LeftAccepted card s) (k : LeftAccepted card x) where
  n-same : x.header.n ≡ s.header.n
  n-same = (reached-good k).n-is ∙ sym (reached-good r).n-is

  pub room-there : {l : Lent} → Room s l → Room x l
  room-there o = record { route = omega (arith, o.route, n-same); log = omega (arith, o.log, n-same) }

  can-set_there : {i u : ℕ} → CanSet card s i u → CanSet card x i u
  can-set_there may = record { road_in = rw ((reached-good k).m-is ∙ sym (reached-good r).m-is) may.road_in; time_in = may.time_in }

  pub can_go_there : {c j : ℕ} → CanGo s c j → x.header.target ≡ s.header.target → CanGo x c j
  can_go_there can e = record {
    class_in = can.class_in;
    start_in = omega (arith, can.start_in, n-same);
    target = can.target;
    aimed = e ∙ can.aimed;
  }

-- a go, in a state like s
pub go_answers_there : {card : List ℕ} {s : State} {c j : ℕ} → LeftAccepted card s → CanGo s c j → (m : Makes card s (Go c j))
    → Room s m.lent → m.done.answer ≡ goes_at card s.areas.live s.header.target c j
go_answers_there r can m room =
    let k = m.like.reached in
    go-there k (can_go_there r k can m.like.target) (room-there r k room) m.meets ∙ rw (m.like.live, m.like.target)

-- what a set left has the live times with that one set, and the target
module _ {card : List ℕ} {s : State} {i u : ℕ} (r : LeftAccepted card s) (may : CanSet card s i u) (m : Makes card s (Set i u)) where
  set-done : m.done ≡ set_made m.from i u m.lent
  set-done = set_there m.like.reached (can-set_there r m.like.reached may) m.meets

  pub set-live : m.done.state.areas.live ≡ set s.areas.live i u
  set-live = ap (λ (y : Step). y.state.areas.live) set-done ∙ ap (λ (l : List ℕ). set l i u) m.like.live

  pub set-target : m.done.state.header.target ≡ s.header.target
  set-target = ap (λ (y : Step). y.state.header.target) set-done ∙ m.like.target

-- ---- the totals around one report

module _ {card : List ℕ} {s : State} {c i u j : ℕ} (r : LeftAccepted card s) (can : CanGo s c j) (may : CanSet card s i u) where
  g : Good card s
  g = reached-good r

  -- what the set leaves
  abbrev live' : List ℕ
  live' = set s.areas.live i u

  abbrev after : State
  after = (set_made s i u none_lent).state

  road-below : i < s.header.m
  road-below = omega (arith, may.road_in)

  g' : Good card after
  g' = set-good g i u none_lent (set-asked (map_on card).base.cost s.header i u road-below may.time_in)

  -- the two totals
  abbrev now : Total
  now = total_at card s.areas.live s.header.target c j

  abbrev new : Total
  new = total_at card live' s.header.target c j

  road_in : i < length s.areas.live
  road_in = omega (arith, road-below, g.m-is, g.lengths.live)

  -- the two states differ in one live time; how they do is the same as the class meets them
  met : (d : ℕ) {x y : State} (gx : Good card x) (gy : Good card y) → Grown (live_of x.areas.live) (live_of y.areas.live) i d
      → Grown (live_of (met_times gx c)) (live_of (met_times gy c)) i d
  met d {x} {y} gx gy h =
      let lc = class_in r can in
      subst₂ (λ (f : ℕ → Total) (f' : ℕ → Total). Grown f f' i d) (sym (met-lives gx c lc)) (sym (met-lives gy c lc))
      (class-grown (access_of (access_in card)) c d h)

  start_in : j < (map_on card).vertices
  start_in = omega (arith, can.start_in, g.n-is)

  target_in : target_of s.header.target < (map_on card).vertices
  target_in = in_force g (ap is_at can.aimed)

  -- x and y are the two states, in one order or the other
  module _ {x y : State} (gx : Good card x) (gy : Good card y) where
    no_less : Grown (live_of y.areas.live) (live_of x.areas.live) i 0
        → total_at card x.areas.live s.header.target c j ≼ total_at card y.areas.live s.header.target c j
    no_less h =
        go-grows (card-facts card g.accepted).valid (good_slower (met-good gx c)) (good_slower (met-good gy c)) by_time start_in
        target_in (met 0 gy gx h)

    delays : (d : ℕ) → Grown (live_of x.areas.live) (live_of y.areas.live) i d
        → Grown (live_of y.areas.live) (live_of x.areas.live) i 0
        → Delays d (total_at card x.areas.live s.header.target c j) (total_at card y.areas.live s.header.target c j)
    delays d up down =
        go-delays (card-facts card g.accepted).valid (good_slower (met-good gx c)) (good_slower (met-good gy c)) by_time start_in
        target_in d (met d gx gy up) (met 0 gy gx down)

  -- the road is open at t, and u is a time, too
  pub total_moves : (t : ℕ) → live_of s.areas.live i ≡ some t → u < none_word → Moves t u now new (change_of now new)
  total_moves t open_at low = record { up = up; down = down }
    where
      time : of_word u ≡ some u
      time = of_word-some u low

      up : (d : ℕ) → u ≡ t + d → Persists (Larger d) now new (change_of now new)
      up d e =
          let w = set_raises s.areas.live i u road_in d open_at time e in
          grows d now new (delays g g' d (raised_up w) (raised_down w))

      down : (d : ℕ) → t ≡ u + d → Persists (Smaller d) now new (change_of now new)
      down d e =
          let w = set_lowers s.areas.live i u road_in d open_at time e in
          shrinks d now new (delays g' g d (raised_up w) (raised_down w))

  -- ---- A8

  -- "Estimates remain over all roads", at base times: no report moves them
  pub report_estimate : (before : Makes card s (Estimate j)) (m : Makes card s (Set i u)) (after : Makes card m.done.state (Estimate j))
      → before.done.answer ≡ after.done.answer
  report_estimate b m a =
      let at_b = b.like.target in
      let at_a = a.like.target ∙ set-target r may m in
      estimate-there b.like.reached (can_go_there r b.like.reached can at_b) b.meets
      ∙ ap (λ (z : Target). Estimated (word (estimate_of (map_on card) (target_of z) j))) (at_b ∙ sym at_a)
      ∙ sym (estimate-there a.like.reached (can_go_there r a.like.reached can at_a) a.meets)

  module _ (calls : Calls card s c i u j) where
    go-answers : calls.go.done.answer ≡ goes_at card s.areas.live s.header.target c j
    go-answers = go_answers_there r can calls.go calls.room

    then-answers : calls.then.done.answer ≡ goes_at card live' s.header.target c j
    then-answers =
        let m = calls.then in
        let k = m.like.reached in
        let target = m.like.target ∙ set-target r may calls.set in
        let live = m.like.live ∙ set-live r may calls.set in
        go-there k (can_go_there r k can target) (room-there r k calls.room-then) m.meets ∙ rw (live, target)

    preview-answers : calls.preview.done.answer ≡ previews_at card s.areas.live live' s.header.target c j
    preview-answers =
        let m = calls.preview in
        let k = m.like.reached in
        let size : work_size s.header.n ≡ work_size m.from.header.n = ap work_size (sym (n-same r k)) in
        preview-there k (can_go_there r k can m.like.target) (can-set_there r k may) size m.meets
        ∙ rw (m.like.live, m.like.target)

    -- whatever holds of the two totals
    reported : (R : (now new : Total) → Option ℤ → Type 0) → R now new (change_of now new)
        → Reported R calls.go.done.answer calls.then.done.answer calls.preview.done.answer
    reported R holds = record {
      now = now;
      new = new;
      change = change_of now new;
      goes_before = rw go-answers (tells-total now _ _);
      goes_after = rw then-answers (tells-total new _ _);
      previews = preview-answers;
      holds = holds;
    }

    -- "If one open road's live time goes up by d and stays open ..": the road is open at t, and u is a time, too
    pub report_moves : (t : ℕ) → live_of s.areas.live i ≡ some t → u < none_word
        → Reported (Moves t u) calls.go.done.answer calls.then.done.answer calls.preview.done.answer
    report_moves t open_at low = reported (Moves t u) (total_moves t open_at low)

    -- the road is closed
    pub report_closes : u ≡ closed_word
        → Reported Closes calls.go.done.answer calls.then.done.answer calls.preview.done.answer
    report_closes e =
        reported Closes (no-smaller now new (no_less g g' (set-closes s.areas.live i u road_in (ap of_word e ∙ of_word-none))))

    -- the road was closed
    pub report_opens : live_of s.areas.live i ≡ none
        → Reported Opens calls.go.done.answer calls.then.done.answer calls.preview.done.answer
    report_opens shut = reported Opens (no-larger now new (no_less g' g (set-opens s.areas.live i u road_in shut)))

    -- "a road barred to it counts as closed for that call": no report on it moves anything
    pub report_barred : admits (access_of (access_in card) i) c ≡ false → calls.go.done.answer ≡ calls.then.done.answer
    report_barred bar =
        let z = target_of s.header.target in
        let same = sym (times-barred (access_of (access_in card)) c s.areas.live i u bar) in
        go-answers ∙ ap (λ (times : List ℕ). answers_at (search_of (map_on card) times j z)) same ∙ sym then-answers
