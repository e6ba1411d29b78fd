-- Several reports add up at most (`reports_add_up`), in every state that a list of calls from an accepted preparing left. Assumes nothing.
use Rattle.std.proofs.Common.{◌∙◌, arith}
use Rattle.std.specs.Prelude.{◌≡◌, List, ◌+◌, ◌-◌, ◌<◌, ℕ, ℤ, set}
use Rattle.std.proofs.Math.Option.{Option, none, some}
use Rattle.std.proofs.Math.Decide.{dec_lt}
use Rattle.graph.specs.Total.{Total}
use Rattle.model.specs.State.{State}
use Rattle.model.specs.Calls.{Go}
use Rattle.model.specs.Report.{CanGo, Larger, LeftAccepted, Makes, Moves, Persists, Reports, Room, Smaller, TellsTotal, Within}
use Rattle.model.specs.Report.{no_report, one_more}
use Rattle.model.proofs.ReportProof.{can_go_there, go_answers_there, room-there, set-live, set-target, tells-total, total_moves}
use Rattle.model.specs.ReportProof.{total_at}

-- ---- several reports

within_self : (X : Total) → Within 0 0 X X
within_self none = tt
within_self (some a) = (omega arith, omega arith)

module _ (up down up' down' : ℕ) where
  within_on : (X Y Z : Total) → Within up down X Y → Within up' down' Y Z → Within (up + up') (down + down') X Z
  within_on none none none h k = tt
  within_on none none (some z) h k = absurd k
  within_on none (some y) Z h k = absurd h
  within_on (some x) none Z h k = absurd h
  within_on (some x) (some y) none h k = absurd k
  within_on (some x) (some y) (some z) h k = (omega (arith, h.0, k.0), omega (arith, h.1, k.1))

-- one report
moves_within : {t u : ℕ} {x : Option ℤ} (X Y : Total) → Moves t u X Y x → Within (u - t) (t - u) X Y
moves_within {t} {u} {x} X Y h = go (dec_lt t u)
  where
    larger : (X Y : Total) → t < u → Persists (Larger (u - t)) X Y x → Within (u - t) (t - u) X Y
    larger none none l p = tt
    larger none (some b) l p = absurd p
    larger (some a) none l p = absurd p
    larger (some a) (some b) l p = (omega (arith, p.1, p.2), omega (arith, p.2))

    smaller : (X Y : Total) → (t < u → ⊥) → Persists (Smaller (t - u)) X Y x → Within (u - t) (t - u) X Y
    smaller none none l p = tt
    smaller none (some b) l p = absurd p
    smaller (some a) none l p = absurd p
    smaller (some a) (some b) l p = (omega (arith, p.2), omega (arith, p.1, p.2))

    go : Dec (t < u) → Within (u - t) (t - u) X Y
    go (yes l) = larger X Y l (h.up (u - t) (omega arith))
    go (no l) = smaller X Y l (h.down (t - u) (omega arith))

reports_reached : {card : List ℕ} {s x : State} {up down : ℕ} → Reports card s x up down → LeftAccepted card x
reports_reached (no_report k) = k.reached
reports_reached (one_more l may open_at low m k) = k.reached

reports_target : {card : List ℕ} {s x : State} {up down : ℕ} → Reports card s x up down → x.header.target ≡ s.header.target
reports_target (no_report k) = k.target
reports_target (one_more l may open_at low m k) = k.target ∙ set-target (reports_reached l) may m ∙ reports_target l

module _ {card : List ℕ} {s : State} {c j : ℕ} (r : LeftAccepted card s) (can : CanGo s c j) where
  totals_add_up : {x : State} {up down : ℕ} → Reports card s x up down
      → Within up down (total_at card s.areas.live s.header.target c j) (total_at card x.areas.live x.header.target c j)
  totals_add_up (no_report k) = rw (k.live, k.target) (within_self (total_at card s.areas.live s.header.target c j))
  totals_add_up (one_more {x = x} {up = up} {down = down} {road = i} {t = t} {time = u} l may open_at low m k) =
      let rx = reports_reached l in
      let can-x = can_go_there r rx can (reports_target l) in
      let X = total_at card s.areas.live s.header.target c j in
      let now = total_at card x.areas.live x.header.target c j in
      let new = total_at card (set x.areas.live i u) x.header.target c j in
      let live = k.live ∙ set-live rx may m in
      let target = k.target ∙ set-target rx may m in
      rw (live, target)
      (within_on up down (u - t) (t - u) X now new (totals_add_up l) (moves_within now new (total_moves rx can-x may t open_at low)))

  -- a go before them and a go after them
  pub reports_add_up : {x : State} {up down : ℕ} → Reports card s x up down → (go : Makes card s (Go c j)) → Room s go.lent
      → (then : Makes card x (Go c j)) → Room s then.lent
      → (now new : Total) × TellsTotal go.done.answer now × TellsTotal then.done.answer new × Within up down now new
  reports_add_up {x} l go room then room' =
      let rx = reports_reached l in
      let can-x = can_go_there r rx can (reports_target l) in
      let now = total_at card s.areas.live s.header.target c j in
      let new = total_at card x.areas.live x.header.target c j in
      let before : TellsTotal go.done.answer now = rw (go_answers_there r can go room) (tells-total now _ _) in
      let after : TellsTotal then.done.answer new =
      rw (go_answers_there rx can-x then (room-there r rx room')) (tells-total new _ _) in
      (now, new, before, after, totals_add_up l)
