-- A8 in plain sentences: what `Reported` says of a go before a report, a go after it and a preview of it, each as a rule for whoever reads
-- their answers; and what several reports can do. With `ReportProof` they hold of the unit in every state that calls left. Assumes nothing.
use Rattle.std.proofs.Common.{◌∙◌, ap, subst, arith}
use Rattle.std.specs.Prelude.{◌≡◌, refl, List, ◌+◌, ◌-◌, ◌<◌, ◌≤◌, ℕ, neg_ℤ, pos, ℤ}
use Rattle.std.proofs.Math.Option.{Option, none, some}
use Rattle.std.proofs.Math.Decide.{dec_lt}
use Rattle.graph.specs.Total.{Total}
use Rattle.graph.proofs.Total.{none-some, some-some}
use Rattle.model.specs.Types.{Answer, Gone, NoPath, Previewed, Refused}
use Rattle.model.specs.State.{State}
use Rattle.model.specs.Calls.{Go}
use Rattle.model.specs.Report.{CanGo, Closes, Larger, LeftAccepted, Makes, Moves, Opens, Persists, Reported, Reports, Room, Smaller}
use Rattle.model.specs.Report.{TellsTotal, Within}
use Rattle.model.proofs.ReportSeveral.{reports_add_up}
use Rattle.model.specs.ReportUse.{SeenLarger, SeenSmaller}

-- ---- a go's answer and its total

-- no answer is a route and the lack of one
not_both : {x : Answer} {T c k b : ℕ} → x ≡ Gone T c k → x ≡ Refused (NoPath b) → ⊥
not_both p q = let z : ◌≡◌ {A = ℕ} 0 1 = cc in omega arith

gone-total : {x : Answer} {T c k : ℕ} (X : Total) → TellsTotal x X → x ≡ Gone T c k → X ≡ some T
gone-total none h e = absurd (not_both e h.1)
gone-total (some a) h e = ap some (same h.2 e)
  where
    same : {x : Answer} {T T' c c' k k' : ℕ} → x ≡ Gone T c k → x ≡ Gone T' c' k' → T ≡ T'
    same p q = cc

lost-total : {x : Answer} {b : ℕ} (X : Total) → TellsTotal x X → x ≡ Refused (NoPath b) → X ≡ none
lost-total none h e = refl
lost-total (some a) h e = absurd (not_both h.2 e)

total-gone : {x : Answer} {T : ℕ} (X : Total) → TellsTotal x X → X ≡ some T → (c k : ℕ) × (x ≡ Gone T c k)
total-gone none h e = absurd (none-some refl e)
total-gone (some a) h e = (h.0, h.1, h.2 ∙ ap (λ (t : ℕ). Gone t h.0 h.1) (some-some refl e))

total-lost : {x : Answer} (X : Total) → TellsTotal x X → X ≡ none → (b : ℕ) × (x ≡ Refused (NoPath b))
total-lost none h e = h
total-lost (some a) h e = absurd (none-some e refl)

-- what a preview answered
told : {p : Answer} {X X' Y Y' : Total} {x x' : Option ℤ} → p ≡ Previewed X Y x → X ≡ X' → Y ≡ Y' → x ≡ x' → p ≡ Previewed X' Y' x'
told p a b c = rw (p, a, b, c)

-- ---- "a route existed"

module _ (R : (T T' : ℕ) → Option ℤ → Type 0) (x : Option ℤ) where
  still-there : {T : ℕ} (X Y : Total) → Persists R X Y x → X ≡ some T → (T' : ℕ) × (Y ≡ some T') × R T T' x
  still-there none Y h e = absurd (none-some refl e)
  still-there (some a) none h e = absurd h
  still-there (some a) (some b) h e = (b, refl, subst (λ (T : ℕ). R T b x) (some-some refl e) h)

  was-there : {T' : ℕ} (X Y : Total) → Persists R X Y x → Y ≡ some T' → (T : ℕ) × (X ≡ some T) × R T T' x
  was-there X none h e = absurd (none-some refl e)
  was-there none (some b) h e = absurd h
  was-there (some a) (some b) h e = (a, refl, subst (λ (T : ℕ). R a T x) (some-some refl e) h)

  still-none : (X Y : Total) → Persists R X Y x → X ≡ none → (Y ≡ none) × (x ≡ none)
  still-none none none h e = (refl, h)
  still-none none (some b) h e = absurd h
  still-none (some a) Y h e = absurd (none-some e refl)

  was-none : (X Y : Total) → Persists R X Y x → Y ≡ none → (X ≡ none) × (x ≡ none)
  was-none none none h e = (refl, h)
  was-none (some a) none h e = absurd h
  was-none X (some b) h e = absurd (none-some e refl)

module _ {p : Answer} {X Y : Total} {x : Option ℤ} (previews : p ≡ Previewed X Y x) {d T T' : ℕ} (now : X ≡ some T)
    (new : Y ≡ some T') where
  see_larger : Larger d T T' x → SeenLarger d T T' p
  see_larger (e, by, adds, change) =
      let e-is : e ≡ T' - T = omega (arith, adds) in
      (omega (arith, adds), omega (arith, adds, by), told previews now new (change ∙ ap (λ (n : ℕ). some (pos n)) e-is))

  see_smaller : Smaller d T T' x → SeenSmaller d T T' p
  see_smaller (e, by, adds, change) =
      let e-is : e ≡ T - T' = omega (arith, adds) in
      (omega (arith, adds), omega (arith, adds, by), told previews now new (change ∙ ap (λ (n : ℕ). some (neg_ℤ (pos n))) e-is))

-- ---- a live time that goes from t to u, the road staying open

-- where R persists, and is seen as S: a route that existed exists, and one that exists did exist
module _ {P : (now new : Total) → Option ℤ → Type 0} {before after preview : Answer} (r : Reported P before after preview)
    (R : (T T' : ℕ) → Option ℤ → Type 0) (S : (T T' : ℕ) → Type 0) (holds : Persists R r.now r.new r.change)
    (see : (T T' : ℕ) → r.now ≡ some T → r.new ≡ some T' → R T T' r.change → S T T') where
  found_after : {T c k : ℕ} → before ≡ Gone T c k → (T' c' k' : ℕ) × (after ≡ Gone T' c' k') × S T T'
  found_after e =
      let now = gone-total r.now r.goes_before e in
      let (T', new, by) = still-there R r.change r.now r.new holds now in
      let (c', k', gone) = total-gone r.new r.goes_after new in
      (T', c', k', gone, see _ T' now new by)

  found_before : {T' c' k' : ℕ} → after ≡ Gone T' c' k' → (T c k : ℕ) × (before ≡ Gone T c k) × S T T'
  found_before e =
      let new = gone-total r.new r.goes_after e in
      let (T, now, by) = was-there R r.change r.now r.new holds new in
      let (c, k, gone) = total-gone r.now r.goes_before now in
      (T, c, k, gone, see T _ now new by)

module _ {t u : ℕ} {before after preview : Answer} (r : Reported (Moves t u) before after preview) where
  -- up by u - t: a route that existed exists, and its total is larger by 0 to u - t
  pub up-found : t ≤ u → {T c k : ℕ} → before ≡ Gone T c k
      → (T' c' k' : ℕ) × (after ≡ Gone T' c' k') × SeenLarger (u - t) T T' preview
  up-found le =
      found_after r (Larger (u - t)) (λ T T'. SeenLarger (u - t) T T' preview) (r.holds.up (u - t) (omega (arith, le)))
      (λ T T' now new by. see_larger r.previews now new by)

  -- and a route that exists did exist
  pub up-found_before : t ≤ u → {T' c' k' : ℕ} → after ≡ Gone T' c' k'
      → (T c k : ℕ) × (before ≡ Gone T c k) × SeenLarger (u - t) T T' preview
  up-found_before le =
      found_before r (Larger (u - t)) (λ T T'. SeenLarger (u - t) T T' preview) (r.holds.up (u - t) (omega (arith, le)))
      (λ T T' now new by. see_larger r.previews now new by)

  -- down by t - u: the same, and its total is smaller by 0 to t - u
  pub down-found : u ≤ t → {T c k : ℕ} → before ≡ Gone T c k
      → (T' c' k' : ℕ) × (after ≡ Gone T' c' k') × SeenSmaller (t - u) T T' preview
  down-found le =
      found_after r (Smaller (t - u)) (λ T T'. SeenSmaller (t - u) T T' preview) (r.holds.down (t - u) (omega (arith, le)))
      (λ T T' now new by. see_smaller r.previews now new by)

  pub down-found_before : u ≤ t → {T' c' k' : ℕ} → after ≡ Gone T' c' k'
      → (T c k : ℕ) × (before ≡ Gone T c k) × SeenSmaller (t - u) T T' preview
  down-found_before le =
      found_before r (Smaller (t - u)) (λ T T'. SeenSmaller (t - u) T T' preview) (r.holds.down (t - u) (omega (arith, le)))
      (λ T T' now new by. see_smaller r.previews now new by)

  -- where there was no route there is none, and the preview tells no total and no change
  pub lost-stays : {b : ℕ} → before ≡ Refused (NoPath b) → (b' : ℕ) × (after ≡ Refused (NoPath b')) × (preview ≡ Previewed none none none)
  lost-stays e =
      let now = lost-total r.now r.goes_before e in
      let (new, change) = either now (dec_lt t u) in
      let (b', lost) = total-lost r.new r.goes_after new in
      (b', lost, told r.previews now new change)
    where
      either : r.now ≡ none → Dec (t < u) → (r.new ≡ none) × (r.change ≡ none)
      either now (yes le) = still-none (Larger (u - t)) r.change r.now r.new (r.holds.up (u - t) (omega arith)) now
      either now (no le) = still-none (Smaller (t - u)) r.change r.now r.new (r.holds.down (t - u) (omega arith)) now

  -- and where there is none there was none
  pub lost-before : {b' : ℕ} → after ≡ Refused (NoPath b') → (b : ℕ) × (before ≡ Refused (NoPath b)) × (preview ≡ Previewed none none none)
  lost-before e =
      let new = lost-total r.new r.goes_after e in
      let (now, change) = either new (dec_lt t u) in
      let (b, lost) = total-lost r.now r.goes_before now in
      (b, lost, told r.previews now new change)
    where
      either : r.new ≡ none → Dec (t < u) → (r.now ≡ none) × (r.change ≡ none)
      either new (yes le) = was-none (Larger (u - t)) r.change r.now r.new (r.holds.up (u - t) (omega arith)) new
      either new (no le) = was-none (Smaller (t - u)) r.change r.now r.new (r.holds.down (t - u) (omega arith)) new

-- ---- several reports add up at most

-- from a go that found a route, before them, to a go after them
pub add_up : {card : List ℕ} {s x : State} {c j up down T k l : ℕ} (r : LeftAccepted card s) (can : CanGo s c j)
    → Reports card s x up down → (go : Makes card s (Go c j)) → Room s go.lent → (then : Makes card x (Go c j)) → Room s then.lent
    → go.done.answer ≡ Gone T k l
    → (T' k' l' : ℕ) × (then.done.answer ≡ Gone T' k' l') × (T' ≤ T + up) × (T ≤ T' + down)
add_up {up = up} {down = down} {T = T} r can reports go room then room' e =
    let (X, Y, before, after, within) = reports_add_up r can reports go room then room' in
    let (T', new, by) = still X Y within (gone-total X before e) in
    let (k', l', gone) = total-gone Y after new in
    (T', k', l', gone, by.0, by.1)
  where
    still : (X Y : Total) → Within up down X Y → X ≡ some T → (T' : ℕ) × (Y ≡ some T') × ((T' ≤ T + up) × (T ≤ T' + down))
    still none Y h e = absurd (none-some refl e)
    still (some a) none h e = absurd h
    still (some a) (some b) h e = let same : a ≡ T = some-some refl e in (b, refl, (omega (arith, h.0), omega (arith, h.1)))

-- ---- an open road is closed

module _ {before after preview : Answer} (r : Reported Closes before after preview) where
  -- a route that exists then did exist, and its total was no larger
  pub closing-found : {T' c' k' : ℕ} → after ≡ Gone T' c' k' → (T c k : ℕ) × (before ≡ Gone T c k) × SeenLarger (T' - T) T T' preview
  closing-found e =
      let new = gone-total r.new r.goes_after e in
      let (T, now, (d, by)) = was r.now r.new r.holds new in
      let (c, k, gone) = total-gone r.now r.goes_before now in
      let seen = see_larger r.previews now new by in
      (T, c, k, gone, (seen.0, omega (arith, seen.0), seen.2))
    where
      was : {T' : ℕ} (X Y : Total) → Closes X Y r.change → Y ≡ some T' → (T : ℕ) × (X ≡ some T) × ((d : ℕ) × Larger d T T' r.change)
      was X none h e = absurd (none-some refl e)
      was none (some b) h e = absurd h
      was (some a) (some b) h e = (a, refl, subst (λ (T : ℕ). (d : ℕ) × Larger d a T r.change) (some-some refl e) h)

  -- none is found
  pub closing-lost : {b : ℕ} → before ≡ Refused (NoPath b) → (b' : ℕ) × (after ≡ Refused (NoPath b')) × (preview ≡ Previewed none none none)
  closing-lost e =
      let now = lost-total r.now r.goes_before e in
      let (new, change) = stays r.now r.new r.holds now in
      let (b', lost) = total-lost r.new r.goes_after new in
      (b', lost, told r.previews now new change)
    where
      stays : (X Y : Total) → Closes X Y r.change → X ≡ none → (Y ≡ none) × (r.change ≡ none)
      stays none none h e = (refl, h)
      stays none (some b) h e = absurd h
      stays (some a) Y h e = absurd (none-some e refl)

  -- where one is lost the preview says so, with no change
  pub closing-took : {T c k b' : ℕ} → before ≡ Gone T c k → after ≡ Refused (NoPath b') → preview ≡ Previewed (some T) none none
  closing-took e lost =
      let now = gone-total r.now r.goes_before e in
      let new = lost-total r.new r.goes_after lost in
      told r.previews now new (took r.now r.new r.holds new)
    where
      took : (X Y : Total) → Closes X Y r.change → Y ≡ none → r.change ≡ none
      took none none h e = h
      took (some a) none h e = h
      took X (some b) h e = absurd (none-some e refl)

-- ---- a closed road is opened

module _ {before after preview : Answer} (r : Reported Opens before after preview) where
  -- a route that existed exists, and its total is no larger
  pub opening-found : {T c k : ℕ} → before ≡ Gone T c k → (T' c' k' : ℕ) × (after ≡ Gone T' c' k') × SeenSmaller (T - T') T T' preview
  opening-found e =
      let now = gone-total r.now r.goes_before e in
      let (T', new, (d, by)) = stays r.now r.new r.holds now in
      let (c', k', gone) = total-gone r.new r.goes_after new in
      let seen = see_smaller r.previews now new by in
      (T', c', k', gone, (seen.0, omega (arith, seen.0), seen.2))
    where
      stays : {T : ℕ} (X Y : Total) → Opens X Y r.change → X ≡ some T → (T' : ℕ) × (Y ≡ some T') × ((d : ℕ) × Smaller d T T' r.change)
      stays none Y h e = absurd (none-some refl e)
      stays (some a) none h e = absurd h
      stays (some a) (some b) h e = (b, refl, subst (λ (T : ℕ). (d : ℕ) × Smaller d T b r.change) (some-some refl e) h)

  -- none is lost
  pub opening-lost : {b' : ℕ} → after ≡ Refused (NoPath b') → (b : ℕ) × (before ≡ Refused (NoPath b)) × (preview ≡ Previewed none none none)
  opening-lost e =
      let new = lost-total r.new r.goes_after e in
      let (now, change) = was r.now r.new r.holds new in
      let (b, lost) = total-lost r.now r.goes_before now in
      (b, lost, told r.previews now new change)
    where
      was : (X Y : Total) → Opens X Y r.change → Y ≡ none → (X ≡ none) × (r.change ≡ none)
      was none none h e = (refl, h)
      was (some a) none h e = absurd h
      was X (some b) h e = absurd (none-some e refl)

  -- where one is found the preview says so, with no change
  pub opening-gave : {b T' c' k' : ℕ} → before ≡ Refused (NoPath b) → after ≡ Gone T' c' k' → preview ≡ Previewed none (some T') none
  opening-gave lost e =
      let now = lost-total r.now r.goes_before lost in
      let new = gone-total r.new r.goes_after e in
      told r.previews now new (gave r.now r.new r.holds now)
    where
      gave : (X Y : Total) → Opens X Y r.change → X ≡ none → r.change ≡ none
      gave none none h e = h
      gave none (some b) h e = h
      gave (some a) Y h e = absurd (none-some e refl)
