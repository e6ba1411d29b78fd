-- The states and calls that A8 speaks of are those of a unit that meets its contracts: it keeps reaching such states, and makes the four
-- calls of a report in turn (`in_turn`), or each in one state (`aside`). What `step` says meets the contracts, too (`turned`).
-- Assumes nothing.
use Rattle.std.proofs.Common.{◌∙◌, ap, subst, sym, inl, inr, arith}
use Rattle.std.specs.Prelude.{◌≡◌, refl, ◌⊎◌, Bool, ◌&&◌, true, List, [], ◌++◌, ◌∷◌, ◌*◌, ◌+◌, ◌/◌, ◌<◌, ℕ, ℤ, get_or, length, set}
use Rattle.std.proofs.Math.Option.{Option, none, some}
use Rattle.std.proofs.Math.ListN.{get_or-eq_default}
use Rattle.std.proofs.Math.Decide.{dec_lt}
use Rattle.graph.specs.Total.{Tested, Total}
use Rattle.graph.proofs.Total.{decide, none-some, true_false}
use Rattle.graph.specs.Map.{Map}
use Rattle.model.specs.Word.{of_word, unasked}
use Rattle.model.specs.Types.{Absent, Accepted, At, Header, Previewed, Refusal, Target}
use Rattle.model.specs.Limits.{classes}
use Rattle.model.specs.Bytes.{word_at}
use Rattle.model.specs.Layout.{access_in, road_size, roads_in}
use Rattle.model.specs.Classes.{access_of, class_times}
use Rattle.model.specs.Card.{CardMap, card_map, map_on}
use Rattle.model.specs.Areas.{Areas}
use Rattle.model.specs.State.{Lent, State, Step, fitting, prepare, unless, usable}
use Rattle.model.specs.Machine.{is_at, target_of}
use Rattle.model.specs.Set.{settable}
use Rattle.model.specs.Estimate.{Kept, filled}
use Rattle.model.specs.Go.{asks}
use Rattle.model.specs.Preview.{change_of, either_asks, work_size}
use Rattle.model.specs.Calls.{Aim, Asked, Call, Estimate, Go, HandsBack, Preview, Set, Stops, Writes, asked_of, calling}
use Rattle.model.specs.Calls.{made, refusal_by, step, steps}
use Rattle.model.specs.Promises.{CallContract, base_on}
use Rattle.model.specs.Report.{Calls, CanGo, CanSet, LeftAccepted, Like, Room}
use Rattle.model.proofs.Laws.{listed_at}
use Rattle.model.proofs.Accept.{card-facts}
use Rattle.model.specs.Good.{Aims, Filled, Good, met_times}
use Rattle.model.proofs.Good.{filled-length, filled-no, filled_yes, fills_self, good-fits, left-usable}
use Rattle.model.specs.Chain.{Chain}
use Rattle.model.proofs.Chain.{hands_back, run_snoc}
use Rattle.model.proofs.ReportLaws.{go_asked, preview-asked, set-asked}
use Rattle.model.proofs.ReportProof.{asked-made, reached-good, reached-left}
use Rattle.model.specs.ReportTurn.{Quiet, last_of, OfReport, turn, Unrefused}

abbrev Stays : State → State → Type 0
Stays s x = (x.areas.live ≡ s.areas.live) × (x.header.target ≡ s.header.target)

quiet-stays : (C : CardMap) (s : State) (a : Asked) (l : Lent) → Quiet a → Stays s (made C s a l).state
quiet-stays C s (Set i t) l q = absurd q
quiet-stays C s (Aim j) l q = absurd q
quiet-stays C s (Estimate j) l q = (refl, refl)
quiet-stays C s (Go c j) l q = (refl, refl)
quiet-stays C s (Preview c i t j w) l q = (refl, refl)
quiet-stays C s (Stops c stops) l q = absurd q

unless-stays : (x : Option Refusal) (s : State) (l : Lent) (r : Step) → Stays s r.state → Stays s (unless x s l r).state
unless-stays none s l r h = h
unless-stays (some q) s l r h = (refl, refl)

step_stays : (card : List ℕ) (s : State) (c : Call) → Quiet c.asked → Stays s (step card s c).state
unfolding step
step_stays card s c q = unless-stays (asked_of card s c) s c.lent _ (quiet-stays (card_map card) s c.asked c.lent q)

-- an accepted preparing, and one call more
pub reached-first : (card : List ℕ) (a : Areas) → (prepare card a).answer ≡ Accepted → LeftAccepted card (prepare card a).state
reached-first card a e = record { areas = a; accepted = e; calls = []; leaves = refl }

pub reached-on : {card : List ℕ} {s : State} → LeftAccepted card s → {c : Call} {d : Step} → CallContract card s c d
    → LeftAccepted card d.state
reached-on {card} {s} r {c} {d} m =
    let was = (prepare card r.areas).state in
    let e = run_snoc card was r.calls c ∙ ap (λ (x : State). (step card x c).state) r.leaves in
    record {
      areas = r.areas;
      accepted = r.accepted;
      calls = r.calls ++ (c ∷ []);
      leaves = e ∙ sym (ap (λ (y : Step). y.state) (m.exact (reached-left r)));
    }

pub reached-by : {card : List ℕ} {s : State} (l : List Call) (r : List Step) → LeftAccepted card s → Chain card s l r
    → LeftAccepted card (last_of s r)
reached-by [] [] w h = w
reached-by [] (u ∷ r) w h = absurd h
reached-by (c ∷ l) [] w h = absurd h
reached-by (c ∷ l) (u ∷ r) w h = reached-by l r (reached-on w h.0) h.1

-- s is like itself, and stays so through goes, estimates and previews
pub like_self : {card : List ℕ} {s : State} → LeftAccepted card s → Like card s s
like_self r = record { reached = r; live = refl; target = refl }

pub like-on : {card : List ℕ} {s x : State} → Like card s x → {c : Call} {d : Step} → Quiet c.asked → CallContract card x c d
    → Like card s d.state
like-on {card} {s} {x} k {c} {d} q m =
    let same = ap (λ (y : Step). y.state) (m.exact (reached-left k.reached)) in
    let h = step_stays card x c q in
    record {
      reached = reached-on k.reached m;
      live = ap (λ (y : State). y.areas.live) same ∙ h.0 ∙ k.live;
      target = ap (λ (y : State). y.header.target) same ∙ h.1 ∙ k.target;
    }

-- the calls one after the other, in the unit's one state; or each in the state s, as if the others had not been made
module _ {card : List ℕ} {s : State} {c i u j : ℕ} (r : LeftAccepted card s) {l l' k k' : Lent} (o : Room s l) (o' : Room s l') where
  -- a go, the preview, the set, a go
  abbrev pub in_turn : {a p b d : Step}
      → Chain card s
      (calling (Go c j) l ∷ calling (Preview c i u j (work_size s.header.n)) k ∷ calling (Set i u) k' ∷ calling (Go c j) l' ∷ [])
      (a ∷ p ∷ b ∷ d ∷ [])
      → Calls card s c i u j
  in_turn {a} {p} {b} {d} h =
      let go = h.0 in
      let after-go = h.1 in
      let preview = after-go.0 in
      let after-preview = after-go.1 in
      let set = after-preview.0 in
      let then = after-preview.1.0 in
      let at-go = like_self r in
      let at-preview = like-on at-go tt go in
      let at_set = like-on at-preview tt preview in
      record {
        go = record { from = s; like = at-go; lent = l; done = a; meets = go };
        room = o;
        set = record { from = p.state; like = at_set; lent = k'; done = b; meets = set };
        then = record { from = b.state; like = like_self (reached-on at_set.reached set); lent = l'; done = d; meets = then };
        room-then = o';
        preview = record { from = a.state; like = at-preview; lent = k; done = p; meets = preview };
      }

  -- each from s
  abbrev pub aside : {a p b d : Step} → CallContract card s (calling (Go c j) l) a
      → CallContract card s (calling (Preview c i u j (work_size s.header.n)) k) p
      → CallContract card s (calling (Set i u) k') b → CallContract card b.state (calling (Go c j) l') d → Calls card s c i u j
  aside {a} {p} {b} {d} go preview set then =
      let here = like_self r in
      record {
        go = record { from = s; like = here; lent = l; done = a; meets = go };
        room = o;
        set = record { from = s; like = here; lent = k'; done = b; meets = set };
        then = record { from = b.state; like = like_self (reached-on r set); lent = l'; done = d; meets = then };
        room-then = o';
        preview = record { from = s; like = here; lent = k; done = p; meets = preview };
      }

-- ---- what `step` says of a go, a set and a preview meets their contract, so that such calls are there

-- filling alters no estimate that is filled
module _ (M : Map) (z : ℕ) (p : ℕ → Bool) (e : List ℕ) (size : length e ≡ M.vertices)
    (entries : (v : ℕ) → v < M.vertices → (get_or e v 0 ≡ unasked) ⊎ Filled M z e v) where
  filled-kept : Kept e (filled M z p e)
  filled-kept = record { stays = λ i known. stays i known (dec_lt i M.vertices) }
    where
      at : (i : ℕ) → i < M.vertices → (get_or e i 0 ≡ unasked → ⊥) → (get_or e i 0 ≡ unasked) ⊎ Filled M z e i → Tested (p i)
          → get_or (filled M z p e) i 0 ≡ get_or e i 0
      at i l known (inl q) b = absurd (known q)
      at i l known (inr f) (inl b) = filled_yes M z p e i l b ∙ sym (f i l (fills_self M i))
      at i l known (inr f) (inr b) = filled-no M z p e i l b

      stays : (i : ℕ) → (get_or e i 0 ≡ unasked → ⊥) → Dec (i < M.vertices) → get_or (filled M z p e) i 0 ≡ get_or e i 0
      stays i known (yes l) = at i l known (entries i l) (decide (p i))
      stays i known (no l) =
          let k = filled-length M z p e in
          get_or-eq_default (filled M z p e) 0 (omega (arith, k)) ∙ sym (get_or-eq_default e 0 (omega (arith, size)))

entries_of : (M : Map) (t : Target) (d e : List ℕ) → is_at t ≡ true → Aims M t d e
    → (v : ℕ) → v < M.vertices → (get_or e v 0 ≡ unasked) ⊎ Filled M (target_of t) e v
entries_of M (At z) d e h a = a.entries
entries_of M Absent d e h a = absurd (true_false h refl)

module _ {card : List ℕ} {s : State} (g : Good card s) (at : is_at s.header.target ≡ true) where
  kept_by : (p : ℕ → Bool)
      → Kept s.areas.aimed.estimates (filled (map_on card) (target_of s.header.target) p s.areas.aimed.estimates)
  kept_by p =
      let e = s.areas.aimed.estimates in
      filled-kept (map_on card) (target_of s.header.target) p e g.lengths.estimates
      (entries_of (map_on card) s.header.target s.areas.aimed.down e at g.aims)

  writes-made : (a : Asked) (l : Lent) → OfReport a → Writes s a l (made (card_map card) s a l)
  writes-made (Set i t) l q = refl
  writes-made (Aim j) l q = absurd q
  writes-made (Estimate j) l q = absurd q
  writes-made (Go c j) l q =
      record { leaves = refl; kept = kept_by (asks (map_on card) (met_times g c) j (target_of s.header.target)) }
  writes-made (Preview c i t j w) l q =
      let live' = class_times (access_of (access_in card)) c (set s.areas.live i t) in
      record {
        leaves = refl;
        lent = refl;
        kept = kept_by (either_asks (map_on card) (met_times g c) live' j (target_of s.header.target));
        change = λ a b x e. change e;
      }
    where
      change : {a b a' b' : Total} {x : Option ℤ} → Previewed a' b' (change_of a' b') ≡ Previewed a b x → x ≡ change_of a b
      change e = cc
  writes-made (Stops c stops) l q = absurd q

module _ {card : List ℕ} {s : State} (r : LeftAccepted card s) (at : is_at s.header.target ≡ true) where
  -- where no question refuses it, be it asked by the map's base times or by the card's
  pub meets : (a : Asked) (l : Lent) → OfReport a → refusal_by (map_on card).base.cost s.header (calling a l) ≡ none
      → refusal_by (base_on card) s.header (calling a l) ≡ none
      → CallContract card s (calling a l) (step card s (calling a l))
  meets a l q asked asked' =
      let g = reached-good r in
      let f : usable card s.header && fitting card s ≡ true = rw (left-usable (reached-left r) (good-fits g), good-fits g) in
      record {
        lengths = λ h. absurd (true_false f h);
        exact = λ w. refl;
        anywhere = λ h. record {
          refuses = λ p e. absurd (none-some asked' e);
          writes = λ e. subst (Writes s a l) (sym (asked-made g (calling a l) asked)) (writes-made g at a l q);
        };
      }

-- none of them alters the header
header-same : (a : Asked) {h k : Header} → OfReport a → HandsBack a h k → k ≡ h
header-same (Set i t) q e = e
header-same (Aim j) q e = absurd q
header-same (Estimate j) q e = absurd q
header-same (Go c j) q e = e
header-same (Preview c i t j w) q e = e
header-same (Stops c stops) q e = absurd q

pub meet_all : {card : List ℕ} (l : List Call) {s : State} → LeftAccepted card s → is_at s.header.target ≡ true
    → Unrefused card s.header l → Chain card s l (steps card s l)
meet_all [] r at h = tt
meet_all {card} (c ∷ l) {s} r at h =
    let m = meets r at c.asked c.lent h.0 h.1 h.2 in
    let same = header-same c.asked h.0 (hands_back m) in
    let at' = ap (λ (k : Header). is_at k.target) same ∙ at in
    (m, meet_all l (reached-on r m) at' (subst (λ (k : Header). Unrefused card k l) (sym same) h.3))

-- a road's base time, as the calls read it on the card, is the map's
base_there : {card : List ℕ} {s : State} → Good card s → (i : ℕ) → i < s.header.m → (map_on card).base.cost i ≡ base_on card i
base_there {card} {s} g i l =
    let roads = roads_in card in
    let m = g.m-is in
    let size = (card-facts card g.accepted).roads-length in
    let e : 0 + 4 * (3 * i + 2) ≡ road_size * i + 8 = omega arith in
    ap some (listed_at (length roads / 4) (λ k. word_at roads (0 + 4 * k)) (3 * i + 2) (omega (arith, l, m, size)) ∙ ap (word_at roads) e)

module _ {card : List ℕ} {s : State} {c i u j : ℕ} (r : LeftAccepted card s) (can : CanGo s c j) (may : CanSet card s i u) {l : Lent}
    (o : Room s l) where
  pub unrefused : Unrefused card s.header (turn s.header.n c i u j l)
  unrefused =
      let f = (map_on card).base.cost in
      let f' = base_on card in
      let h = s.header in
      let at : is_at h.target ≡ true = ap is_at can.aimed in
      let lc : c < classes = omega (arith, can.class_in) in
      let li : i < h.m = omega (arith, may.road_in) in
      let base = base_there (reached-good r) i li in
      let time-in' : settable (f' i) (of_word u) ≡ true = subst (λ (x : Total). settable x (of_word u) ≡ true) base may.time_in in
      let go = go_asked f h can.start_in at lc o.route o.log in
      let go' = go_asked f' h can.start_in at lc o.route o.log in
      let preview = preview-asked f h can.start_in at lc i u (work_size h.n) li may.time_in refl in
      let preview' = preview-asked f' h can.start_in at lc i u (work_size h.n) li time-in' refl in
      let set = set-asked f h i u li may.time_in in
      let set' = set-asked f' h i u li time-in' in
      (tt, go, go', (tt, preview, preview', (tt, set, set', (tt, go, go', tt))))

  abbrev pub turned : Calls card s c i u j
  turned = in_turn r o o (meet_all (turn s.header.n c i u j l) r (ap is_at can.aimed) unrefused)
