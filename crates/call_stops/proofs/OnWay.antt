-- A list of stops on its way: after some legs the whole journey is those legs, joined with the journey from here (`OnWay`); each leg with a
-- path is one step of it (`way-turn`), a leg without one ends it (`way-lost`), and so does the last stop (`way_end`). Assumes nothing.
use mathlib.Core.Path.{◌∙◌, ◌≡◌, ap, ap₂, refl, subst, sym}
use mathlib.Core.Bool.{true}
use mathlib.Core.Option.{none, some}
use mathlib.Core.List.Memᴰ
use mathlib.Core.List.{List, [], ◌++◌, ◌∷◌, append_assoc, append-nil}
use Prim.Native.Nat.{◌*◌, ◌+◌, ◌-◌, ◌<◌, ◌≤◌, min, suc, zero, ℕ}
use lib.ListN.{drop, drop_of_length-le, get_or, length, length-drop, set, take, take-append-drop}
use lib.Seq.{append_snoc, drop-append-add, drop-cons, get_or-set_other, get_or-set_same, length-take-le, take-append-add}
use native.Mathlib.Nat.{mul-le-mul_right, not-suc-le-zero}
use native.Mathlib.Omega.{arith}
use Rattle.graph.specs.Total.{Total}
use Rattle.graph.specs.Network.{Arc}
use Rattle.graph.specs.Bound.{CostsAtMost}
use Rattle.graph.specs.Search.{route_of, total_of}
use Rattle.graph.specs.Stops.{Below}
use Rattle.graph.specs.Map.{Map, live_net}
use Rattle.graph.proofs.Map.{time_of-bound}
use Rattle.model.specs.Word.{unasked}
use Rattle.model.proofs.Word.{of_word-some}
use Rattle.model.specs.Types.{Accepted, Answer, Estimated, Gone, Leg, NoLeg, Previewed, Refused, Stopped}
use Rattle.model.specs.Limits.{most_stops, most_time, most_total}
use Rattle.model.proofs.LimitLaws.{totals_fit}
use Rattle.model.specs.Classes.{class_times}
use Rattle.model.specs.Card.{CardMap, card_map, map_on}
use Rattle.model.specs.State.{Lent, State, Step, answering}
use Rattle.model.specs.Go.{go_answer, live_of, search_of}
use Rattle.model.specs.Stops.{Journey, journey, leg_made, past, stops_answer, stops_made, whole_of, with_leg}
use Rattle.model.specs.Calls.{Left}
use Rattle.model.proofs.Accept.{card-facts}
use Rattle.model.specs.Good.{Good, StopsPassed}
use Rattle.model.proofs.Good.{aim-good, leg-good, met-good, settable-most}
use Rattle.model.specs.GoProof.{SameLengths}
use Rattle.model.proofs.GoProof.{go-lengths, route-short, total-is}
use Rattle.network.specs.Width.{fit_in}
use Rattle.call_stops.specs.Shape.{legs_from, sum_in}
use Rattle.call_stops.proofs.OneLeg.{LegDone}

-- ---- stops

pub stop-below : {n : ℕ} (stops : List ℕ) → Below n stops → (i : ℕ) → i < length stops → get_or stops i 0 < n
stop-below [] below i h = absurd (not-suc-le-zero h)
stop-below (v ∷ stops) below zero h = below v (Memᴰ.head refl)
stop-below (v ∷ stops) below (suc i) h = stop-below stops (λ w m. below w (Memᴰ.tail m)) i (omega (arith, h))

-- ---- the legs that were answered

-- entries from leg i on do not matter to the legs before it
legs-same : (totals roads totals' roads' : List ℕ) (i k : ℕ)
    → ((j : ℕ) → j < i + k → get_or totals' j 0 ≡ get_or totals j 0) → ((j : ℕ) → j < i + k → get_or roads' j 0 ≡ get_or roads j 0)
    → legs_from totals' roads' i k ≡ legs_from totals roads i k
legs-same totals roads totals' roads' i zero f g = refl
legs-same totals roads totals' roads' i (suc k) f g =
    ap₂ ◌∷◌
    (ap₂ (λ (t : ℕ) (r : ℕ). record { total = t; roads = r }) (f i (omega arith)) (g i (omega arith)))
    (legs-same totals roads totals' roads' (suc i) k (λ j h. f j (omega (arith, h))) (λ j h. g j (omega (arith, h))))

legs_snoc : (totals roads : List ℕ) (i k : ℕ)
    → legs_from totals roads i (suc k)
    ≡ legs_from totals roads i k ++ (record { total = get_or totals (i + k) 0; roads = get_or roads (i + k) 0 } ∷ [])
legs_snoc totals roads i zero = let e : i + 0 ≡ i = omega arith in rw e
legs_snoc totals roads i (suc k) =
    let e : suc i + k ≡ i + suc k = omega arith in
    ap (◌∷◌ (record { total = get_or totals i 0; roads = get_or roads i 0 })) (rw e at (legs_snoc totals roads (suc i) k))

pub legs-length : (totals roads : List ℕ) (i k : ℕ) → length (legs_from totals roads i k) ≡ k
legs-length totals roads i zero = refl
legs-length totals roads i (suc k) = ap suc (legs-length totals roads (suc i) k)

-- one leg more
legs-more : (totals roads : List ℕ) (i t k : ℕ) → i < length totals → i < length roads
    → legs_from (set totals i t) (set roads i k) 0 (suc i) ≡ legs_from totals roads 0 i ++ (record { total = t; roads = k } ∷ [])
legs-more totals roads i t k lt lr =
    let e : 0 + i ≡ i = omega arith in
    let last : legs_from (set totals i t) (set roads i k) 0 (suc i)
    ≡ legs_from (set totals i t) (set roads i k) 0 i
    ++ (record { total = get_or (set totals i t) i 0; roads = get_or (set roads i k) i 0 } ∷ []) =
    rw e at (legs_snoc (set totals i t) (set roads i k) 0 i) in
    last
    ∙ ap₂ (λ (x : List Leg) (y : Leg). x ++ (y ∷ []))
    (legs-same totals roads (set totals i t) (set roads i k) 0 i
    (λ j h. get_or-set_other totals i j t 0 (λ q. omega (arith, h, q)))
    (λ j h. get_or-set_other roads i j k 0 (λ q. omega (arith, h, q))))
    (ap₂ (λ (x : ℕ) (y : ℕ). record { total = x; roads = y })
    (get_or-set_same totals i t 0 lt) (get_or-set_same roads i k 0 lr))

whole_snoc : (legs : List Leg) (x : Leg) → whole_of (legs ++ (x ∷ [])) ≡ whole_of legs + x.total
whole_snoc [] x = omega arith
whole_snoc (y ∷ legs) x = let h = whole_snoc legs x in omega (arith, h)

-- ---- legs so far, and a journey on from there

abbrev pub joined : (roads : List ℕ) → List Leg → Journey → Journey
joined r legs j = record {
  state = j.state;
  lent = record { route = r ++ j.lent.route; log = j.lent.log };
  legs = legs ++ j.legs;
  complete = j.complete;
}

joined-leg : (r : List ℕ) (legs : List Leg) (x : Total) (t k : ℕ) (u : Step) (j : Journey) → x ≡ some t
    → joined r legs (with_leg x k u j) ≡ joined (r ++ take k u.lent.route) (legs ++ (record { total = t; roads = k } ∷ [])) j
joined-leg r legs x t k u j e =
    ap (λ (y : Total). joined r legs (with_leg y k u j)) e
    ∙ ap₂ (λ (a : List ℕ) (b : List Leg). record {
      state = j.state;
      lent = record { route = a; log = j.lent.log };
      legs = b;
      complete = j.complete;
    })
    (sym (append_assoc r (take k u.lent.route) j.lent.route))
    (sym (append_snoc legs (record { total = t; roads = k }) j.legs))

-- what a list of stops answers and leaves by its journey
abbrev pub as_step : Journey → Step
as_step j = record { answer = stops_answer j.complete j.legs; state = j.state; lent = j.lent }

joined-lost : (r : List ℕ) (legs : List Leg) (x : Total) (k : ℕ) (u : Step) (j : Journey) → x ≡ none
    → as_step (joined r legs (with_leg x k u j))
    ≡ answering (Refused (NoLeg (length legs))) u.state (record { route = r ++ u.lent.route; log = u.lent.log })
joined-lost r legs x k u j e =
    ap (λ (y : Total). as_step (joined r legs (with_leg y k u j))) e
    ∙ ap (λ (b : List Leg). answering (Refused (NoLeg (length b))) u.state (record { route = r ++ u.lent.route; log = u.lent.log }))
    (append-nil legs)

-- ---- go's answer

-- its total and its number of roads
abbrev pub gone_total : Answer → Total
gone_total (Gone t c k) = some t
gone_total (Refused q) = none
gone_total Accepted = none
gone_total (Estimated t) = none
gone_total (Previewed a b c) = none
gone_total (Stopped legs t) = none

abbrev gone_roads : Answer → ℕ
gone_roads (Gone t c k) = k
gone_roads (Refused q) = 0
gone_roads Accepted = 0
gone_roads (Estimated t) = 0
gone_roads (Previewed a b c) = 0
gone_roads (Stopped legs t) = 0

path-total : (x : Total) (c k : ℕ) → gone_total (go_answer x c k) ≡ x
path-total none c k = refl
path-total (some t) c k = refl

path-roads : (x : Total) (c k : ℕ) (t : ℕ) → x ≡ some t → gone_roads (go_answer x c k) ≡ k
path-roads x c k t e = rw e

-- ---- a leg's total fits

module _ {card : List ℕ} {s : State} (g : Good card s) where
  live-most : CostsAtMost (Arc (live_net (map_on card) (live_of s.areas.live))) most_time
  live-most x y c a = settable-most ((map_on card).base.cost a.index) c (rw a.at.costs at (g.times a.index a.below))

  leg-fits : (a b t : ℕ) → a < (map_on card).vertices → b < (map_on card).vertices
      → total_of (search_of (map_on card) s.areas.live a b) ≡ some t → t ≤ most_total
  leg-fits a b t la lb e =
      let c = card-facts card g.accepted in
      totals_fit c.vertices-high
      (time_of-bound c.valid (live_of s.areas.live) live-most a b la (sym (total-is g a b la lb) ∙ e))

-- a sum of few totals is formed
sum_is : {i whole t : ℕ} → i < most_stops → whole ≤ i * most_total → t ≤ most_total → sum_in whole t ≡ whole + t
sum_is {i} {whole} {t} li small fits =
    let low : whole + t < unasked = omega (arith, li, small, fits) in
    rw (of_word-some whole (omega (arith, low)), of_word-some t (omega (arith, low)), fit_in (whole + t) low)

-- ---- on the way

-- after i legs of class c from s₀ and l₀ the state is s, and l is lent; the legs' totals and numbers of roads stand first in `totals` and
-- `roads`
pub record OnWay (card : List ℕ) (c : ℕ) (s₀ : State) (l₀ : Lent) (stops : List ℕ) (s : State) (l : Lent) (totals roads : List ℕ)
    (whole at i : ℕ) : Type 0 where
  pub left : Left card s
  pub good : Good card s
  pub room : at ≤ i * (map_on card).vertices
  pub whole_is : whole ≡ whole_of (legs_from totals roads 0 i)
  pub whole-small : whole ≤ i * most_total
  -- the journey is the legs so far, and the one from here
  pub journey-is : journey (card_map card) c s₀ (get_or stops 0 0) (drop 1 stops) l₀
      ≡ joined (take at l.route) (legs_from totals roads 0 i)
      (journey (card_map card) c s (get_or stops i 0) (drop (suc i) stops) (past at l))

pub way-start : {card : List ℕ} {c : ℕ} {s : State} {l : Lent} {stops totals roads : List ℕ} → Left card s → Good card s
    → OnWay card c s l stops s l totals roads 0 0 0
way-start w g = record { left = w; good = g; room = omega arith; whole_is = refl; whole-small = omega arith; journey-is = refl }

-- the next leg, from stop i: u is what it left
module _ {card : List ℕ} {c : ℕ} {s₀ : State} {l₀ : Lent} {stops : List ℕ} (g₀ : Good card s₀)
    (q : StopsPassed g₀ c stops (length l₀.route) (length l₀.log)) {s : State} {l : Lent} {totals roads : List ℕ} {whole at i : ℕ}
    (more : suc i < length stops) (same : SameLengths l l₀) (way : OnWay card c s₀ l₀ stops s l totals roads whole at i) where
  pub from-below : get_or stops i 0 < (map_on card).vertices
  from-below = stop-below stops q.below i (omega (arith, more))

  pub to_below : get_or stops (suc i) 0 < (map_on card).vertices
  to_below = stop-below stops q.below (suc i) more

  -- what is left of the route area has room for a leg
  left_over : at + (map_on card).vertices ≤ length l.route
  left_over =
      let many : suc i * (map_on card).vertices ≤ length stops * (map_on card).vertices = mul-le-mul_right (map_on card).vertices more' in
      omega (arith, many, q.route, way.room, same.route)
    where
      more' : suc i ≤ length stops
      more' = omega (arith, more)

  pub route-room : (map_on card).vertices ≤ length (drop at l.route)
  route-room = omega (arith, left_over, length-drop at l.route)

  pub log-room : (map_on card).vertices ≤ length l.log
  log-room = omega (arith, q.log, same.log)

  module _ {u : Step} (done : LegDone card c s (get_or stops i 0) (get_or stops (suc i) 0) (past at l) u) where
    abbrev C : CardMap
    C = card_map card

    abbrev M : Map
    M = map_on card

    abbrev a : ℕ
    a = get_or stops i 0

    abbrev b : ℕ
    b = get_or stops (suc i) 0

    -- the live times as the class meets them
    abbrev times : List ℕ
    times = class_times C.access c s.areas.live

    -- its total and number of roads, as the definition has them
    abbrev total : Total
    total = total_of (search_of M times a b)

    abbrev many : ℕ
    many = length (route_of (search_of M times a b))

    abbrev on : Journey
    on = journey C c u.state b (drop (suc (suc i)) stops) (past many u.lent)

    -- the journey from here begins with it
    with_leg_lem : journey C c s₀ (get_or stops 0 0) (drop 1 stops) l₀
        ≡ joined (take at l.route) (legs_from totals roads 0 i) (with_leg total many u on)
    with_leg_lem =
        way.journey-is
        ∙ ap (λ (x : List ℕ). joined (take at l.route) (legs_from totals roads 0 i) (journey C c s a x (past at l)))
        (drop-cons stops (suc i) 0 more)
        ∙ ap (λ (v : Step). joined (take at l.route) (legs_from totals roads 0 i)
        (with_leg total many v (journey C c v.state b (drop (suc (suc i)) stops) (past many v.lent)))) (sym done.made)

    part_length : length u.lent.route ≡ length l.route - at
    part_length =
        ap (λ (v : Step). length v.lent.route) done.made
        ∙ (go-lengths (aim-good way.good b (past at l) to_below) c a (past at l) from-below refl route-room log-room).route
        ∙ length-drop at l.route

    -- ---- it has a path

    module _ {t count k : ℕ} (gone : u.answer ≡ Gone t count k) where
      answered : Gone t count k ≡ (leg_made C c s a b (past at l)).answer
      answered = sym gone ∙ ap (λ (v : Step). v.answer) done.made

      total-found : total ≡ some t
      total-found = sym (path-total total _ many) ∙ ap gone_total (sym answered)

      many_is : k ≡ many
      many_is = ap gone_roads answered ∙ path-roads total _ many t total-found

      few : k < M.vertices
      few = omega (arith, many_is, route-short (met-good way.good c) a b t from-below to_below total-found)

      fits : t ≤ most_total
      fits = leg-fits (met-good way.good c) a b t from-below to_below total-found

      -- the legs and one more, and the journey on from there
      leg-on : journey C c s₀ (get_or stops 0 0) (drop 1 stops) l₀
          ≡ joined (take at l.route ++ take k u.lent.route) (legs_from totals roads 0 i ++ (record { total = t; roads = k } ∷ []))
          (journey C c u.state b (drop (suc (suc i)) stops) (past k u.lent))
      leg-on =
          with_leg_lem
          ∙ joined-leg (take at l.route) (legs_from totals roads 0 i) total t many u on total-found
          ∙ ap (λ (j : ℕ). joined (take at l.route ++ take j u.lent.route)
          (legs_from totals roads 0 i ++ (record { total = t; roads = j } ∷ []))
          (journey C c u.state b (drop (suc (suc i)) stops) (past j u.lent))) (sym many_is)

      -- the route area, with its roads behind those of the legs before
      module _ {route : List ℕ} (route-is : route ≡ take at l.route ++ u.lent.route) {at' : ℕ}
          (further : at' ≡ min (at + k) (length l.route)) where
        before_it : length (take at l.route) ≡ at
        before_it = length-take-le at l.route (omega (arith, left_over))

        at-is : at' ≡ length (take at l.route) + k
        at-is = omega (arith, further, before_it, left_over, few)

        taken : take at' route ≡ take at l.route ++ take k u.lent.route
        taken = ap₂ take at-is route-is ∙ take-append-add (take at l.route) u.lent.route k

        dropped : drop at' route ≡ drop k u.lent.route
        dropped = ap₂ drop at-is route-is ∙ drop-append-add (take at l.route) u.lent.route k

        pub way-turn : i < length totals → i < length roads → {whole' : ℕ} → whole' ≡ sum_in whole t
            → OnWay card c s₀ l₀ stops u.state (record { route = route; log = u.lent.log })
            (set totals i t) (set roads i k) whole' at' (suc i)
        way-turn lt lr {whole'} summed =
            let sum : whole' ≡ whole + t = summed ∙ sum_is {i = i} (omega (arith, more, q.most)) way.whole-small fits in
            let legs = legs-more totals roads i t k lt lr in
            record {
              left = done.left;
              good = subst (λ (v : Step). Good card v.state) (sym done.made) (leg-good way.good c a b (past at l) to_below);
              room = omega (arith, way.room, at-is, before_it, few);
              whole_is =
                  sum ∙ ap (λ (x : ℕ). x + t) way.whole_is
                  ∙ sym (ap whole_of legs ∙ whole_snoc (legs_from totals roads 0 i) (record { total = t; roads = k }));
              whole-small = omega (arith, sum, way.whole-small, fits);
              journey-is =
                  leg-on
                  ∙ ap₂ (λ (x : List ℕ) (y : List Leg). joined x y (journey C c u.state b (drop (suc (suc i)) stops) (past k u.lent)))
                  (sym taken) (sym legs)
                  ∙ ap (λ (x : List ℕ). joined (take at' route) (legs_from (set totals i t) (set roads i k) 0 (suc i))
                  (journey C c u.state b (drop (suc (suc i)) stops) (record { route = x; log = u.lent.log }))) (sym dropped);
            }

    -- ---- it has none

    pub way-lost : gone_total u.answer ≡ none → {route : List ℕ} → route ≡ take at l.route ++ u.lent.route
        → answering (Refused (NoLeg i)) u.state (record { route = route; log = u.lent.log }) ≡ stops_made C s₀ c stops l₀
    way-lost lost {route} route-is =
        let none_found : total ≡ none =
        sym (path-total total _ many) ∙ ap (λ (v : Step). gone_total v.answer) (sym done.made) ∙ lost in
        ap₂ (λ (j : ℕ) (x : List ℕ). answering (Refused (NoLeg j)) u.state (record { route = x; log = u.lent.log }))
        (sym (legs-length totals roads 0 i)) route-is
        ∙ sym (ap as_step with_leg_lem ∙ joined-lost (take at l.route) (legs_from totals roads 0 i) total many u on none_found)

-- ---- the last stop

pub way_end : {card : List ℕ} {c : ℕ} {s₀ : State} {l₀ : Lent} {stops : List ℕ} {s : State} {l : Lent} {totals roads : List ℕ}
    {whole at i : ℕ} → length stops ≤ suc i → OnWay card c s₀ l₀ stops s l totals roads whole at i
    → answering (Stopped (legs_from totals roads 0 i) whole) s l ≡ stops_made (card_map card) s₀ c stops l₀
way_end {card} {c} {s₀} {l₀} {stops} {s} {l} {totals} {roads} {whole} {at} {i} over way =
    let C = card_map card in
    let legs = legs_from totals roads 0 i in
    let arrived : journey C c s₀ (get_or stops 0 0) (drop 1 stops) l₀
    ≡ record { state = s; lent = record { route = l.route; log = l.log }; legs = legs; complete = true } =
    way.journey-is
    ∙ ap (λ (x : List ℕ). joined (take at l.route) legs (journey C c s (get_or stops i 0) x (past at l))) (drop_of_length-le stops over)
    ∙ ap₂ (λ (x : List ℕ) (y : List Leg). record { state = s; lent = record { route = x; log = l.log }; legs = y; complete = true })
    (take-append-drop at l.route) (append-nil legs) in
    ap (λ (x : ℕ). answering (Stopped legs x) s l) way.whole_is ∙ sym (ap as_step arrived)
