-- The two ends of preparing once questions 1 to 7 have passed: no room for the pairs, or all areas filled. Assumes nothing.
use mathlib.Core.Path.{◌∙◌, ◌≡◌, ap, ap₂, subst₂, sym}
use mathlib.Core.Option.{none}
use mathlib.Core.List.{List}
use Prim.Native.Nat.{◌*◌, ◌<◌, suc, ℕ}
use borrow.Author.Tests.{le-leb, lt-leb}
use lib.ListN.{length, replicate}
use native.Mathlib.Omega.{arith}
use Rattle.graph.specs.Map.{Map, pairs_of, rank}
use Rattle.model.specs.Types.{Absent, Accepted, AreaLengths, Refused, Room}
use Rattle.model.specs.Word.{none_word, unasked, word}
use Rattle.model.specs.Bytes.{listed}
use Rattle.model.specs.Layout.{order_in, place_size, road_size, roads_in}
use Rattle.model.specs.Card.{card_refusal, map_on}
use Rattle.model.specs.Areas.{Areas, Each, areas_of, fresh_areas, groups_of, leaving_of, lengths, lengths_fit, record_size}
use Rattle.model.specs.Areas.{records_in, times_in}
use Rattle.model.specs.State.{answering, areas_refusal, none_lent, prepare, room_refusal, unprepared}
use Rattle.model.specs.Promises.{PrepareContract, before}
use Rattle.model.proofs.Laws.{and_then-none, ask-none}
use Rattle.model.specs.Good.{LengthFacts}
use Rattle.model.proofs.Good.{lengths-facts}
use Rattle.model.proofs.Ends.{listed_same}
use Rattle.network.specs.Bodies.{Prepared, Sound, base_in_lem, map-facts, map_in}
use Rattle.network.specs.declared.Sizes.{Sizes}
use Rattle.road_groups.specs.Lending.{GroupsAsked, GroupsMade, TailsIn}
use Rattle.road_groups.specs.OnMap.{made_on_map, tails_on_map}
use Rattle.pairs_contraction.specs.Contraction.{Contraction, contraction_overflow}
use Rattle.std.specs.Prelude as code
use Rattle.network.specs.declared.Refusal.TheVariants as by
use Rattle.card_layout.specs.Parts.{card-sound}
use Rattle.unit_preparing.specs.Preparing.{Accepts, base_in, handed_in}
use Rattle.unit_preparing.proofs.Filling.{alike_same, zeros_of}

-- ---- what questions 1 to 7 say

module _ {card : List ℕ} {s : Sizes} {a : Areas} (ok : Accepts card s a) where
  pub accepted : card_refusal card ≡ none
  unfolding areas_refusal
  accepted = (and_then-none (card_refusal card) _ ok.passes).0

  pub sized : LengthFacts (map_on card).vertices (map_on card).base.arcs 0 (lengths a)
  unfolding areas_refusal
  sized =
      let M = map_on card in
      let fits = lengths_fit M.vertices M.base.arcs 0 (lengths a) in
      let q = (and_then-none (card_refusal card) _ ok.passes).1 in
      lengths-facts M.vertices M.base.arcs 0 (lengths a) (ask-none fits AreaLengths none q).0

-- the two bodies of the card, handed on
pub record Bodies (card : List ℕ) (s : Sizes) (a : Areas) (roads order : List ℕ) : Type 0 where
  pub accepts : Accepts card s a
  pub roads-here : roads ≡ roads_in card
  pub order-here : order ≡ order_in card

module _ {card : List ℕ} {s : Sizes} {a : Areas} {roads order : List ℕ} (b : Bodies card s a roads order) where
  pub sound : Sound roads order
  sound = subst₂ Sound (sym b.roads-here) (sym b.order-here) (card-sound card (accepted b.accepts))

  pub map-here : map_in roads order ≡ map_on card
  map-here = ap₂ map_in b.roads-here b.order-here

  pub order-long : length order ≡ place_size * length a.built.ranks
  order-long = omega (arith, (map-facts sound).order_is, ap (λ (M : Map). M.vertices) map-here, (sized b.accepts).ranks)

  pub roads-long : length roads ≡ road_size * length a.live
  roads-long = omega (arith, (map-facts sound).roads_are, ap (λ (M : Map). M.base.arcs) map-here, (sized b.accepts).live)

  -- ---- the pairs do not fit: what is left has the lengths of what was lent, and becomes zeros

  pub no_room : {pairs times : List ℕ} {z : code.Option ℕ} → Contraction (map_in roads order) (length a.built.pairs) pairs times z
      → z ≡ code.None → {left : Each ℕ} → left ≡ lengths a → {y : Areas} → y ≡ zeros_of left
      → PrepareContract card a y (handed_in (code.Err by.Room))
  unfolding prepare room_refusal
  no_room c overflows kept zeroed-are =
      let h = contraction_overflow c overflows in
      let q : length a.built.pairs < record_size * length (pairs_of (map_on card)) = omega (
        arith,
        h,
        ap (λ (M : Map). length (pairs_of M)) map-here,
      ) in
      rw (b.accepts.passes, lt-leb (record_size * length (pairs_of (map_on card))) (length a.built.pairs) q)
      (ap (λ (x : Areas). answering (Refused Room) (unprepared x) none_lent) (zeroed-are ∙ ap zeros_of kept))

  -- ---- the pairs fit

  lives : listed (length a.live) (base_in roads) ≡ listed (map_on card).base.arcs (λ i. word ((map_on card).base.cost i))
  lives =
      let f = map-facts sound in
      let k : (map_in roads order).base.arcs ≡ (map_on card).base.arcs = ap (λ (M : Map). M.base.arcs) map-here in
      ap (λ (n : ℕ). listed n (base_in roads)) (sized b.accepts).live
      ∙ listed_same (map_on card).base.arcs (base_in roads) (λ i. word ((map_on card).base.cost i))
      (λ i l. sym (ap word (ap (λ (M : Map). M.base.cost i) (sym map-here) ∙ base_in_lem roads order i (omega (arith, f.roads_are, k)))))

  -- the numbers that were handed on are the map's
  n-here : (map_in roads order).vertices ≡ s.n
  n-here = ap (λ (M : Map). M.vertices) map-here ∙ sym b.accepts.n-is

  m-here : (map_in roads order).base.arcs ≡ s.m
  m-here = ap (λ (M : Map). M.base.arcs) map-here ∙ sym b.accepts.m-is

  -- so the roads can be grouped
  pub groups-asked : GroupsAsked roads s.n s.m a.built.leaving a.built.groups
  groups-asked =
      let z = sized b.accepts in
      record {
        tails = subst₂ (TailsIn roads) n-here m-here (tails_on_map sound);
        leaving-is = z.leaving ∙ sym b.accepts.m-is;
        groups_are = z.groups ∙ ap suc (sym b.accepts.n-is);
      }

  -- and their groups are the map's
  by-tail : {leaving groups : List ℕ} → GroupsMade roads s.n s.m leaving groups
      → (leaving ≡ leaving_of (map_on card)) × (groups ≡ groups_of (map_on card))
  by-tail {leaving} {groups} made =
      let (leaving-is, groups_are) = made_on_map sound
      (subst₂ (λ (n : ℕ) (m : ℕ). GroupsMade roads n m leaving groups) (sym n-here) (sym m-here) made) in
      (leaving-is ∙ ap leaving_of map-here, groups_are ∙ ap groups_of map-here)

  pub with_room : {ranks pairs times live down estimates elapsed leaving groups : List ℕ} {count : ℕ}
      → Prepared roads order ranks pairs times count → length pairs ≡ length a.built.pairs
      → live ≡ listed (length a.live) (base_in roads)
      → down ≡ replicate (length a.aimed.down) none_word → estimates ≡ replicate (length a.aimed.estimates) unasked
      → elapsed ≡ replicate (length a.trip.elapsed) none_word → GroupsMade roads s.n s.m leaving groups
      → PrepareContract card a (areas_of ranks pairs times live down estimates elapsed leaving groups)
      (handed_in (code.Ok (record { n = s.n; m = s.m; pairs = count; card = s.card })))
  unfolding prepare room_refusal
  with_room p k live-is down_is estimates_are elapsed-is groups-made =
      let z = sized b.accepts in
      let M = map_on card in
      let n-is = b.accepts.n-is in
      let m-is = b.accepts.m-is in
      let card-is = b.accepts.card-is in
      let count-is = p.count-is ∙ ap (λ (M : Map). length (pairs_of M)) map-here in
      let (leaving-is, groups_are) = by-tail groups-made in
      let fresh = alike_same {y = fresh_areas M (length a.built.pairs)} (record {
        ranks = p.ranks_are ∙ ap (λ (M : Map). listed M.vertices (rank M)) map-here;
        pairs = p.pairs_are ∙ ap₂ records_in map-here k;
        times = p.times_are ∙ ap₂ times_in map-here (p.same-room ∙ k);
        live = live-is ∙ lives;
        down = down_is ∙ ap (λ (n : ℕ). replicate n none_word) z.down;
        estimates = estimates_are ∙ ap (λ (n : ℕ). replicate n unasked) z.estimates;
        elapsed = elapsed-is ∙ ap (λ (n : ℕ). replicate n none_word) z.elapsed;
        leaving = leaving-is;
        groups = groups_are;
      }) in
      rw (b.accepts.passes, le-leb (record_size * length (pairs_of M)) (length a.built.pairs) (omega (arith, p.room, count-is, k)))
      (λ i.
      answering Accepted (before (record { n = n-is i; m = m-is i; pairs = count-is i; card = card-is i; target = Absent }) (fresh i))
      none_lent)
