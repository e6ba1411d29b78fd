-- A refusal leaves everything as it was (`trip-refused`); otherwise answer and areas are the search's (`go-handed`).
use Rattle.std.specs.Prelude.{◌≡◌, Err, Ok, refl, ℕ}
use Rattle.std.proofs.Common.{◌∙◌, ap, rules}
use Rattle.model.specs.Areas.{Areas, Each, areas_of, lengths}
use Rattle.model.specs.State.{Lent}
use Rattle.model.specs.Calls.{Go}
use Rattle.network.specs.Refusals.{verdict_in}
use Rattle.unit_questions.specs.Lending.{lent_of}
use Rattle.calls.specs.Shape.{handed, header_in, held}
use Rattle.calls.specs.Trips.{TripPassed, met-length, trip-passed, trip-refused, trip_verdict, within}
use Rattle.call_go.proofs.Going.{go-handed, go-room, go-trips}
use Rattle.call_go.proofs.go.Goals as goal
use Rattle.call_go.proofs.go.Goals.{After-go_asked}

-- ---- the unit's areas, and the two that it is lent

abbrev areas : After-go_asked → Areas
areas c =
    let a = c.args in
    areas_of a.p.ranks.now a.p.pairs.now a.p.times.now a.live.now a.down.now a.estimates.now a.elapsed.now a.p.leaving.now a.p.groups.now

abbrev lent : After-go_asked → Lent
lent c = lent_of c.args.route.now c.args.log.now

-- ---- what the questions said

said : (c : After-go_asked) → let a = c.args in
    verdict_in c.go_asked.result
    ≡ trip_verdict a.p.card.now (header_in (held a.sizes a.target)) (lengths (areas c)) (Go a.class a.start.0) (lent c)
said c =
    let a = c.args in
    c.go_asked.ensures
    ∙ ap (λ (l : Each ℕ). trip_verdict a.p.card.now (header_in (held a.sizes a.target)) l (Go a.class a.start.0) (lent c))
    c.lengths-l.ensures

-- none refuses
passed : (c : After-go_asked) → c.go_asked.result ≡ Ok tt → let a = c.args in
    TripPassed a.p.card.now (held a.sizes a.target) (areas c) (Go a.class a.start.0) (lent c) a.start.0
passed c passes = trip-passed go-trips passes (said c)

-- ---- the answers

pub returns-in_err-go_asked : goal.returns-in_err-go_asked
returns-in_err-go_asked c =
    let at = (goal.at.returns-in_err-go_asked c).After-go_asked in
    let u = held c.args.sizes c.args.target in
    let refuses : c.from_residual.result ≡ Err c.in_err-go_asked.field-0.0 = search rules in
    trip-refused {u = u} {a = areas at} go-trips c.in_err-go_asked.was (said at) (ap (handed u) refuses)

pub search-found-requires : goal.search-found-requires
search-found-requires c =
    let a = c.args in
    let p = passed (goal.at.search-found-requires c).After-go_asked c.in_ok-go_asked.was in
    let room = go-room p in record {
      within = within p c.aimed_at.ensures c.roads_of.ensures c.order_of.ensures
          (met-length c.access_of.result.now a.class a.live.now) p.sizes.lengths.elapsed;
      ways-long = room.route-room;
      log-long = room.log-room;
    }

pub returns : goal.returns
returns c =
    let p = passed (goal.at.returns c).After-go_asked c.in_ok-go_asked.was in
    go-handed p c.aimed_at.ensures c.roads_of.ensures c.order_of.ensures c.access_of.ensures c.search-found.ensures c.gone.ensures
    {r = handed (held c.args.sizes c.args.target) c.gone.result} refl
