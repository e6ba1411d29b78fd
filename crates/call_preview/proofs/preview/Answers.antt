-- A refusal leaves everything as it was (`trip-refused`); otherwise answer and estimates are those of the two searches (`preview-handed`).
use Rattle.std.specs.Prelude.{◌≡◌, Err, None, Ok, Option, Some, refl, ℕ, length}
use Rattle.std.proofs.Common.{◌∙◌, ap, ap₂, rules}
use Rattle.graph.specs.Total.{Total}
use Rattle.model.specs.Types.{Answer}
use Rattle.model.specs.Areas.{Areas, Each, areas_of, lengths}
use Rattle.model.specs.State.{Lent, none_lent}
use Rattle.model.specs.Calls.{Asked, Preview}
use Rattle.model.specs.Preview.{preview_answer}
use Rattle.network.specs.Refusals.{verdict_in}
use Rattle.search.specs.Searches.{total_in}
use Rattle.unit_answers.specs.Shape as answers
use Rattle.unit_answers.specs.Signed as signed
use Rattle.calls.specs.Shape.{handed, header_in, held}
use Rattle.calls.specs.Trips.{TripPassed, met-length, trip-passed, trip-refused, trip_verdict, within}
use Rattle.call_preview.proofs.Previewing.{preview-facts, preview-handed, preview-trips, work-made, work-refused}
use Rattle.call_preview.proofs.preview.Goals as goal
use Rattle.call_preview.proofs.preview.Goals.{After-preview_asked}

-- ---- the unit's areas, and what is asked

abbrev areas : After-preview_asked → Areas
areas c =
    let a = c.args in
    areas_of a.p.ranks.now a.p.pairs.now a.p.times.now a.live.now a.down.now a.estimates.now a.elapsed.now a.p.leaving.now a.p.groups.now

abbrev asked : After-preview_asked → Asked
asked c = let a = c.args in Preview a.class a.road a.time.0 a.start.0 (length a.work.now)

-- ---- what the questions said, whatever else is lent

said : (c : After-preview_asked) (k : Lent) → let a = c.args in
    verdict_in c.preview_asked.result
    ≡ trip_verdict a.p.card.now (header_in (held a.sizes a.target)) (lengths (areas c)) (asked c) k
said c k =
    let a = c.args in
    c.preview_asked.ensures
    ∙ ap (λ (l : Each ℕ). trip_verdict a.p.card.now (header_in (held a.sizes a.target)) l (asked c) k) c.lengths-l.ensures

-- none refuses
passed : (c : After-preview_asked) → c.preview_asked.result ≡ Ok tt → (k : Lent) → let a = c.args in
    TripPassed a.p.card.now (held a.sizes a.target) (areas c) (asked c) k a.start.0
passed c passes k = trip-passed preview-trips passes (said c k)

-- the search and the answer have the same word for a total
same-total : (o : Option ℕ) → answers.total_in o ≡ total_in o
same-total (Some t) = refl
same-total None = refl

answered : (a b : Option ℕ) {x : Answer} → x ≡ preview_answer (signed.held (answers.total_in a)) (signed.held (answers.total_in b))
    → x ≡ preview_answer (signed.held (total_in a)) (signed.held (total_in b))
answered a b e = e ∙ ap₂ (λ (x : Total) (y : Total). preview_answer (signed.held x) (signed.held y)) (same-total a) (same-total b)

-- ---- the answers

pub returns-in_err-preview_asked : goal.returns-in_err-preview_asked
returns-in_err-preview_asked c =
    let at = (goal.at.returns-in_err-preview_asked c).After-preview_asked in
    let u = held c.args.sizes c.args.target in
    let refuses : c.from_residual.result ≡ Err c.in_err-preview_asked.field-0.0 = search rules in
    record {
      call = λ k. trip-refused {u = u} {a = areas at} preview-trips c.in_err-preview_asked.was (said at k) (ap (handed u) refuses);
      work-left = work-refused;
    }

pub totals-found-requires : goal.totals-found-requires
totals-found-requires c =
    let a = c.args in
    let p = passed (goal.at.totals-found-requires c).After-preview_asked c.in_ok-preview_asked.was none_lent in record {
      within = within p c.aimed_at.ensures c.roads_of.ensures c.order_of.ensures
          (met-length c.access_of.result.now a.class a.live.now) refl;
      work-is = (preview-facts p).work-is;
    }

pub returns : goal.returns
returns c =
    let p = passed (goal.at.returns c).After-preview_asked c.in_ok-preview_asked.was in
    let found = c.totals-found.result in
    let answer-is = answered found.present found.new c.previewed.ensures in
    record {
      call = λ k. preview-handed (p k) c.aimed_at.ensures c.roads_of.ensures c.order_of.ensures c.access_of.ensures
          c.totals-found.ensures {x = Ok c.previewed.result} answer-is refl;
      work-left = work-made c.totals-found.auto.work {u = held c.args.sizes c.args.target}
          {x = Ok c.previewed.result} answer-is refl;
    }
