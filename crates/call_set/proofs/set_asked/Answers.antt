-- Once 9 has passed, the card's roads are there.
use Rattle.std.specs.Prelude.{None}
use Rattle.model.specs.Types.{Lengths}
use Rattle.model.specs.Set.{set_refusal}
use Rattle.calls.specs.Fitting.{fits-facts}
use Rattle.calls.specs.Rows.{passes, yes_at}
use Rattle.calls.specs.Shape.{header_in, held}
use Rattle.call_set.proofs.set_asked.Goals as goal

pub time_asked-requires : goal.time_asked-requires
time_asked-requires c = (fits-facts {h = header_in (held c.args.sizes None)} (passes Lengths c.in_ok-ask.ensures c.fits.ensures)).roads

-- 10 and 11 name no target
pub returns : goal.returns
unfolding set_refusal
returns c t = yes_at Lengths c.in_ok-ask.ensures c.fits.ensures c.time_asked.ensures
