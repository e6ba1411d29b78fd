-- Once 9 has passed, the card's roads are there.
use Rattle.std.specs.Prelude.{None}
use Rattle.model.specs.Types.{Lengths}
use Rattle.calls.specs.Fitting.{fits-facts}
use Rattle.calls.specs.Rows.{passes}
use Rattle.calls.specs.Shape.{header_in, held}
use Rattle.call_preview.proofs.preview_asked.Goals as goal

pub time_asked-requires : goal.time_asked-requires
time_asked-requires c = (fits-facts {h = header_in (held c.args.sizes None)} (passes Lengths c.in_ok-ask.ensures c.fits.ensures)).roads
