-- One of the four calls and a list of stops are lent the first entries of route and log, and what they leave there is put back in front of
-- the rest (`lent-made`). A preview is lent the work area, and leaves route and log (`preview-made`).
use Rattle.model.specs.Types.{Answered}
use Rattle.unit.specs.Shape.{answered_in, header_in}
use Rattle.unit.specs.declared.Stopped.{Stopped}
use Rattle.call_stops.specs.Shape.{stopping_in}
use Rattle.unit_script.proofs.Scripts.{lent-made, preview-made}
use Rattle.unit_script.proofs.make_call.Goals as goal

-- what it hands back, as the model's
abbrev handed : Stopped → Answered
handed r = record { header = header_in r.header; answer = stopping_in r.answer }

pub returns-in-Four : goal.returns-in-Four
returns-in-Four c =
    let call = c.call in
    let (route-fits, log-fits) = c.requires in
    let (same, words) = c.of_answered.ensures in
    lent-made (answered_in call.result) c.args.c _ _ route-fits log-fits same words c.in-Four.is
    call.ensures call.auto.route call.auto.log

pub returns-in-Preview : goal.returns-in-Preview
returns-in-Preview c =
    let preview = c.preview in
    let (route-fits, log-fits) = c.requires in
    let (same, words) = c.of_answered-in-Preview.ensures in
    preview-made (answered_in preview.result) c.args.c _ _ route-fits log-fits same words c.in-Preview.is
    preview.ensures.call

pub of_stopped-requires : goal.of_stopped-requires
of_stopped-requires c = c.stops.ensures.rest

pub returns-in-Stops : goal.returns-in-Stops
returns-in-Stops c =
    let stops = c.stops in
    let (route-fits, log-fits) = c.requires in
    let (same, words) = c.of_stopped.ensures in
    lent-made (handed stops.result) c.args.c _ _ route-fits log-fits same words c.in-Stops.is
    stops.ensures.call stops.auto.route stops.auto.log
