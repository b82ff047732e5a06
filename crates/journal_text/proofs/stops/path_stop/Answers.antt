use Rattle.std.proofs.Common.{take}
use Rattle.journal_text.proofs.PathFronts.{stops_shorter, path_front}
use Rattle.journal_text.proofs.stops.path_stop.Goals as goal

pub returns-clause-stops : goal.returns-clause-stops
returns-clause-stops c =
    let before = c.args.before.now in
    let shown = take c.control_stop.result c.args.line.now in
    let ordered = take c.order_stop.result shown in
    stops_shorter before c.args.line.now c.control_stop.result c.parts_stop.result (c.control_stop.ensures.stops before)
    (stops_shorter before shown c.order_stop.result c.parts_stop.result c.order_stop.ensures.stops
    (stops_shorter before ordered c.utf8_stop.result c.parts_stop.result (c.utf8_stop.ensures.stops before) (c.parts_stop.ensures.stops before)))

pub returns-clause-front : goal.returns-clause-front
returns-clause-front c =
    path_front c.args.before.now c.args.line.now c.control_stop.result c.order_stop.result c.utf8_stop.result c.parts_stop.result c.requires
    c.control_stop.ensures.inside c.control_stop.ensures.front c.order_stop.ensures.inside c.order_stop.ensures.front
    c.utf8_stop.ensures.inside c.utf8_stop.ensures.front c.parts_stop.ensures.inside c.parts_stop.ensures.front c.parts_stop.ensures.slash
