use Rattle.std.proofs.Common.{take, subst}
use Rattle.std.proofs.lemmas.List.{take_rest}
use Rattle.journal_text.specs.Stops.{StopsAt, PathFront}
use Rattle.journal_text.specs.Forms.{StuckAt}
use Rattle.journal_text.specs.Parts.{IsPathBehind, Ended}
use Rattle.journal_text.proofs.Places.{on_at}
use Rattle.journal_text.proofs.PathStops.{line_stuck, rest_stuck}
use Rattle.journal_text.proofs.paths.path.Goals as goal

pub returns-in-None-clause-stuck : goal.returns-in-None-clause-stuck
returns-in-None-clause-stuck c = on_at _ _ (StuckAt (Ended (IsPathBehind c.args.before.now) 10) c.args.bytes.now c.args.at) c.stop_at.ensures
    (rest_stuck c.args.before.now c.args.bytes.now c.args.at c.path_stop.result c.requires.inside c.in-None.ensures.none
    (subst (λ l. StopsAt c.args.before.now l c.path_stop.result) (take_rest c.args.bytes.now c.args.at) c.path_stop.ensures.stops)
    (subst (λ l. PathFront c.args.before.now (take c.path_stop.result l)) (take_rest c.args.bytes.now c.args.at) c.path_stop.ensures.front))

pub returns-in-Ok-None-clause-stuck : goal.returns-in-Ok-None-clause-stuck
returns-in-Ok-None-clause-stuck c = on_at _ _ (StuckAt (Ended (IsPathBehind c.args.before.now) 10) c.args.bytes.now c.args.at) c.stop_at-in-Ok-None.ensures
    (line_stuck c.args.before.now c.args.bytes.now c.args.at c.in-Some.end c.path_stop-in-Ok-None.result c.in-Some.ensures.some (rw c.in-Ok-None.field-0-is at c.in-Ok-None.ensures) c.path_stop-in-Ok-None.ensures.stops c.path_stop-in-Ok-None.ensures.front)
