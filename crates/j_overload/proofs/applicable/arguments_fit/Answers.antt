use Rattle.std.proofs.Common.{length, take}
use Rattle.std.specs.List.{zip}
use Rattle.jtypes.specs.declared.types.JType.{JType}
use Rattle.j_overload.specs.Parameters.{parameter_types}
use Rattle.j_overload.specs.Rules.{argument_fit}
use Rattle.j_overload.specs.declared.argument.ArgType.{ArgType}
use Rattle.j_overload.proofs.Testing.{told_all_more}
use Rattle.j_overload.proofs.TypeLists.{at_place, zip_more, zip_all_first}
use Rattle.j_overload.proofs.applicable.arguments_fit.Goals as goal

pub loop-at-preserved : goal.loop-at-preserved
loop-at-preserved g c =
    let args = c.args.args.now in
    let types = parameter_types c.args.phase c.args.m.now (length args) in
    let at = c.loop-at.at in
    let x = c.index-args-at.result in
    let t = c.parameter_type-t.result.now in
    let more = zip_more args types at x t (at_place args at x c.loop-at-test.true c.index-args-at.is) (c.parameter_type-t.ensures (length args) c.loop-at-test.true) in
    rw more (told_all_more {A = ArgType × JType} (λ t. argument_fit c.args.phase t.0 t.1) (take at (zip args types)) (x, t) (g.C.Classes.world c.args.c.now) c.args.asks.now c.loop-at.asks c.argument_fits.new.asks c.loop-at.all c.in_ok-fits.fits c.loop-at.invariant c.in_ok-fits.ensures)

pub returns : goal.returns
returns g c =
    let args = c.args.args.now in
    let all = zip_all_first args (parameter_types c.args.phase c.args.m.now (length args)) c.loop-at.at c.loop-at-test.false in
    rw all at c.loop-at.invariant
