use Rattle.std.proofs.Common.{take, ◌<◌}
use Rattle.std.specs.List.{zip}
use Rattle.jtypes.specs.Subtype.{subtype}
use Rattle.jtypes.specs.declared.types.JType.{JType}
use Rattle.j_overload.specs.Parameters.{parameter_types, compared_count}
use Rattle.j_overload.specs.Rules.{more_specific}
use Rattle.j_overload.proofs.Testing.{told_all_more}
use Rattle.j_overload.proofs.TypeLists.{zip_more, zip_all, compared_length, up_to}
use Rattle.j_overload.proofs.specific.is_more_specific.Goals as goal

pub loop-at-preserved : goal.loop-at-preserved
loop-at-preserved g c =
    let k = compared_count c.args.count c.args.n.now in
    let types = parameter_types c.args.phase c.args.m.now k in
    let others = parameter_types c.args.phase c.args.n.now k in
    let at = c.loop-at.at in
    let t = c.parameter_type-t.result.now in
    let u = c.parameter_type-u.result.now in
    let lt : c.loop-at.at < k = rw c.compared_count-at-end.ensures at c.loop-at-test.true in
    let more = zip_more types others at t u (c.parameter_type-t.ensures k lt) (c.parameter_type-u.ensures k lt) in
    rw more (told_all_more {A = JType × JType} (λ t. subtype t.0 t.1) (take at (zip types others)) (t, u) (g.C.Classes.world c.args.c.now) c.args.asks.now c.loop-at.asks c.is_subtype_asking.new.asks c.loop-at.all c.in_ok-more.more c.loop-at.invariant c.in_ok-more.ensures)

pub returns : goal.returns
unfolding more_specific
returns g c =
    let k = compared_count c.args.count c.args.n.now in
    let le = compared_length c.args.phase c.args.n.now c.args.count c.requires.second in
    let all = zip_all (parameter_types c.args.phase c.args.m.now k) (parameter_types c.args.phase c.args.n.now k) c.loop-at.at (up_to _ _ _ _ c.compared_count-at-end.ensures le c.loop-at-test.false) in
    rw all at c.loop-at.invariant
