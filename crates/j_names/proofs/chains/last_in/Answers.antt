use Rattle.std.proofs.Common.{◌-◌, get_or, arith}
use Rattle.j_names.specs.declared.link.Link.{Link}
use Rattle.j_names.proofs.Linking.{at_any, from_head, one_back}
use Rattle.j_names.proofs.chains.last_in.Goals as goal

pub loop-at-init : goal.loop-at-init
loop-at-init c = from_head c.args.number c.args.end c.args.links.now c.head-at.result c.head-at.ensures

pub loop-at-preserved : goal.loop-at-preserved
loop-at-preserved c =
    let ls = c.args.links.now in
    let at = c.loop-at.at in
    let nothing : Link = record { number = 0; before = 0 } in
    let l = get_or ls (at - 1) nothing in
    one_back c.args.number c.args.end ls c.args.heads.now c.requires.chained at c.loop-at.invariant
    c.loop-at-test.true l
    (at_any ls (at - 1) nothing l (omega (arith, c.loop-at.invariant.within, c.loop-at-test.true)))
