use Rattle.declared_types.specs.Signatures.{plain_written}
use Rattle.declared_types.proofs.MemberTypes.{plain_by_name}
use Rattle.declared_types.proofs.member_types.plain_written.Goals as goal

pub returns-in_ok-ty-in-Named : goal.returns-in_ok-ty-in-Named
unfolding plain_written
returns-in_ok-ty-in-Named g c =
    let w = c.args.w.now in
    rw c.in_ok-ty-in-Named.ensures (plain_by_name c.args.owner.now c.args.own.now w.dims w.base
    (g.C.Classes.world c.args.c.now) c.in-Named.part c.in-Named.parts c.in-Named.is c.args.asks.now
    c.name_meant.new.asks c.in_ok-meaning-in-Named.meaning (rw c.as_slice.ensures at c.in_ok-meaning-in-Named.ensures))
