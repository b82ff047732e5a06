use Rattle.declared_types.proofs.Classes.{class_named}
use Rattle.declared_types.proofs.supertypes.class_written.Goals as goal

pub returns-in_ok-meaning-in-Named : goal.returns-in_ok-meaning-in-Named
returns-in_ok-meaning-in-Named g c =
    rw c.class_of.ensures (class_named (g.C.Classes.world c.args.c.now) c.args.cx.now c.args.frames.now
    c.args.w.now.dims c.args.w.now.base c.in-Named.part c.in-Named.parts c.args.asks.now c.name_meant.new.asks
    c.in_ok-meaning-in-Named.meaning c.if-w-ne0.false c.in-Named.is
    (rw c.as_slice.ensures at c.in_ok-meaning-in-Named.ensures))
