use Rattle.type_positions.proofs.WrittenSteps.{prim_meant, void_meant, named_meant}
use Rattle.type_positions.proofs.written.written_type.Goals as goal

pub returns-in_ok-m-in-Prim : goal.returns-in_ok-m-in-Prim
returns-in_ok-m-in-Prim g c = record { judged = prim_meant c.args.cx.now c.args.frames.now c.args.written.now c.in-Prim.p c.in_ok-m-in-Prim.m _ c.args.log.now c.in-Prim.is c.in_ok-m-in-Prim.ensures }

pub returns-in-Void : goal.returns-in-Void
returns-in-Void g c = record { judged = void_meant c.args.cx.now c.args.frames.now c.args.written.now c.known.result _ c.args.log.now c.in-Void.is c.known.ensures }

pub returns-in_ok-m-in-Named : goal.returns-in_ok-m-in-Named
returns-in_ok-m-in-Named g c =
    record { judged = named_meant c.args.cx.now c.args.frames.now c.args.written.now _ c.in_ok-symbol-in-Named.symbol c.in_ok-m-in-Named.m _ _ _ c.in-Named.is (rw c.as_slice.ensures at c.in_ok-symbol-in-Named.ensures.judged) c.in_ok-m-in-Named.ensures }
