use Rattle.j_names.proofs.Meant.{meant_in_frames, meant_in_classes, meant_imported, meant_in_package, meant_on_demand}
use Rattle.j_names.proofs.types.type_meant.Goals as goal

pub returns-in-Some : goal.returns-in-Some
returns-in-Some g c =
    meant_in_frames (g.C.Classes.world c.args.c.now) c.args.cx.now c.args.frames.now c.args.n.now _
    c.top_around-top.ensures c.args.asks.now c.type_in_frames.new.asks c.in-Some.s
    (rw c.in-Some.is at c.in_ok-s.ensures)

pub returns-in-Some-2 : goal.returns-in-Some-2
returns-in-Some-2 g c =
    meant_in_classes (g.C.Classes.world c.args.c.now) c.args.cx.now c.args.frames.now c.args.n.now _
    c.top_around-top.ensures c.args.asks.now
    c.type_in_frames.new.asks (rw c.in_default.is at c.in_ok-s.ensures)
    c.type_in_classes.new.asks c.in-Some-2.s (rw (c.in-Some-2.is, c.as_slice.ensures) at c.in_ok-s-2.ensures)

pub returns-in-Some-3 : goal.returns-in-Some-3
returns-in-Some-3 g c =
    meant_imported (g.C.Classes.world c.args.c.now) c.args.cx.now c.args.frames.now c.args.n.now _
    c.top_around-top.ensures c.args.asks.now
    c.type_in_frames.new.asks (rw c.in_default.is at c.in_ok-s.ensures)
    c.type_in_classes.new.asks (rw (c.in_default-2.is, c.as_slice.ensures) at c.in_ok-s-2.ensures)
    c.in-Some-3.s (rw (c.in-Some-3.is, c.as_slice-rows.ensures) at c.in_ok-s-3.ensures)

pub returns-in-Some-4 : goal.returns-in-Some-4
returns-in-Some-4 g c =
    meant_in_package (g.C.Classes.world c.args.c.now) c.args.cx.now c.args.frames.now c.args.n.now _
    c.top_around-top.ensures c.args.asks.now
    c.type_in_frames.new.asks (rw c.in_default.is at c.in_ok-s.ensures)
    c.type_in_classes.new.asks (rw (c.in_default-2.is, c.as_slice.ensures) at c.in_ok-s-2.ensures)
    (rw (c.in_default-3.is, c.as_slice-rows.ensures) at c.in_ok-s-3.ensures)
    c.type_at.new.asks c.in-Some-4.s (rw (c.in-Some-4.is, c.in_ok-own.ensures) at c.in_ok-s-4.ensures)

pub returns : goal.returns
returns g c =
    meant_on_demand (g.C.Classes.world c.args.c.now) c.args.cx.now c.args.frames.now c.args.n.now _
    c.top_around-top.ensures c.args.asks.now
    c.type_in_frames.new.asks (rw c.in_default.is at c.in_ok-s.ensures)
    c.type_in_classes.new.asks (rw (c.in_default-2.is, c.as_slice.ensures) at c.in_ok-s-2.ensures)
    (rw (c.in_default-3.is, c.as_slice-rows.ensures) at c.in_ok-s-3.ensures)
    c.type_at.new.asks c.type_on_demand.new.asks c.in_ok-s-5.s
    (rw (c.in_default-4.is, c.in_ok-own.ensures) at c.in_ok-s-4.ensures)
    (rw c.as_slice-rows.ensures at c.in_ok-s-5.ensures)
