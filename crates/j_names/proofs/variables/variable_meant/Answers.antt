use Rattle.j_names.proofs.Variable.{in_frames, in_classes, in_owners}
use Rattle.j_names.proofs.variables.variable_meant.Goals as goal

pub returns-in-Some : goal.returns-in-Some
returns-in-Some g c =
    in_frames (g.C.Classes.world c.args.c.now) c.args.cx.now c.args.frames.now c.args.n.now _ c.top_around-top.ensures
    c.args.asks.now c.variable_in_frames.new.asks c.in-Some.s (rw c.in-Some.is at c.in_ok-s.ensures)

pub returns-in-Some-2 : goal.returns-in-Some-2
returns-in-Some-2 g c =
    in_classes (g.C.Classes.world c.args.c.now) c.args.cx.now c.args.frames.now c.args.n.now _
    c.top_around-top.ensures
    c.args.asks.now c.variable_in_frames.new.asks (rw c.in_default.is at c.in_ok-s.ensures)
    c.field_in_classes.new.asks c.in-Some-2.s (rw (c.in-Some-2.is, c.as_slice.ensures) at c.in_ok-s-2.ensures)

pub returns : goal.returns
returns g c =
    in_owners (g.C.Classes.world c.args.c.now) c.args.cx.now c.args.frames.now c.args.n.now _ c.top_around-top.ensures
    c.args.asks.now c.variable_in_frames.new.asks (rw c.in_default.is at c.in_ok-s.ensures)
    c.field_in_classes.new.asks c.field_in_owners.new.asks c.in_ok-s-3.s
    (rw (c.in_default-2.is, c.as_slice.ensures) at c.in_ok-s-2.ensures)
    (rw (c.as_slice-3.ensures, c.in_ok-owners.ensures, c.as_slice-2.ensures) at c.in_ok-s-3.ensures)
