use Rattle.std.proofs.Common.{◌∙◌, sym}
use Rattle.j_names.specs.Walk.{sought, walked}
use Rattle.j_names.proofs.Visits.{start_interface, start_class}
use Rattle.j_names.proofs.walk.walk_behind.Goals as goal

pub returns-in_ok-walk_up : goal.returns-in_ok-walk_up
returns-in_ok-walk_up g c =
    let what = sought g.S.Seek.over (g.S.Seek.visited c.args.seek.now) in
    let w = g.C.Classes.world c.args.c.now in
    start_interface what w (walked c.args.found.now c.args.seen.now) c.args.header.now c.args.asks.now
    c.walk_each.new.asks c.walk_up.new.asks (walked c.walk_each.new.found c.walk_each.new.seen)
    (walked c.walk_up.new.found c.walk_up.new.seen)
    (sym c.is_interface.ensures ∙ c.if-is_interface.true)
    (rw (c.most_behind.ensures, c.as_slice-supertypes.ensures) at c.in_ok-walk_each.ensures)
    (rw (c.most_behind-then-is_interface.ensures, c.in_ok-object.ensures) at c.in_ok-walk_up.ensures)

pub returns-else-is_interface : goal.returns-else-is_interface
returns-else-is_interface g c =
    let what = sought g.S.Seek.over (g.S.Seek.visited c.args.seek.now) in
    let w = g.C.Classes.world c.args.c.now in
    start_class what w (walked c.args.found.now c.args.seen.now) c.args.header.now c.args.asks.now
    c.walk_each.new.asks (walked c.walk_each.new.found c.walk_each.new.seen)
    (sym c.is_interface.ensures ∙ c.if-is_interface.false)
    (rw (c.most_behind.ensures, c.as_slice-supertypes.ensures) at c.in_ok-walk_each.ensures)
