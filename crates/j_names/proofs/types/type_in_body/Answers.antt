use Rattle.std.proofs.Common.{Some, None, if◌then◌else◌}
use Rattle.std.specs.Option.{option_copied}
use Rattle.jtypes.specs.World.{name_eq}
use Rattle.jtypes.specs.declared.symbol.Symbol.TheVariants.{Kind}
use Rattle.j_names.specs.Members.{member_type_of}
use Rattle.j_names.specs.Names.{last_part}
use Rattle.j_names.proofs.Found.{value_before, value_behind}
use Rattle.j_names.proofs.types.type_in_body.Goals as goal

pub returns-in-Some : goal.returns-in-Some
returns-in-Some g c =
    let name = c.args.name.now in
    let n = c.args.n.now in
    value_before (g.C.Classes.world c.args.c.now) (member_type_of (option_copied c.args.top) n name)
    (if name_eq (last_part name) n then Some (Kind name) else None)
    c.args.asks.now c.member_type_of.new.asks c.in-Some.s (rw c.in-Some.is at c.in_ok-s.ensures)

pub returns : goal.returns
returns g c =
    let name = c.args.name.now in
    let n = c.args.n.now in
    value_behind (g.C.Classes.world c.args.c.now) (member_type_of (option_copied c.args.top) n name)
    (if name_eq (last_part name) n then Some (Kind name) else None)
    c.args.asks.now c.member_type_of.new.asks c.in_ok-own.own (rw c.in_default.is at c.in_ok-s.ensures)
    c.in_ok-own.ensures
