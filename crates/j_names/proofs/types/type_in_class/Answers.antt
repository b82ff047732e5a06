use Rattle.std.proofs.Common.{Some, None, if◌then◌else◌}
use Rattle.std.specs.Option.{option_copied}
use Rattle.jtypes.specs.World.{name_eq}
use Rattle.jtypes.specs.declared.symbol.Symbol.TheVariants.{Kind, TypeVar}
use Rattle.j_names.specs.Walk.{is_in}
use Rattle.j_names.specs.Members.{member_type_of}
use Rattle.j_names.specs.Names.{last_part}
use Rattle.j_names.proofs.Found.{values_before, first_value, second_value}
use Rattle.j_names.proofs.types.type_in_class.Goals as goal

pub returns-in-Some : goal.returns-in-Some
returns-in-Some g c =
    let name = c.args.e.now.name in
    let n = c.args.n.now in
    values_before (g.C.Classes.world c.args.c.now) (member_type_of (option_copied c.args.top) n name)
    (if is_in c.args.e.now.type_params n then Some (TypeVar n) else None)
    c.args.asks.now c.member_type_of.new.asks
    (if name_eq (last_part name) n then Some (Kind name) else None)
    c.in-Some.s (rw c.in-Some.is at c.in_ok-s.ensures)

pub returns-in-Some-2 : goal.returns-in-Some-2
returns-in-Some-2 g c =
    let name = c.args.e.now.name in
    let n = c.args.n.now in
    first_value (g.C.Classes.world c.args.c.now) (member_type_of (option_copied c.args.top) n name)
    (if is_in c.args.e.now.type_params n then Some (TypeVar n) else None)
    c.args.asks.now c.member_type_of.new.asks
    (if name_eq (last_part name) n then Some (Kind name) else None)
    c.in-Some-2.s (rw c.in_default.is at c.in_ok-s.ensures)
    (rw (c.in-Some-2.is, c.is_among.ensures, c.as_slice.ensures) at c.in_ok-s-2.ensures)

pub returns : goal.returns
returns g c =
    let name = c.args.e.now.name in
    let n = c.args.n.now in
    second_value (g.C.Classes.world c.args.c.now) (member_type_of (option_copied c.args.top) n name)
    (if is_in c.args.e.now.type_params n then Some (TypeVar n) else None)
    c.args.asks.now c.member_type_of.new.asks
    (if name_eq (last_part name) n then Some (Kind name) else None)
    c.in_ok-own.own (rw c.in_default.is at c.in_ok-s.ensures)
    (rw (c.in_default-2.is, c.is_among.ensures, c.as_slice.ensures) at c.in_ok-s-2.ensures)
    c.in_ok-own.ensures
