use Rattle.std.proofs.Common.{◌∙◌, sym}
use Rattle.declared_types.proofs.NameSteps.{lone_name, longer_name}
use Rattle.declared_types.proofs.resolving.name_meant.Goals as goal

pub returns-then-is_empty : goal.returns-then-is_empty
returns-then-is_empty g c =
    rw c.in_ok-meaning.ensures (lone_name (g.C.Classes.world c.args.c.now) c.args.cx.now c.args.frames.now c.args.part.now c.args.asks.now
    c.type_named_asking.new.asks c.args.parts.now (sym c.is_empty.ensures ∙ c.if-is_empty.true)
    c.in_ok-found.found c.in_ok-found.ensures.told)

pub returns : goal.returns
returns g c =
    rw c.in_ok-meaning-2.ensures (longer_name (g.C.Classes.world c.args.c.now) c.args.cx.now c.args.frames.now c.args.part.now c.args.asks.now
    c.type_or_package_asking.new.asks c.args.parts.now (sym c.is_empty.ensures ∙ c.if-is_empty.false)
    c.in_ok-scope.scope c.in_ok-scope.ensures.told c.parts_behind.new.asks c.in_ok-last.last
    c.in_ok-last.ensures)
