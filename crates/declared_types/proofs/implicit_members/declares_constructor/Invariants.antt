use Rattle.std.proofs.Common.{◌≡◌, drop}
use Rattle.std.specs.List.{list_any}
use Rattle.jtypes.specs.World.{name_eq}
use Rattle.j_names.specs.Calls.{constructor_name}
use Rattle.declared_types.proofs.implicit_members.declares_constructor.Given as goal

abbrev pub invariant-loop-m : goal.invariant-loop-m
invariant-loop-m l =
    list_any (λ m. name_eq m.name constructor_name) (drop l.m-index l.d.methods)
    ≡ list_any (λ m. name_eq m.name constructor_name) l.d.methods
