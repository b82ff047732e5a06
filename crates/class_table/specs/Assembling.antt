-- The parts that the code puts a declared type together from; no public clause cites them.
use Rattle.std.specs.Prelude.{ℕ, Bool, List}
use Rattle.jtypes.specs.declared.signatures.ClassKind.{ClassKind}
use Rattle.class_table.specs.declared.around.Around.{Around}
use Rattle.class_table.specs.declared.assembling.Place.{Place}
use Rattle.class_table.specs.declared.assembling.Supers.{Supers}
use Rattle.class_table.specs.declared.assembling.TypeMembers.{TypeMembers}
use Rattle.declared_types.specs.declared.written.DeclaredType.{DeclaredType}
use Rattle.class_table.specs.Declarations.{or_itself}

abbrev pub place_of : Around → List ℕ → Place
place_of a name = record { name = name; top = or_itself name a.top; cx = a.cx; scopes = a.scopes }

abbrev pub assembled : ClassKind → Bool → Place → Supers → TypeMembers → DeclaredType
assembled kind is_private place supers members = record {
  name = place.name;
  kind = kind;
  top = place.top;
  is_private = is_private;
  cx = place.cx;
  around = place.scopes;
  type_params = supers.type_params;
  superclass = supers.superclass;
  interfaces = supers.interfaces;
  fields = members.fields;
  methods = members.methods;
}
