-- What a world of rows answers: a class has a row, which holds its header and, by name, its fields and methods.
use Rattle.std.specs.Prelude.{◌≡◌, ℕ, List, [], Option, None, Some, filter}
use Rattle.indexmap.specs.IndexMap.{IndexMap, get}
use Rattle.jtypes.specs.World.{World, name_eq, first}
use Rattle.jtypes.specs.declared.ask.Ask.TheVariants.{Class, Field, Methods}
use Rattle.jtypes.specs.declared.signatures.FieldSig.{FieldSig}
use Rattle.jtypes.specs.declared.signatures.Header.{Header}
use Rattle.jtypes.specs.declared.signatures.MethodSig.{MethodSig}
use Rattle.class_world.specs.declared.row.ClassRow.{ClassRow}
use Rattle.class_world.specs.declared.world.World.{World as BuiltWorld}

-- ---- members by name

-- those of some members that bear a name, in their order
abbrev pub of_name : {A : Type 0} → (A → List ℕ) → List ℕ → List A → List A
of_name name n xs = filter (λ x. name_eq (name x) n) xs

abbrev pub field_at : List FieldSig → List ℕ → Option FieldSig
field_at fields n = first (of_name (λ f. f.name) n fields)

abbrev pub methods_at : List MethodSig → List ℕ → List MethodSig
methods_at methods n = of_name (λ m. m.name) n methods

-- ---- rows

-- a row holds a header, and answers by name as the two lists do
pub record IsRow (row : ClassRow) (header : Header) (fields : List FieldSig) (methods : List MethodSig) : Type 0 where
  pub head : row.header ≡ header
  pub each_field : (n : List ℕ) → field_at row.fields n ≡ first (filter (λ f. name_eq f.name n) fields)
  pub each_method : (n : List ℕ) → methods_at row.methods n ≡ filter (λ m. name_eq m.name n) methods

abbrev pub header_of : Option ClassRow → Option Header
header_of None = None
header_of (Some row) = Some row.header

abbrev pub field_of_row : Option ClassRow → List ℕ → Option FieldSig
field_of_row None name = None
field_of_row (Some row) name = field_at row.fields name

abbrev pub methods_of_row : Option ClassRow → List ℕ → List MethodSig
methods_of_row None name = []
methods_of_row (Some row) name = methods_at row.methods name

-- ---- worlds

abbrev pub rows_world : {S : Type 0} → IndexMap (List ℕ) ClassRow S → World
rows_world rows (Class name) = header_of (get name_eq rows name)
rows_world rows (Field owner name) = field_of_row (get name_eq rows owner) name
rows_world rows (Methods owner name) = methods_of_row (get name_eq rows owner) name

abbrev pub world_in : BuiltWorld → World
world_in w = rows_world w.rows
