-- Names that declarations have without writing them. Those of Object and of constructors are j_names' own.
use Rattle.std.specs.Prelude.{ℕ, List, codes}

-- the superclass of an enum (JLS 8.9)
unfoldable pub enum_name : List ℕ
enum_name = codes "java.lang.Enum"

-- the superinterface of an annotation type (JLS 9.6)
unfoldable pub annotation_name : List ℕ
annotation_name = codes "java.lang.annotation.Annotation"

-- the methods of an enum (JLS 8.9.3), and the type of the parameter of valueOf
unfoldable pub values_name : List ℕ
values_name = codes "values"

unfoldable pub value_of_name : List ℕ
value_of_name = codes "valueOf"

unfoldable pub string_name : List ℕ
string_name = codes "java.lang.String"
