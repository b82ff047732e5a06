-- Where types, packages and imports are written (JLS 4.2, 4.3, 7.4, 7.5, 9.7).
use Rattle.std.specs.Prelude.{ℕ, ◌==◌, List, [], ◌∷◌, Option, None, Some, false, if◌then◌else◌, map, unwrap_or}
use Rattle.rw_base.specs.Trees.{none, leaf, node, Numbered}
use Rattle.java_lex.specs.declared.class.TheConstants.{PRIM, STATIC}
use Rattle.java_nodes.specs.Directly.{first_of, leaves_in, has_word}
use Rattle.jtypes.specs.declared.symbol.Symbol.{Symbol}
use Rattle.jtypes.specs.declared.symbol.Symbol.TheVariants as symbol
use Rattle.jtypes.specs.declared.types.JType.TheVariants.{Unknown}
use Rattle.j_names.specs.declared.context.Frame.{Frame}
use Rattle.judging.specs.Judging.{Judging, give, noting, and_then}
use Rattle.judging.specs.declared.log.Note.TheVariants as note
use Rattle.expression_names.specs.declared.denoted.Denoted.TheVariants.{Class}
use Rattle.type_positions.specs.Declarations.{package_notes, imported}
use Rattle.type_positions.specs.TypeNames.{type_name}
use Rattle.type_positions.specs.WrittenTypes.{written_type, with_more_dims}
use Rattle.type_positions.specs.declared.names.ImportPart.{ImportPart}
use Rattle.type_positions.specs.declared.names.ImportPart.TheVariants.{Name, All}
use Rattle.type_positions.specs.declared.written.WrittenBase.{WrittenBase}
use Rattle.type_positions.specs.declared.written.WrittenBase.TheVariants as base
use Rattle.type_positions.specs.declared.written.WrittenType.{WrittenType}
use Rattle.j_attrib.specs.Around.{Around, dims, first_name, first_word, name_at, named, names}
use Rattle.j_attrib.specs.Values.{value_at}
use Rattle.j_attrib.specs.Words.{prim_named}
use Rattle.j_attrib.specs.declared.value.Given.{Given}
use Rattle.j_attrib.specs.declared.value.Given.TheVariants as given
use Rattle.j_attrib.specs.declared.value.Value.{Value}
use Rattle.j_attrib.specs.declared.value.Value.TheVariants as value

module _ (u : Around) where
  -- a primitive type or a name, and the `[]` behind it; type arguments aren't looked at
  abbrev pub base_of : Numbered → WrittenBase
  base_of trees =
      if first_word u trees == PRIM then base.Prim (prim_named (name_at u (unwrap_or (first_of (leaves_in trees)) 0)))
      else base.Named (named u (names u trees))

  abbrev pub written_in : Numbered → WrittenType
  written_in trees = record { base = base_of trees; dims = dims trees }

  unfoldable pub named_type : List Frame → Numbered → Judging Value
  named_type s trees = and_then (written_type u.context s (written_in trees)) (λ m. give (value.Written m))

  -- a Type: a primitive type with `[]`, or a class type with `[]`
  abbrev pub more_dims : ℕ → Value → Value
  more_dims n (value.Written m) = value.Written (with_more_dims n m)
  more_dims n v = value.Nothing

  unfoldable pub outer_type : List Frame → Numbered → List Value → Judging Value
  outer_type s trees vs =
      if first_word u trees == PRIM then named_type s trees else give (more_dims (dims trees) (value_at vs 0))

  -- the lone name of a constructor is no type, and neither is a lambda's parameter without a type
  abbrev pub lone_parameter : ℕ → Judging Value
  lone_parameter i =
      noting (note.Symbol i (symbol.Local Unknown) ∷ [])
      (value.Params (record { leaf = i; ty = Unknown; is_variable = false } ∷ []))

  unfoldable pub class_type : List Frame → Numbered → Given → List ℕ → Judging Value
  class_type s trees given.Constructor (i ∷ []) = give value.Nothing
  class_type s trees given.LambdaParam (i ∷ []) = lone_parameter i
  class_type s trees g leaves = named_type s trees

  -- the name of a package declaration; of an annotation's type
  abbrev pub class_meant : Symbol → Value
  class_meant (symbol.Kind name) = value.Denoted (Class name)
  class_meant s = value.Nothing

  unfoldable pub qualified_name : List Frame → Given → List ℕ → Judging Value
  qualified_name s given.PackageName leaves = noting (package_notes [] (named u leaves)) value.Nothing
  qualified_name s g leaves =
      and_then (type_name u.context s (named u leaves)) (λ meaning. give (class_meant meaning))

  -- type parameters (JLS 8.1.2)
  unfoldable pub type_params : List ℕ → Judging Value
  type_params leaves = noting (map (λ i. note.Symbol i (symbol.TypeVar (name_at u i))) leaves) value.Nothing

  -- what stands behind the first name of an import
  abbrev pub import_part : Option ℕ → ImportPart
  import_part None = All
  import_part (Some i) = Name (record { leaf = i; name = name_at u i })

  unfoldable pub import_parts : Numbered → List ImportPart
  import_parts none = []
  import_parts (leaf i rest) = import_parts rest
  import_parts (node n k own rest) = import_part (first_name u own) ∷ import_parts rest

  abbrev pub import_from : Numbered → Option ℕ → Judging Value
  import_from trees None = give value.Nothing
  import_from trees (Some i) =
      and_then (imported u.context (has_word STATIC u.tree.leaves trees) (record { leaf = i; name = name_at u i })
      (import_parts trees)) (λ meaning. give value.Nothing)

  unfoldable pub import : Numbered → Judging Value
  import trees = import_from trees (first_name u trees)
