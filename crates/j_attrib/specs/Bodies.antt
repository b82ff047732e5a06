-- The scopes of the body of a local or anonymous class (JLS 6.3, 8.1.6, 14.3, 15.9.5): its fields, methods and classes
-- count throughout.
use Rattle.std.specs.Prelude.{ℕ, ◌==◌, ◌&&◌, not, List, [], ◌∷◌, ◌++◌, Option, Bool, if◌then◌else◌, map}
use Rattle.rw_base.specs.Laid.{kids_of}
use Rattle.rw_base.specs.Trees.{Numbered}
use Rattle.java_lex.specs.declared.class.TheConstants.{PRIM}
use Rattle.j_names.specs.declared.context.Frame.{Frame}
use Rattle.j_names.specs.declared.context.Frame.TheVariants.{Declared, LocalBody}
use Rattle.j_names.specs.declared.context.LocalField.{LocalField}
use Rattle.judging.specs.Judging.{Judging, give, and_then}
use Rattle.type_positions.specs.WrittenTypes.{written_type, with_more_dims}
use Rattle.type_positions.specs.declared.written.MeantType.{MeantType}
use Rattle.written_bodies.specs.Bodies.{classes_in, fields_in, methods_in}
use Rattle.written_bodies.specs.declared.fields.WrittenField.{WrittenField}
use Rattle.j_attrib.specs.Around.{Around, dims, first_node, first_word, name_at}
use Rattle.j_attrib.specs.Declarations.{type_with}
use Rattle.j_attrib.specs.WrittenRows.{written_in}
use Rattle.j_attrib.specs.declared.kinds.TheConstants.{TYPE}

module _ (u : Around) where
  -- whether a node is a class type with `[]` around it
  abbrev pub is_around_type : ℕ → Numbered → Bool
  is_around_type kind trees = kind == TYPE && not (first_word u trees == PRIM)

  -- the type that a node writes
  unfoldable pub type_at : List Frame → ℕ → Numbered → Judging MeantType
  type_at s kind trees =
      if is_around_type kind trees
      then and_then (written_type u.context s (written_in u (first_node trees))) (λ m. give (with_more_dims (dims trees) m))
      else written_type u.context s (written_in u trees)

  -- a declared field counts as a local of its type
  abbrev pub as_local : WrittenField → MeantType → LocalField
  as_local f m = record { name = name_at u f.name; ty = type_with f.dims m }

  unfoldable pub local_field : List Frame → WrittenField → Judging LocalField
  local_field s f = and_then (type_at s f.kind (kids_of u.tree.nodes f.ty.0)) (λ m. give (as_local f m))

  unfoldable pub local_fields : List Frame → List WrittenField → Judging (List LocalField)
  local_fields s [] = give []
  local_fields s (f ∷ fs) =
      and_then (local_field s f) (λ here. and_then (local_fields s fs) (λ more. give (here ∷ more)))

  -- classes that are declared in it are in scope, and not known
  abbrev pub declared : List ℕ → List Frame
  declared leaves = map (λ i. Declared (name_at u i)) leaves

  abbrev pub method_names : List ℕ → List (List ℕ)
  method_names leaves = map (name_at u) leaves

  -- the body with these fields, and the classes in it; `members` are its trees
  abbrev pub body_with : Bool → Option (List ℕ) → Numbered → List LocalField → List Frame
  body_with anonymous supertype members fields =
      LocalBody anonymous supertype fields (method_names (methods_in u.tree.leaves members))
      ∷ declared (classes_in u.tree.leaves members)

  -- The scopes of a body in the scopes around it. The types of its fields are those of the body itself, where fields don't
  -- count.
  unfoldable pub body_scopes : List Frame → Bool → Option (List ℕ) → Numbered → Judging (List Frame)
  body_scopes around anonymous supertype members =
      and_then (local_fields (around ++ body_with anonymous supertype members []) (fields_in u.tree.leaves members))
      (λ fields. give (body_with anonymous supertype members fields))
