-- What walks look for: fields, member types, and methods of a name (JLS 8.2, 8.3, 8.4.8, 8.5, 9.2).
use Rattle.std.specs.Prelude.{ℕ, List, [], ◌∷◌, ◌++◌, Option, None, Some, Bool, false, ◌||◌, ◌&&◌, not, filter}
use Rattle.std.specs.Prelude.{is_some, if◌then◌else◌}
use Rattle.dialogue.specs.Dialogue.{done, ask}
use Rattle.jtypes.specs.World.{Rule, name_eq}
use Rattle.jtypes.specs.declared.ask.Ask.TheVariants.{Class as AskClass, Field as AskField, Methods as AskMethods}
use Rattle.jtypes.specs.declared.signatures.Header.{Header}
use Rattle.jtypes.specs.declared.signatures.FieldSig.{FieldSig}
use Rattle.jtypes.specs.declared.signatures.MethodSig.{MethodSig}
use Rattle.jtypes.specs.declared.symbol.Symbol.{Symbol}
use Rattle.jtypes.specs.declared.symbol.Symbol.TheVariants.{Kind, Field}
use Rattle.j_names.specs.Walk.{Sought, walk, is_interface}

-- a name in a package or type, behind a dot; the package without a name adds nothing
abbrev pub joined : List ℕ → List ℕ → List ℕ
joined [] name = name
joined (c ∷ cs) name = (c ∷ cs) ++ 46 ∷ name

abbrev pub is_the : Option (List ℕ) → List ℕ → Bool
is_the None name = false
is_the (Some n) name = name_eq n name

-- a private member counts only within its top-level class (JLS 6.6.1)
abbrev pub counts : Option (List ℕ) → Header → Bool → Bool
counts top owner is_private = not is_private || is_the top owner.top

-- a private member type too; a top-level type is no member
abbrev pub type_counts : Option (List ℕ) → Header → Bool
type_counts top header = name_eq header.name header.top || counts top header header.is_private

-- the type of a qualified name, where it is there and counts
abbrev pub counting_type : Option (List ℕ) → List ℕ → Option Header → Option Symbol
counting_type top name None = None
counting_type top name (Some header) = if type_counts top header then Some (Kind name) else None

unfoldable pub type_at : Option (List ℕ) → List ℕ → Rule (Option Symbol)
type_at top name = ask (AskClass name) (λ header. done (counting_type top name header))

-- Fields

abbrev pub counting_field : Option (List ℕ) → Header → Option FieldSig → Option Symbol
counting_field top owner None = None
counting_field top owner (Some field) = if counts top owner field.is_private then Some (Field field) else None

-- the walk ends at the first visit that has the field
abbrev pub field_sought : Option (List ℕ) → List ℕ → Sought (Option Symbol)
field_sought top n = record {
  over = is_some;
  visit = λ name header found. ask (AskField name n) (λ field. done (counting_field top header field));
}

-- the field of a name that a class has, its own or an inherited one
unfoldable pub field_of : Option (List ℕ) → List ℕ → List ℕ → Rule (Option Symbol)
field_of top n name = walk (field_sought top n) None name

-- Member types

-- the walk ends at the first visit that has the member type
abbrev pub type_sought : Option (List ℕ) → List ℕ → Sought (Option Symbol)
type_sought top n = record {
  over = is_some;
  visit = λ name header found. type_at top (joined name n);
}

-- the member type of a name that a class has, its own or an inherited one
unfoldable pub member_type_of : Option (List ℕ) → List ℕ → List ℕ → Rule (Option Symbol)
member_type_of top n name = walk (type_sought top n) None name

-- Methods

-- a static method of an interface counts only in a walk that begins at that interface (JLS 8.4.8, 9.4.1)
abbrev pub method_counts : Option (List ℕ) → Option (List ℕ) → List ℕ → Header → MethodSig → Bool
method_counts top begins name header m =
    counts top header m.is_private && not (is_interface header.kind && m.is_static && not (is_the begins name))

-- the walk goes to its end
abbrev pub methods_sought : Option (List ℕ) → Option (List ℕ) → List ℕ → Sought (List MethodSig)
methods_sought top begins n = record {
  over = λ found. false;
  visit = λ name header found.
      ask (AskMethods name n) (λ methods. done (found ++ filter (method_counts top begins name header) methods));
}

-- all methods of a name that a class has, its own and inherited ones, in the order of the walk
unfoldable pub methods_of : Option (List ℕ) → List ℕ → List ℕ → Rule (List MethodSig)
methods_of top n name = walk (methods_sought top (Some name) n) [] name

-- those of the named supertype of a local or anonymous class: this walk begins at no interface
unfoldable pub methods_inherited : Option (List ℕ) → List ℕ → List ℕ → Rule (List MethodSig)
methods_inherited top n supertype = walk (methods_sought top None n) [] supertype
