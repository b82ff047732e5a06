-- Case labels that are enum constants (JLS 14.11).
use Rattle.std.specs.Prelude.{ℕ, List, [], ◌∷◌, Option, None, Some, Bool, true, false, if◌then◌else◌}
use Rattle.dialogue.specs.Dialogue.{done, ask, bind}
use Rattle.jtypes.specs.World.{Rule}
use Rattle.jtypes.specs.declared.ask.Ask.TheVariants.{Class as AskClass}
use Rattle.jtypes.specs.declared.signatures.ClassKind.{ClassKind}
use Rattle.jtypes.specs.declared.signatures.ClassKind.TheVariants.{Enum}
use Rattle.jtypes.specs.declared.signatures.Header.{Header}
use Rattle.jtypes.specs.declared.symbol.Symbol.{Symbol}
use Rattle.jtypes.specs.declared.symbol.Symbol.TheVariants.{Field}
use Rattle.jtypes.specs.declared.types.JType.{JType}
use Rattle.jtypes.specs.declared.types.JType.TheVariants.{Class, Unknown}
use Rattle.judging.specs.Judging.{Judging, give, noting, looking}
use Rattle.judging.specs.declared.log.Note.TheVariants as note
use Rattle.declared_names.specs.Declarations.{field_there}

abbrev pub is_enum : ClassKind → Bool
is_enum Enum = true
is_enum kind = false

-- a name in the label of a switch over an enum is a field that the enum itself declares
abbrev pub constant_of : List ℕ → List ℕ → Option Header → Rule (Option Symbol)
constant_of owner n None = done None
constant_of owner n (Some header) =
    if is_enum header.kind then bind (field_there owner n) (λ s. done (Some s)) else done None

-- what a simple name in a label is by the type that is switched over; None: it means what it means elsewhere
abbrev pub label_meant : JType → List ℕ → Rule (Option Symbol)
label_meant (Class owner) n = ask (AskClass owner) (constant_of owner n)
label_meant ty n = done None

abbrev pub type_of_constant : Symbol → JType
type_of_constant (Field field) = field.ty
type_of_constant s = Unknown

abbrev pub label_noted : ℕ → Option Symbol → Judging (Option JType)
label_noted leaf None = give None
label_noted leaf (Some s) = noting (note.Symbol leaf s ∷ []) (Some (type_of_constant s))

-- the type of a label that is an enum constant
unfoldable pub case_name : JType → ℕ → List ℕ → Judging (Option JType)
case_name selector leaf n = looking (label_meant selector n) (label_noted leaf)
