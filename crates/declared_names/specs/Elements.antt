-- The names of annotation elements (JLS 9.7.1).
use Rattle.std.specs.Prelude.{ℕ, List, [], Option, None, Some, slice_get}
use Rattle.dialogue.specs.Dialogue.{done, bind}
use Rattle.jtypes.specs.World.{Rule}
use Rattle.jtypes.specs.declared.signatures.MethodSig.{MethodSig}
use Rattle.jtypes.specs.declared.symbol.Symbol.{Symbol}
use Rattle.jtypes.specs.declared.symbol.Symbol.TheVariants.{Method, Unknown}
use Rattle.j_overload.specs.Rules.{choice_of}
use Rattle.j_overload.specs.declared.choice.Choice.{Choice}
use Rattle.j_overload.specs.declared.choice.Choice.TheVariants.{Method as Chosen}
use Rattle.j_names.specs.Calls.{candidates}
use Rattle.j_names.specs.Members.{methods_of}
use Rattle.j_names.specs.Names.{top_around}
use Rattle.j_names.specs.declared.context.UnitContext.{UnitContext}
use Rattle.judging.specs.Judging.{Judging, looking}
use Rattle.declared_names.specs.Declarations.{or_unknown, noted}

-- the method at the place of a choice; a choice that is ambiguous counts as none
abbrev pub method_at : List MethodSig → Choice → Option MethodSig
method_at ms (Chosen place) = slice_get ms place
method_at ms choice = None

-- the candidate that a call without arguments means (JLS 15.12.2)
abbrev pub chosen_element : List MethodSig → Rule Symbol
chosen_element ms = bind (choice_of ms []) (λ choice. done (or_unknown Method (method_at ms choice)))

-- the method of that name of the annotation's type, if this type is known
abbrev pub element_meant : UnitContext → Option (List ℕ) → List ℕ → Rule Symbol
element_meant cx None n = done Unknown
element_meant cx (Some annotation) n =
    bind (methods_of (top_around cx) n annotation) (λ ms. chosen_element (candidates ms))

unfoldable pub element : UnitContext → Option (List ℕ) → ℕ → List ℕ → Judging (Unit {0})
element cx annotation leaf n = looking (element_meant cx annotation n) (noted leaf)
