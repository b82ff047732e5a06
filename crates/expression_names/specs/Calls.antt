-- Calls of methods and constructors (JLS 15.9.3, 15.12).
use Rattle.std.specs.Prelude.{ℕ, List, [], ◌∷◌, Option, None, Some, slice_get}
use Rattle.dialogue.specs.Dialogue.{done, bind}
use Rattle.jtypes.specs.World.{Rule}
use Rattle.jtypes.specs.declared.signatures.MethodSig.{MethodSig}
use Rattle.jtypes.specs.declared.symbol.Symbol.TheVariants as symbol
use Rattle.jtypes.specs.declared.types.JType.{JType}
use Rattle.jtypes.specs.declared.types.JType.TheVariants.{Unknown}
use Rattle.j_overload.specs.Rules.{choice_of}
use Rattle.j_overload.specs.declared.argument.ArgType.{ArgType}
use Rattle.j_overload.specs.declared.choice.Choice.{Choice}
use Rattle.j_overload.specs.declared.choice.Choice.TheVariants.{Method}
use Rattle.j_names.specs.Calls.{called, candidates, constructors_of}
use Rattle.j_names.specs.Calls.{methods_behind as methods_of_type}
use Rattle.j_names.specs.Members.{methods_of}
use Rattle.j_names.specs.Names.{top_around}
use Rattle.j_names.specs.declared.called.Called.{Called}
use Rattle.j_names.specs.declared.called.Called.TheVariants.{Methods, Unknown as UnknownMethod}
use Rattle.j_names.specs.declared.context.Frame.{Frame}
use Rattle.j_names.specs.declared.context.UnitContext.{UnitContext}
use Rattle.judging.specs.Judging.{Judging, noting, looking}
use Rattle.judging.specs.declared.log.Note.{Note}
use Rattle.judging.specs.declared.log.Note.TheVariants.{Symbol as NoteSymbol, Chosen}
use Rattle.expression_names.specs.declared.denoted.Denoted.{Denoted}
use Rattle.expression_names.specs.declared.denoted.Denoted.TheVariants.{Package, Class, Expr}

-- The choice (JLS 15.12.2)

-- a choice that is ambiguous counts as none
abbrev pub method_at : List MethodSig → Choice → Option MethodSig
method_at ms (Method place) = slice_get ms place
method_at ms choice = None

abbrev pub chosen_of : List MethodSig → List ArgType → Rule (Option MethodSig)
chosen_of ms args = bind (choice_of ms args) (λ choice. done (method_at ms choice))

-- the method that arguments choose among those of a name, without the hidden ones
unfoldable pub chosen : List MethodSig → List ArgType → Rule (Option MethodSig)
chosen methods args = chosen_of (candidates methods) args

-- Calls of methods

-- the chosen method is noted at the leaf of its name, and gives the type; where there is none, both are Unknown
abbrev pub result_of : ℕ → Option MethodSig → Judging JType
result_of leaf None = noting (NoteSymbol leaf symbol.Unknown ∷ []) Unknown
result_of leaf (Some m) = noting (NoteSymbol leaf (symbol.Method m) ∷ Chosen leaf m ∷ []) m.result

-- a method that a local or anonymous class declares isn't known
abbrev pub chosen_called : List ArgType → Called → Rule (Option MethodSig)
chosen_called args (Methods ms) = chosen ms args
chosen_called args UnknownMethod = done None

-- the method of a call without receiver (JLS 15.12.1)
abbrev pub method_called : UnitContext → List Frame → List ℕ → List ArgType → Rule (Option MethodSig)
method_called cx frames n args = bind (called cx frames n) (chosen_called args)

unfoldable pub call : UnitContext → List Frame → ℕ → List ℕ → List ArgType → Judging JType
call cx frames leaf n args = looking (method_called cx frames n args) (result_of leaf)

-- the methods of a receiver: of a class, or of the type of an expression; a package has none
abbrev pub methods_behind : UnitContext → Denoted → List ℕ → Rule (List MethodSig)
methods_behind cx (Package p) n = done []
methods_behind cx (Class t) n = methods_of (top_around cx) n t
methods_behind cx (Expr ty) n = methods_of_type (top_around cx) ty n

abbrev pub method_behind : UnitContext → Denoted → List ℕ → List ArgType → Rule (Option MethodSig)
method_behind cx before n args = bind (methods_behind cx before n) (λ ms. chosen ms args)

-- a call behind a dot
unfoldable pub call_behind : UnitContext → Denoted → ℕ → List ℕ → List ArgType → Judging JType
call_behind cx before leaf n args = looking (method_behind cx before n args) (result_of leaf)

-- Calls of constructors

-- what isn't known has no constructors
abbrev pub constructors_in : UnitContext → Option (List ℕ) → Rule (List MethodSig)
constructors_in cx None = done []
constructors_in cx (Some t) = constructors_of (top_around cx) t

abbrev pub constructor_in : UnitContext → Option (List ℕ) → List ArgType → Rule (Option MethodSig)
constructor_in cx class args = bind (constructors_in cx class) (λ ms. chosen ms args)

abbrev pub chosen_note : ℕ → Option MethodSig → List Note
chosen_note leaf None = []
chosen_note leaf (Some m) = Chosen leaf m ∷ []

abbrev pub noting_chosen : ℕ → Option MethodSig → Judging (Unit {0})
noting_chosen leaf m = noting (chosen_note leaf m) (record {})

-- the chosen constructor is noted at a leaf
unfoldable pub constructing : UnitContext → Option (List ℕ) → ℕ → List ArgType → Judging (Unit {0})
constructing cx class leaf args = looking (constructor_in cx class args) (noting_chosen leaf)
