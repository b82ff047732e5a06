-- The choice of a method as a rule, with the questions that it puts to the world.
use Rattle.std.specs.Prelude.{ℕ, List, [], ◌∷◌, length, Option, None, Some, Bool, true, false, if◌then◌else◌}
use Rattle.std.specs.List.{zip, enumerate_from, list_all}
use Rattle.dialogue.specs.Dialogue.{done, ask, bind}
use Rattle.jtypes.specs.World.{Rule}
use Rattle.jtypes.specs.Fits.{strict_fit, loose_fit}
use Rattle.jtypes.specs.Subtype.{subtype, type_eq}
use Rattle.jtypes.specs.declared.ask.Ask.TheVariants.{Class as AskClass}
use Rattle.jtypes.specs.declared.signatures.ClassKind.{ClassKind}
use Rattle.jtypes.specs.declared.signatures.ClassKind.TheVariants.{Interface}
use Rattle.jtypes.specs.declared.signatures.Header.{Header}
use Rattle.jtypes.specs.declared.signatures.MethodSig.{MethodSig}
use Rattle.jtypes.specs.declared.types.JType.{JType}
use Rattle.jtypes.specs.declared.types.JType.TheVariants.{Class, Unknown}
use Rattle.j_overload.specs.TestEach.{all_of, those}
use Rattle.j_overload.specs.Parameters.{parameter_types, takes_number, compared_count}
use Rattle.j_overload.specs.declared.argument.ArgType.{ArgType}
use Rattle.j_overload.specs.declared.argument.ArgType.TheVariants.{Known, Function}
use Rattle.j_overload.specs.declared.choice.Choice.{Choice}
use Rattle.j_overload.specs.declared.choice.Choice.TheVariants.{Method, None as NoMethod, Ambiguous}
use Rattle.j_overload.specs.declared.phase.Phase.{Phase}
use Rattle.j_overload.specs.declared.phase.Phase.TheVariants.{Strict, Loose, Variable}

abbrev pub is_interface : ClassKind → Bool
is_interface Interface = true
is_interface kind = false

-- an interface, or a class that isn't there
abbrev pub may_take_a_function : Option Header → Bool
may_take_a_function None = true
may_take_a_function (Some header) = is_interface header.kind

-- whether a lambda or a method reference fits a parameter
unfoldable pub function_fit : JType → Rule Bool
function_fit (Class name) = ask (AskClass name) (λ header. done (may_take_a_function header))
function_fit Unknown = done true
function_fit t = done false

-- whether an argument fits a parameter in a phase
unfoldable pub argument_fit : Phase → ArgType → JType → Rule Bool
argument_fit Strict (Known a) t = strict_fit a t
argument_fit Loose (Known a) t = loose_fit a t
argument_fit Variable (Known a) t = loose_fit a t
argument_fit phase Function t = function_fit t

-- whether a candidate is applicable in a phase; each argument of one that takes their number is tested
unfoldable pub applicable : Phase → List ArgType → MethodSig → Rule Bool
applicable phase args m =
    if takes_number phase m (length args)
    then all_of (λ t. argument_fit phase t.0 t.1) (zip args (parameter_types phase m (length args)))
    else done false

-- the applicable candidates of a phase, each with its position
unfoldable pub applicable_ones : Phase → List ArgType → List MethodSig → Rule (List (ℕ × MethodSig))
applicable_ones phase args candidates = those (λ c. applicable phase args c.1) (enumerate_from 0 candidates)

-- whether a method is more specific than another for k arguments; each pair of types is tested
unfoldable pub more_specific : Phase → ℕ → MethodSig → MethodSig → Rule Bool
more_specific phase k m n =
    all_of (λ t. subtype t.0 t.1)
    (zip (parameter_types phase m (compared_count k n)) (parameter_types phase n (compared_count k n)))

-- those that are more specific than all; each is tested against each, and asks nothing against itself
unfoldable pub most_specific_ones : Phase → ℕ → List (ℕ × MethodSig) → Rule (List (ℕ × MethodSig))
most_specific_ones phase k ones = those (λ c. all_of (λ d. more_specific phase k c.1 d.1) ones) ones

abbrev pub types_eq : List JType → List JType → Bool
types_eq [] [] = true
types_eq [] (u ∷ us) = false
types_eq (t ∷ ts) [] = false
types_eq (t ∷ ts) (u ∷ us) = if type_eq t u then types_eq ts us else false

-- the first of the most specific ones, where all have equal parameters
abbrev pub first_of_equals : List (ℕ × MethodSig) → Choice
first_of_equals [] = Ambiguous
first_of_equals (c ∷ cs) = if list_all (λ d. types_eq c.1.params d.1.params) cs then Method c.0 else Ambiguous

-- the choice among the applicable ones, if there are any
abbrev pub choice_among : Phase → ℕ → List (ℕ × MethodSig) → Rule (Option Choice)
choice_among phase k [] = done None
choice_among phase k (c ∷ cs) = bind (most_specific_ones phase k (c ∷ cs)) (λ best. done (Some (first_of_equals best)))

-- the choice of a phase, if it has applicable candidates
unfoldable pub choice_in : Phase → List ArgType → List MethodSig → Rule (Option Choice)
choice_in phase args candidates = bind (applicable_ones phase args candidates) (choice_among phase (length args))

abbrev pub unless_chosen : Rule Choice → Option Choice → Rule Choice
unless_chosen otherwise None = otherwise
unless_chosen otherwise (Some choice) = done choice

-- the choice of the first phase that has applicable candidates (JLS 15.12.2)
unfoldable pub choice_of : List MethodSig → List ArgType → Rule Choice
choice_of candidates args =
    bind (choice_in Strict args candidates) (unless_chosen (
    bind (choice_in Loose args candidates) (unless_chosen (
    bind (choice_in Variable args candidates) (unless_chosen (
    done NoMethod))))))
