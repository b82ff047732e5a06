-- Subtypes: the relation, and the rule with its questions that decides it.
use Rattle.std.specs.Prelude.{◌≡◌, ◌≢◌, ℕ, List, [], ◌∷◌, Option, None, Some, Bool, true, false, ◌||◌, ◌⊎◌, zero, suc}
use Rattle.std.specs.Prelude.{if◌then◌else◌, codes}
use Rattle.std.specs.List.{flat_map, list_any}
use Rattle.dialogue.specs.Dialogue.{done, ask, bind, each, In}
use Rattle.jtypes.specs.World.{World, Rule, name_eq}
use Rattle.jtypes.specs.Primitives.{prim_eq, widened_to, is_prim_subtype}
use Rattle.jtypes.specs.declared.ask.Ask.{Ask}
use Rattle.jtypes.specs.declared.ask.Ask.TheVariants.{Class as AskClass}
use Rattle.jtypes.specs.declared.signatures.Header.{Header}
use Rattle.jtypes.specs.declared.types.JPrim.{JPrim}
use Rattle.jtypes.specs.Arrays.{ArrayOf}
use Rattle.jtypes.specs.declared.types.JType.{JType}
use Rattle.jtypes.specs.declared.types.JType.TheVariants.{Prim, Class, Null, Void, Unknown}

unfoldable pub object_name : List ℕ
object_name = codes "java.lang.Object"

-- the supertypes that every array has besides Object (JLS 4.10.3)
unfoldable pub array_supertypes : List (List ℕ)
array_supertypes = codes "java.lang.Cloneable" ∷ codes "java.io.Serializable" ∷ []

-- how many supertypes in a row count
unfoldable pub longest_row : ℕ
longest_row = 64

abbrev pub supertypes_in : Option Header → List (List ℕ)
supertypes_in None = []
supertypes_in (Some header) = header.supertypes

abbrev pub supertypes : World → List ℕ → List (List ℕ)
supertypes w a = supertypes_in (w (AskClass a))

-- b is reached from a by at most n supertypes in a row
abbrev pub Reaches : World → ℕ → List ℕ → List ℕ → Type 0
Reaches w zero a b = a ≡ b
Reaches w (suc n) a b = (a ≡ b) ⊎ ((s : List ℕ) × In s (supertypes w a) × Reaches w n s b)

-- reference types (JLS 4.3)
abbrev pub is_reference : JType → Bool
is_reference (Prim p) = false
is_reference (Class name) = true
is_reference (ArrayOf element) = true
is_reference Null = false
is_reference Void = false
is_reference Unknown = false

abbrev pub IsReference : JType → Type 0
IsReference a = is_reference a ≡ true

-- the first type is a subtype of the second (JLS 4.10)
pub data Subtype (w : World) : JType → JType → Type 0 where
  same : (a : JType) → Subtype w a a
  widened : (p q : JPrim) → In q (widened_to p) → Subtype w (Prim p) (Prim q)
  inherited : (a b : List ℕ) → Reaches w longest_row a b → Subtype w (Class a) (Class b)
  to_object : (a : JType) → IsReference a → Subtype w a (Class object_name)
  from_null : (b : JType) → IsReference b → Subtype w Null b
  array_to_class : (element : JType) (b : List ℕ) → In b array_supertypes → Subtype w (ArrayOf element) (Class b)
  arrays : (element other : JType) → IsReference element → Subtype w element other
      → Subtype w (ArrayOf element) (ArrayOf other)

-- the classes reached, each of which is asked for
unfoldable pub classes_reached : ℕ → List ℕ → Rule (List (List ℕ))
classes_reached zero a = ask (AskClass a) (λ h. done (a ∷ []))
classes_reached (suc n) a =
    ask (AskClass a) (λ h.
    bind (each (λ s. classes_reached n s) (supertypes_in h)) (λ all.
    done (a ∷ flat_map (λ cs. cs) all)))

-- whether a class is a subtype of another; nothing is asked where they are the same or the other is Object
unfoldable pub class_subtype : List ℕ → List ℕ → Rule Bool
class_subtype a b =
    if name_eq a b || name_eq b object_name then done true
    else bind (classes_reached longest_row a) (λ cs. done (list_any (λ c. name_eq b c) cs))

abbrev pub type_eq : JType → JType → Bool
type_eq (Prim p) (Prim q) = prim_eq p q
type_eq (Class a) (Class b) = name_eq a b
type_eq (ArrayOf a) (ArrayOf b) = type_eq a b
type_eq Null Null = true
type_eq Void Void = true
type_eq Unknown Unknown = true
type_eq a b = false

abbrev pub is_array_supertype : List ℕ → Bool
is_array_supertype b = name_eq b object_name || list_any (λ s. name_eq b s) array_supertypes

-- subtypes that rest on no header: neither both classes nor both arrays
abbrev pub plain_subtype : JType → JType → Bool
plain_subtype (Prim p) (Prim q) = is_prim_subtype p q
plain_subtype (ArrayOf element) (Class b) = is_array_supertype b
plain_subtype Null b = is_reference b || type_eq Null b
plain_subtype Void Void = true
plain_subtype Unknown Unknown = true
plain_subtype a b = false

-- whether a type is a subtype of another; a test of arrays of references is that of their elements
unfoldable pub subtype : JType → JType → Rule Bool
subtype (Class a) (Class b) = class_subtype a b
subtype (ArrayOf a) (ArrayOf b) = if is_reference a then subtype a b else done (type_eq a b)
subtype a b = done (plain_subtype a b)

-- the question for a class on the walk from a, where the test whether a is a subtype of b asks
abbrev pub AsksTheWalk : World → List ℕ → List ℕ → Ask → Type 0
AsksTheWalk w a b q = (a ≢ b) × (b ≢ object_name) × ((m : List ℕ) × Reaches w longest_row a m × (q ≡ AskClass m))
