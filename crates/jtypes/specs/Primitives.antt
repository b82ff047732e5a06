-- Primitive types, their boxes, and numeric promotion.
use Rattle.std.specs.Prelude.{ℕ, List, [], ◌∷◌, Option, None, Some, Bool, ◌||◌, nat_eq, if◌then◌else◌, codes}
use Rattle.std.specs.List.{list_any}
use Rattle.jtypes.specs.World.{name_eq}
use Rattle.jtypes.specs.declared.types.JPrim.{JPrim}
use Rattle.jtypes.specs.declared.types.JPrim.TheVariants.{Boolean, Byte, Short, Char, Int, Long, Float, Double}
use Rattle.jtypes.specs.Arrays.{ArrayOf}
use Rattle.jtypes.specs.declared.types.JType.{JType}
use Rattle.jtypes.specs.declared.types.JType.TheVariants.{Prim, Class, Null, Void, Unknown}

abbrev pub place : JPrim → ℕ
place Boolean = 0
place Byte = 1
place Short = 2
place Char = 3
place Int = 4
place Long = 5
place Float = 6
place Double = 7

abbrev pub prim_eq : JPrim → JPrim → Bool
prim_eq p q = nat_eq (place p) (place q)

-- the primitive types that one widens to (JLS 5.1.2)
abbrev pub widened_to : JPrim → List JPrim
widened_to Boolean = []
widened_to Byte = Short ∷ Int ∷ Long ∷ Float ∷ Double ∷ []
widened_to Short = Int ∷ Long ∷ Float ∷ Double ∷ []
widened_to Char = Int ∷ Long ∷ Float ∷ Double ∷ []
widened_to Int = Long ∷ Float ∷ Double ∷ []
widened_to Long = Float ∷ Double ∷ []
widened_to Float = Double ∷ []
widened_to Double = []

-- the same primitive type, or one that it widens to (JLS 4.10.1)
abbrev pub is_prim_subtype : JPrim → JPrim → Bool
is_prim_subtype p q = prim_eq p q || list_any (λ r. prim_eq q r) (widened_to p)

-- the class that boxes a primitive type (JLS 5.1.7)
unfoldable pub box_name : JPrim → List ℕ
box_name Boolean = codes "java.lang.Boolean"
box_name Byte = codes "java.lang.Byte"
box_name Short = codes "java.lang.Short"
box_name Char = codes "java.lang.Character"
box_name Int = codes "java.lang.Integer"
box_name Long = codes "java.lang.Long"
box_name Float = codes "java.lang.Float"
box_name Double = codes "java.lang.Double"

-- the first of some primitive types that a class boxes
abbrev pub boxed_among : List JPrim → List ℕ → Option JPrim
boxed_among [] name = None
boxed_among (p ∷ ps) name = if name_eq name (box_name p) then Some p else boxed_among ps name

-- the primitive type that a class boxes (JLS 5.1.8)
unfoldable pub boxed_in : List ℕ → Option JPrim
boxed_in name = boxed_among (Boolean ∷ Byte ∷ Short ∷ Char ∷ Int ∷ Long ∷ Float ∷ Double ∷ []) name

-- a primitive type, or that which a class boxes
abbrev pub unboxed_type : JType → Option JPrim
unboxed_type (Prim p) = Some p
unboxed_type (Class name) = boxed_in name
unboxed_type (ArrayOf element) = None
unboxed_type Null = None
unboxed_type Void = None
unboxed_type Unknown = None

-- double where one is, else float where one is, else long where one is, else int (JLS 5.6.2)
abbrev pub promoted_prim : JPrim → JPrim → JPrim
promoted_prim p q =
    if prim_eq p Double || prim_eq q Double then Double
    else if prim_eq p Float || prim_eq q Float then Float
    else if prim_eq p Long || prim_eq q Long then Long
    else Int

-- numbers promote; boolean and what is no primitive type give Unknown
abbrev pub promoted_numbers : Option JPrim → Option JPrim → JType
promoted_numbers None q = Unknown
promoted_numbers (Some p) None = Unknown
promoted_numbers (Some p) (Some q) =
    if prim_eq p Boolean || prim_eq q Boolean then Unknown else Prim (promoted_prim p q)

-- binary numeric promotion after unboxing (JLS 5.6.2)
abbrev pub promoted_types : JType → JType → JType
promoted_types a b = promoted_numbers (unboxed_type a) (unboxed_type b)
