-- The type of a conditional expression `c ? a : b` by the types of a and b (JLS 15.25).
use Rattle.std.specs.Prelude.{Option, None, Some, Bool, true, false, ◌&&◌, ◌||◌, if◌then◌else◌}
use Rattle.dialogue.specs.Dialogue.{done, bind}
use Rattle.jtypes.specs.World.{Rule}
use Rattle.jtypes.specs.Primitives.{prim_eq, box_name, unboxed_type, promoted_prim}
use Rattle.jtypes.specs.Subtype.{subtype, type_eq}
use Rattle.jtypes.specs.declared.types.JPrim.{JPrim}
use Rattle.jtypes.specs.declared.types.JPrim.TheVariants.{Boolean, Byte, Short}
use Rattle.jtypes.specs.declared.types.JType.{JType}
use Rattle.jtypes.specs.declared.types.JType.TheVariants.{Prim, Class, Null, Unknown}

-- two operands that are primitive or unbox to these: the type of both; short for a byte and a short; for other numbers
-- binary numeric promotion (JLS 15.25.1, 15.25.2). A boolean and a number have no row here.
abbrev pub of_primitives : JPrim → JPrim → Option JType
of_primitives p q =
    if prim_eq p q then Some (Prim p)
    else if (prim_eq p Byte && prim_eq q Short) || (prim_eq p Short && prim_eq q Byte) then Some (Prim Short)
    else if prim_eq p Boolean || prim_eq q Boolean then None
    else Some (Prim (promoted_prim p q))

abbrev pub of_unboxed : Option JPrim → Option JPrim → Option JType
of_unboxed (Some p) (Some q) = of_primitives p q
of_unboxed p q = None

-- boxing conversion (JLS 5.1.7)
abbrev pub boxed : JType → JType
boxed (Prim p) = Class (box_name p)
boxed t = t

-- null and an operand: the type of the operand, boxed (JLS 15.25.3)
abbrev pub of_null : JType → JType → Option JType
of_null Null b = Some (boxed b)
of_null a Null = Some (boxed a)
of_null a b = None

abbrev pub or_row : Option JType → Option JType → Option JType
or_row None next = next
or_row (Some t) next = Some t

-- the first row that gives a type without a look at classes
abbrev pub without_look : JType → JType → Option JType
without_look a b =
    if type_eq a b then Some a else or_row (of_unboxed (unboxed_type a) (unboxed_type b)) (of_null a b)

abbrev pub wider : Bool → Bool → JType → JType → JType
wider true above a b = b
wider false true a b = a
wider false false a b = Unknown

-- the supertype where one is a subtype of the other, that of b where each is (JLS 15.25.3). Both tests are made.
unfoldable pub supertype_of : JType → JType → Rule JType
supertype_of a b =
    bind (subtype a b) (λ below. bind (subtype b a) (λ above. done (wider below above a b)))

-- the rule: what needs no look, else the supertype
unfoldable pub conditional : JType → JType → Rule JType
conditional a b = or_look (without_look a b)
  where
    or_look : Option JType → Rule JType
    or_look None = supertype_of a b
    or_look (Some t) = done t
