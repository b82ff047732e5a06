-- What fits where a value is passed: the strict and the loose invocation contexts (JLS 5.3).
use Rattle.std.specs.Prelude.{◌≡◌, ℕ, List, Option, None, Some, Bool, true, false, ◌||◌, ◌⊎◌, if◌then◌else◌}
use Rattle.dialogue.specs.Dialogue.{done}
use Rattle.jtypes.specs.World.{World, Rule}
use Rattle.jtypes.specs.Primitives.{box_name, boxed_in}
use Rattle.jtypes.specs.Subtype.{Subtype, subtype, plain_subtype, class_subtype}
use Rattle.jtypes.specs.declared.types.JPrim.{JPrim}
use Rattle.jtypes.specs.declared.types.JType.{JType}
use Rattle.jtypes.specs.declared.types.JType.TheVariants.{Prim, Class, Unknown}

-- identity, widening of primitives (JLS 5.1.2) or widening of references (JLS 5.1.5); Unknown fits all, and all fit
-- Unknown
abbrev pub FitsStrictly : World → JType → JType → Type 0
FitsStrictly w a b = (a ≡ Unknown) ⊎ (b ≡ Unknown) ⊎ Subtype w a b

-- a strict fit; boxing (JLS 5.1.7), then widening of references; or unboxing (JLS 5.1.8), then widening of primitives
pub data FitsLoosely (w : World) : JType → JType → Type 0 where
  strictly : (a b : JType) → FitsStrictly w a b → FitsLoosely w a b
  by_boxing : (p : JPrim) (b : List ℕ) → Subtype w (Class (box_name p)) (Class b) → FitsLoosely w (Prim p) (Class b)
  by_unboxing : (p q : JPrim) → Subtype w (Prim p) (Prim q) → FitsLoosely w (Class (box_name p)) (Prim q)

abbrev pub is_unknown : JType → Bool
is_unknown Unknown = true
is_unknown a = false

unfoldable pub strict_fit : JType → JType → Rule Bool
strict_fit a b = if is_unknown a || is_unknown b then done true else subtype a b

abbrev pub unboxed_fit : Option JPrim → JPrim → Bool
unboxed_fit None q = false
unboxed_fit (Some p) q = plain_subtype (Prim p) (Prim q)

unfoldable pub loose_fit : JType → JType → Rule Bool
loose_fit (Prim p) (Class b) = class_subtype (box_name p) b
loose_fit (Class a) (Prim q) = done (unboxed_fit (boxed_in a) q)
loose_fit a b = strict_fit a b
