-- Tests whether a type is String.
use Rattle.std.proofs.Common.{◌≡◌, ◌∙◌, ℕ, List, Bool, true, false, sym, refl, codes}
use Rattle.jtypes.proofs.Equality.{same_bool, names_decide}
use Rattle.jtypes.specs.World.{name_eq}
use Rattle.jtypes.specs.Arrays.{ArrayOf}
use Rattle.jtypes.specs.Subtype.{type_eq}
use Rattle.jtypes.specs.declared.types.JType.{JType}
use Rattle.jtypes.specs.declared.types.JType.TheVariants.{Class}
use Rattle.operator_types.specs.Operators.{string_type}

pub class_is_string : (r : Bool) (x s : List ℕ) → s ≡ codes "java.lang.String"
    → (r ≡ true → x ≡ s) × (x ≡ s → r ≡ true) → r ≡ type_eq (Class x) string_type
unfolding string_type
class_is_string r x s e h =
    let b : List ℕ = codes "java.lang.String" in
    same_bool r (name_eq x b) (λ k. (names_decide x b).1 (h.0 k ∙ e)) (λ k. h.1 ((names_decide x b).0 k ∙ sym e))

pub others_are_no_string : (t : JType) → ((x : List ℕ) → t ≡ Class x → ⊥) → false ≡ type_eq t string_type
unfolding string_type
others_are_no_string (Class x) h = absurd (h x refl)
others_are_no_string (ArrayOf e) h = refl
others_are_no_string t h = refl
