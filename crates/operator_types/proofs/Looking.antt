-- Rules for conditional expressions, put together of what their calls ask.
use Rattle.std.proofs.Common.{◌≡◌, List, Option, None, Some, Bool, true, false, sym, ap}
use Rattle.dialogue.specs.Dialogue.{done, bind}
use Rattle.dialogue.specs.Told.{Told}
use Rattle.dialogue.specs.ToldLaws.{told_bind, told_done, told_value}
use Rattle.jtypes.specs.World.{World}
use Rattle.jtypes.proofs.Equality.{same_bool, types_decide}
use Rattle.jtypes.specs.Primitives.{unboxed_type}
use Rattle.jtypes.specs.Subtype.{subtype, type_eq}
use Rattle.jtypes.specs.declared.ask.Ask.{Ask}
use Rattle.jtypes.specs.declared.types.JType.{JType}
use Rattle.operator_types.specs.Conditional.{conditional, supertype_of, wider, without_look, of_null, of_unboxed, or_row}

pub supertype_told : (a b t : JType) (below above : Bool) (w : World) (old mid new : List Ask)
    → Told (subtype a b) w old mid below → Told (subtype b a) w mid new above → t ≡ wider below above a b
    → Told (supertype_of a b) w old new t
unfolding supertype_of
supertype_told a b t below above w old mid new h k e =
    told_bind (subtype a b) (λ x. bind (subtype b a) (λ y. done (wider x y a b))) w old mid new below t h
    (told_bind (subtype b a) (λ y. done (wider below y a b)) w mid new new above t k
    (told_value w new t (wider below above a b) e))

pub told_without_look : (a b t : JType) (w : World) (s : List Ask) → Some t ≡ without_look a b
    → Told (conditional a b) w s s t
unfolding conditional
told_without_look a b t w s e = rw (sym e) (told_done w s t)

pub told_by_look : (a b t : JType) (w : World) (old new : List Ask) → None ≡ without_look a b
    → Told (supertype_of a b) w old new t → Told (conditional a b) w old new t
unfolding conditional
told_by_look a b t w old new e h = rw (sym e) h

-- ---- the rows that look at no class

same_row : (a b : JType) (r : Bool) → (r ≡ true → a ≡ b) × (a ≡ b → r ≡ true) → r ≡ type_eq a b
same_row a b r h = same_bool r (type_eq a b) (λ k. (types_decide a b).1 (h.0 k)) (λ k. h.1 ((types_decide a b).0 k))

pub row_of_same : (a b t : JType) (r : Bool) → (r ≡ true → a ≡ b) × (a ≡ b → r ≡ true) → r ≡ true → t ≡ a
    → Some t ≡ without_look a b
row_of_same a b t r h e is = rw (sym (same_row a b r h), e) (ap (λ u. Some u) is)

pub further_rows : (a b : JType) (r : Bool) (t : Option JType) → (r ≡ true → a ≡ b) × (a ≡ b → r ≡ true) → r ≡ false
    → t ≡ or_row (of_unboxed (unboxed_type a) (unboxed_type b)) (of_null a b) → t ≡ without_look a b
further_rows a b r t h e is = rw (sym (same_row a b r h), e) is
