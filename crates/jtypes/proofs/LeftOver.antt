-- Types of a kind that a match leaves over, and tests that ask nothing.
use Rattle.std.proofs.Common.{◌≡◌, ℕ, List, refl, sym, ◌∙◌, ap, Bool, true, false, ◌||◌, None, if◌then◌else◌}
use Rattle.dialogue.specs.Dialogue.{done}
use Rattle.dialogue.specs.Told.{Told}
use Rattle.dialogue.specs.ToldLaws.{told_done}
use Rattle.jtypes.specs.Arrays.{ArrayOf, array_is}
use Rattle.jtypes.specs.World.{World}
use Rattle.jtypes.specs.Primitives.{unboxed_type}
use Rattle.jtypes.specs.Subtype.{subtype, plain_subtype, is_reference, type_eq}
use Rattle.jtypes.specs.Fits.{strict_fit, loose_fit, is_unknown, unboxed_fit}
use Rattle.jtypes.specs.declared.ask.Ask.{Ask}
use Rattle.jtypes.specs.declared.types.JPrim.{JPrim}
use Rattle.jtypes.specs.declared.types.JType.{JType}
use Rattle.jtypes.specs.declared.types.JType.TheViews.{Array}
use Rattle.jtypes.specs.declared.types.JType.TheVariants.{Prim, Class, Null}
use Rattle.jtypes.proofs.Equality.{same_bool, types_decide}

abbrev NoPrim : JType → Type 0
NoPrim t = (p : JPrim) → t ≡ Prim p → ⊥

abbrev NoClass : JType → Type 0
NoClass t = (x : List ℕ) → t ≡ Class x → ⊥

abbrev NoArray : JType → Type 0
NoArray t = (e : JType) → t ≡ Array e → ⊥

array_absurd : {P : Type 0} (e : JType) → NoArray (ArrayOf e) → P
array_absurd e h = absurd (h e (sym (array_is e)))

pub no_reference : (t : JType) → NoClass t → NoArray t → false ≡ is_reference t
no_reference (Class x) h k = absurd (h x refl)
no_reference (ArrayOf e) h k = array_absurd e k
no_reference t h k = refl

pub no_box : (t : JType) → NoPrim t → NoClass t → None ≡ unboxed_type t
no_box (Prim p) h k = absurd (h p refl)
no_box (Class x) h k = absurd (k x refl)
no_box (ArrayOf e) h k = refl
no_box t h k = refl

pub array_apart : (e t : JType) → NoClass t → false ≡ plain_subtype (ArrayOf e) t
array_apart e (Class x) h = absurd (h x refl)
array_apart e t h = refl

pub null_apart : (t : JType) → NoClass t → NoArray t → (t ≡ Null → ⊥) → false ≡ plain_subtype Null t
null_apart (Class x) h k l = absurd (h x refl)
null_apart (ArrayOf e) h k l = array_absurd e k
null_apart Null h k l = absurd (l refl)
null_apart t h k l = refl

told_gives : (w : World) (s : List Ask) (x y : Bool) → x ≡ y → Told {Q = Ask} (done y) w s s x
told_gives w s x y e = rw e (told_done w s y)

pub told_class_apart : (x : List ℕ) (t : JType) (w : World) (s : List Ask) → NoClass t → Told (subtype (Class x) t) w s s false
unfolding subtype
told_class_apart x (Class y) w s h = absurd (h y refl)
told_class_apart x t w s h = told_done w s false

pub told_array_apart : (e t : JType) (w : World) (s : List Ask) (r : Bool) → NoArray t → r ≡ plain_subtype (ArrayOf e) t → Told (subtype (ArrayOf e) t) w s s r
unfolding subtype
told_array_apart e (ArrayOf f) w s r h k = array_absurd f h
told_array_apart e t w s r h k = told_gives w s r (plain_subtype (ArrayOf e) t) k

pub told_apart : (a t : JType) (w : World) (s : List Ask) (r : Bool) → NoClass a → NoArray a → r ≡ plain_subtype a t → Told (subtype a t) w s s r
unfolding subtype
told_apart (Class x) t w s r h l k = absurd (h x refl)
told_apart (ArrayOf e) t w s r h l k = array_absurd e l
told_apart a t w s r h l k = told_gives w s r (plain_subtype a t) k

by_reference : (t : Bool) (a b : JType) (w : World) (s s' : List Ask) (r : Bool) → t ≡ true → Told (subtype a b) w s s' r → Told (if t then subtype a b else done (type_eq a b)) w s s' r
by_reference t a b w s s' r e h = rw e h

pub told_elements : (a b : JType) (w : World) (s s' : List Ask) (r : Bool) → is_reference a ≡ true → Told (subtype a b) w s s' r → Told (subtype (ArrayOf a) (ArrayOf b)) w s s' r
unfolding subtype
told_elements a b w s s' r e h = by_reference (is_reference a) a b w s s' r e h

by_equality : (t : Bool) (a b : JType) (w : World) (s : List Ask) (r : Bool) → t ≡ false → r ≡ type_eq a b → Told (if t then subtype a b else done (type_eq a b)) w s s r
by_equality t a b w s r e h = rw e (told_gives w s r (type_eq a b) h)

pub told_same_elements : (a b : JType) (w : World) (s : List Ask) (r : Bool) → is_reference a ≡ false → (r ≡ true → a ≡ b) × (a ≡ b → r ≡ true) → Told (subtype (ArrayOf a) (ArrayOf b)) w s s r
unfolding subtype
told_same_elements a b w s r e h = by_equality (is_reference a) a b w s r e (same_bool r (type_eq a b) (λ k. (types_decide a b).1 (h.0 k)) (λ k. h.1 ((types_decide a b).0 k)))

by_unknown : (t : Bool) (a b : JType) (w : World) (s : List Ask) → t ≡ true → Told (if t then done true else subtype a b) w s s true
by_unknown t a b w s e = rw e (told_done w s true)

pub told_unknown : (a b : JType) (w : World) (s : List Ask) → (is_unknown a || is_unknown b) ≡ true → Told (strict_fit a b) w s s true
unfolding strict_fit
told_unknown a b w s e = by_unknown (is_unknown a || is_unknown b) a b w s e

by_known : (t : Bool) (a b : JType) (w : World) (s s' : List Ask) (r : Bool) → t ≡ false → Told (subtype a b) w s s' r → Told (if t then done true else subtype a b) w s s' r
by_known t a b w s s' r e h = rw e h

pub told_known : (a b : JType) (w : World) (s s' : List Ask) (r : Bool) → is_unknown a ≡ false → is_unknown b ≡ false → Told (subtype a b) w s s' r → Told (strict_fit a b) w s s' r
unfolding strict_fit
told_known a b w s s' r e f h = by_known (is_unknown a || is_unknown b) a b w s s' r (ap (λ x. x || is_unknown b) e ∙ f) h

pub told_prim_loose : (p : JPrim) (t : JType) (w : World) (s s' : List Ask) (r : Bool) → NoClass t → Told (strict_fit (Prim p) t) w s s' r → Told (loose_fit (Prim p) t) w s s' r
unfolding loose_fit
told_prim_loose p (Class x) w s s' r h k = absurd (h x refl)
told_prim_loose p t w s s' r h k = k

pub told_class_loose : (x : List ℕ) (t : JType) (w : World) (s s' : List Ask) (r : Bool) → NoPrim t → Told (strict_fit (Class x) t) w s s' r → Told (loose_fit (Class x) t) w s s' r
unfolding loose_fit
told_class_loose x (Prim p) w s s' r h k = absurd (h p refl)
told_class_loose x t w s s' r h k = k

pub told_other_loose : (a t : JType) (w : World) (s s' : List Ask) (r : Bool) → NoPrim a → NoClass a → Told (strict_fit a t) w s s' r → Told (loose_fit a t) w s s' r
unfolding loose_fit
told_other_loose (Prim p) t w s s' r h l k = absurd (h p refl)
told_other_loose (Class x) t w s s' r h l k = absurd (l x refl)
told_other_loose a t w s s' r h l k = k

pub told_unboxed : (x : List ℕ) (q : JPrim) (w : World) (s : List Ask) (r : Bool) → r ≡ unboxed_fit (unboxed_type (Class x)) q → Told (loose_fit (Class x) (Prim q)) w s s r
unfolding loose_fit
told_unboxed x q w s r e = told_gives w s r (unboxed_fit (unboxed_type (Class x)) q) e
