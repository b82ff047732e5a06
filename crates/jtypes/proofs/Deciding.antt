-- The rules decide the relations.
use Rattle.std.proofs.Common.{◌≡◌, ℕ, List, [], ◌∷◌, refl, sym, ◌∙◌, ap, subst, inl, inr, Bool, true, false, ◌||◌, Option, None, Some, if◌then◌else◌}
use Rattle.std.specs.List.{list_any}
use Rattle.dialogue.specs.Dialogue.{done, bind, run}
use Rattle.dialogue.specs.DialogueLaws.{run-bind}
use Rattle.jtypes.specs.World.{World, Rule, name_eq}
use Rattle.jtypes.specs.Primitives.{prim_eq, widened_to, is_prim_subtype, box_name, boxed_in, boxed_among}
use Rattle.jtypes.specs.Subtype.{Reaches, Subtype, same, widened, inherited, to_object, from_null, array_to_class, arrays, classes_reached, class_subtype, subtype, plain_subtype, is_reference, type_eq, is_array_supertype, array_supertypes, object_name, longest_row}
use Rattle.jtypes.specs.Fits.{FitsStrictly, FitsLoosely, strictly, by_boxing, by_unboxing, strict_fit, loose_fit, is_unknown, unboxed_fit}
use Rattle.jtypes.specs.declared.types.JPrim.{JPrim}
use Rattle.jtypes.specs.declared.types.JPrim.TheVariants.{Boolean, Byte, Short, Char, Int, Long, Float, Double}
use Rattle.jtypes.specs.Arrays.{ArrayOf}
use Rattle.jtypes.specs.declared.types.JType.{JType}
use Rattle.jtypes.specs.declared.types.JType.TheVariants.{Prim, Class, Null, Void, Unknown}
use Rattle.jtypes.proofs.Reached.{reached_reaches, reaches_reached}
use Rattle.jtypes.proofs.Equality.{true_false, or_true, or_cases, or_left, or_right, any_in, in_any, names_decide, prims_decide, type_eq_true, type_eq_same}

abbrev walk : List ℕ → List ℕ → Rule Bool
walk a b = bind (classes_reached longest_row a) (λ cs. done (list_any (λ c. name_eq b c) cs))

walk_gives : (w : World) (a b : List ℕ) → run (walk a b) w ≡ list_any (λ c. name_eq b c) (run (classes_reached longest_row a) w)
walk_gives w a b = run-bind (classes_reached longest_row a) (λ cs. done (list_any (λ c. name_eq b c) cs)) w

class_true : (w : World) (a b : List ℕ) → run (class_subtype a b) w ≡ true → Subtype w (Class a) (Class b)
unfolding class_subtype
class_true w a b h = by_tests (name_eq a b) (name_eq b object_name) refl refl h
  where
    by_tests : (r s : Bool) → name_eq a b ≡ r → name_eq b object_name ≡ s → run (if r || s then done true else walk a b) w ≡ true → Subtype w (Class a) (Class b)
    by_tests true s e f k = subst (λ x. Subtype w (Class a) (Class x)) ((names_decide a b).0 e) (same (Class a))
    by_tests false true e f k = subst (λ x. Subtype w (Class a) (Class x)) (sym ((names_decide b object_name).0 f)) (to_object (Class a) refl)
    by_tests false false e f k = inherited a b (reached_reaches w longest_row a b (any_in name_eq names_decide b (run (classes_reached longest_row a) w) (sym (walk_gives w a b) ∙ k)))

class_at_once : (w : World) (a b : List ℕ) → (name_eq a b || name_eq b object_name) ≡ true → run (class_subtype a b) w ≡ true
unfolding class_subtype
class_at_once w a b h = ap (λ r. run (if r then done true else walk a b) w) h

class_walked : (w : World) (a b : List ℕ) → Reaches w longest_row a b → run (class_subtype a b) w ≡ true
unfolding class_subtype
class_walked w a b r = by_test (name_eq a b || name_eq b object_name)
  where
    by_test : (t : Bool) → run (if t then done true else walk a b) w ≡ true
    by_test true = refl
    by_test false = walk_gives w a b ∙ in_any name_eq names_decide b (run (classes_reached longest_row a) w) (reaches_reached w longest_row a b r)

class_same : (w : World) (a : List ℕ) → run (class_subtype a a) w ≡ true
class_same w a = class_at_once w a a (or_left (name_eq a a) (name_eq a object_name) ((names_decide a a).1 refl))

prim_true : (w : World) (p q : JPrim) → is_prim_subtype p q ≡ true → Subtype w (Prim p) (Prim q)
prim_true w p q h = elim (or_cases (prim_eq p q) (list_any (λ r. prim_eq q r) (widened_to p)) h) [
  | inl e ↦ subst (λ x. Subtype w (Prim p) (Prim x)) ((prims_decide p q).0 e) (same (Prim p))
  | inr k ↦ widened p q (any_in prim_eq prims_decide q (widened_to p) k)
]

array_true : (w : World) (element : JType) (b : List ℕ) → is_array_supertype b ≡ true → Subtype w (ArrayOf element) (Class b)
array_true w element b h = elim (or_cases (name_eq b object_name) (list_any (λ s. name_eq b s) array_supertypes) h) [
  | inl e ↦ subst (λ x. Subtype w (ArrayOf element) (Class x)) (sym ((names_decide b object_name).0 e)) (to_object (ArrayOf element) refl)
  | inr k ↦ array_to_class element b (any_in name_eq names_decide b array_supertypes k)
]

plain_true : (w : World) (a b : JType) → plain_subtype a b ≡ true → Subtype w a b
plain_true w (Prim p) (Prim q) h = prim_true w p q h
plain_true w (ArrayOf element) (Class b) h = array_true w element b h
plain_true w Null (Class b) h = from_null (Class b) refl
plain_true w Null (ArrayOf b) h = from_null (ArrayOf b) refl
plain_true w Null Null h = same Null
plain_true w Void Void h = same Void
plain_true w Unknown Unknown h = same Unknown
plain_true w a b h = true_false (sym h)

arrays_true : (w : World) (a b : JType) (r : Bool) → is_reference a ≡ r → (run (subtype a b) w ≡ true → Subtype w a b) → run (if r then subtype a b else done (type_eq a b)) w ≡ true → Subtype w (ArrayOf a) (ArrayOf b)
arrays_true w a b true e f h = arrays a b e (f h)
arrays_true w a b false e f h = subst (λ x. Subtype w (ArrayOf a) (ArrayOf x)) (type_eq_true a b h) (same (ArrayOf a))

pub subtype_true : (w : World) (a b : JType) → run (subtype a b) w ≡ true → Subtype w a b
unfolding subtype
subtype_true w (Class a) (Class b) h = class_true w a b h
subtype_true w (ArrayOf a) (ArrayOf b) h = arrays_true w a b (is_reference a) refl (λ k. subtype_true w a b k) h
subtype_true w a b h = plain_true w a b h

arrays_same : (w : World) (a : JType) (r : Bool) → run (subtype a a) w ≡ true → run (if r then subtype a a else done (type_eq a a)) w ≡ true
arrays_same w a true h = h
arrays_same w a false h = type_eq_same a

subtype_same : (w : World) (a : JType) → run (subtype a a) w ≡ true
unfolding subtype
subtype_same w (Prim p) = or_left (prim_eq p p) (list_any (λ r. prim_eq p r) (widened_to p)) ((prims_decide p p).1 refl)
subtype_same w (Class a) = class_same w a
subtype_same w (ArrayOf a) = arrays_same w a (is_reference a) (subtype_same w a)
subtype_same w Null = refl
subtype_same w Void = refl
subtype_same w Unknown = refl

object_above : (w : World) (a : JType) → is_reference a ≡ true → run (subtype a (Class object_name)) w ≡ true
unfolding subtype
object_above w (Prim p) h = h
object_above w (Class a) h = class_at_once w a object_name (or_right (name_eq a object_name) (name_eq object_name object_name) ((names_decide object_name object_name).1 refl))
object_above w (ArrayOf a) h = or_left (name_eq object_name object_name) (list_any (λ s. name_eq object_name s) array_supertypes) ((names_decide object_name object_name).1 refl)
object_above w Null h = refl
object_above w Void h = h
object_above w Unknown h = h

null_below : (w : World) (b : JType) → is_reference b ≡ true → run (subtype Null b) w ≡ true
unfolding subtype
null_below w (Prim p) h = h
null_below w (Class b) h = refl
null_below w (ArrayOf b) h = refl
null_below w Null h = refl
null_below w Void h = h
null_below w Unknown h = h

pub subtype_all : (w : World) (a b : JType) → Subtype w a b → run (subtype a b) w ≡ true
unfolding subtype
subtype_all w _ _ (same a) = subtype_same w a
subtype_all w _ _ (widened p q i) = or_right (prim_eq p q) (list_any (λ r. prim_eq q r) (widened_to p)) (in_any prim_eq prims_decide q (widened_to p) i)
subtype_all w _ _ (inherited a b r) = class_walked w a b r
subtype_all w _ _ (to_object a h) = object_above w a h
subtype_all w _ _ (from_null b h) = null_below w b h
subtype_all w _ _ (array_to_class element b i) = or_right (name_eq b object_name) (list_any (λ s. name_eq b s) array_supertypes) (in_any name_eq names_decide b array_supertypes i)
subtype_all w _ _ (arrays a b h k) = ap (λ r. run (if r then subtype a b else done (type_eq a b)) w) h ∙ subtype_all w a b k

unknown_is : (a : JType) → is_unknown a ≡ true → a ≡ Unknown
unknown_is Unknown h = refl
unknown_is a h = true_false (sym h)

pub strict_true : (w : World) (a b : JType) → run (strict_fit a b) w ≡ true → FitsStrictly w a b
unfolding strict_fit
strict_true w a b h = by_tests (is_unknown a) (is_unknown b) refl refl h
  where
    by_tests : (r s : Bool) → is_unknown a ≡ r → is_unknown b ≡ s → run (if r || s then done true else subtype a b) w ≡ true → FitsStrictly w a b
    by_tests true s e f k = inl (unknown_is a e)
    by_tests false true e f k = inr (inl (unknown_is b f))
    by_tests false false e f k = inr (inr (subtype_true w a b k))

strict_at_once : (w : World) (a b : JType) → (is_unknown a || is_unknown b) ≡ true → run (strict_fit a b) w ≡ true
unfolding strict_fit
strict_at_once w a b h = ap (λ r. run (if r then done true else subtype a b) w) h

strict_tested : (w : World) (a b : JType) → run (subtype a b) w ≡ true → run (strict_fit a b) w ≡ true
unfolding strict_fit
strict_tested w a b h = by_test (is_unknown a || is_unknown b)
  where
    by_test : (t : Bool) → run (if t then done true else subtype a b) w ≡ true
    by_test true = refl
    by_test false = h

pub strict_all : (w : World) (a b : JType) → FitsStrictly w a b → run (strict_fit a b) w ≡ true
strict_all w a b (inl e) = strict_at_once w a b (ap (λ x. is_unknown x || is_unknown b) e)
strict_all w a b (inr (inl e)) = strict_at_once w a b (ap (λ x. is_unknown a || is_unknown x) e ∙ or_true (is_unknown a))
strict_all w a b (inr (inr s)) = strict_tested w a b (subtype_all w a b s)

boxed_among_is : (ps : List JPrim) (a : List ℕ) (p : JPrim) → boxed_among ps a ≡ Some p → a ≡ box_name p
boxed_among_is [] a p h = absurd (let e : None ≡ Some p = h in cc)
boxed_among_is (q ∷ ps) a p h = by_test (name_eq a (box_name q)) refl (λ k. boxed_among_is ps a p k) h
  where
    by_test : (r : Bool) → name_eq a (box_name q) ≡ r → (boxed_among ps a ≡ Some p → a ≡ box_name p) → (if r then Some q else boxed_among ps a) ≡ Some p → a ≡ box_name p
    by_test true e f k = let s : Some q ≡ Some p = k in let t : q ≡ p = cc in (names_decide a (box_name q)).0 e ∙ ap box_name t
    by_test false e f k = f k

boxed_is : (a : List ℕ) (p : JPrim) → boxed_in a ≡ Some p → a ≡ box_name p
unfolding boxed_in
boxed_is a p h = boxed_among_is (Boolean ∷ Byte ∷ Short ∷ Char ∷ Int ∷ Long ∷ Float ∷ Double ∷ []) a p h

boxed_box : (p : JPrim) → boxed_in (box_name p) ≡ Some p
unfolding boxed_in box_name
boxed_box Boolean = refl
boxed_box Byte = refl
boxed_box Short = refl
boxed_box Char = refl
boxed_box Int = refl
boxed_box Long = refl
boxed_box Float = refl
boxed_box Double = refl

unboxed_true : (w : World) (a : List ℕ) (q : JPrim) (o : Option JPrim) → boxed_in a ≡ o → unboxed_fit o q ≡ true → FitsLoosely w (Class a) (Prim q)
unboxed_true w a q None e h = true_false (sym h)
unboxed_true w a q (Some p) e h = subst (λ n. FitsLoosely w (Class n) (Prim q)) (sym (boxed_is a p e)) (by_unboxing p q (prim_true w p q h))

pub loose_true : (w : World) (a b : JType) → run (loose_fit a b) w ≡ true → FitsLoosely w a b
unfolding loose_fit
loose_true w (Prim p) (Class b) h = by_boxing p b (class_true w (box_name p) b h)
loose_true w (Class a) (Prim q) h = unboxed_true w a q (boxed_in a) refl h
loose_true w a b h = strictly a b (strict_true w a b h)

strict_loose : (w : World) (a b : JType) → run (strict_fit a b) w ≡ true → run (loose_fit a b) w ≡ true
unfolding loose_fit strict_fit subtype
strict_loose w (Prim p) (Class b) h = true_false (sym h)
strict_loose w (Class a) (Prim q) h = true_false (sym h)
strict_loose w a b h = h

pub loose_all : (w : World) (a b : JType) → FitsLoosely w a b → run (loose_fit a b) w ≡ true
unfolding loose_fit subtype
loose_all w _ _ (strictly a b s) = strict_loose w a b (strict_all w a b s)
loose_all w _ _ (by_boxing p b k) = subtype_all w (Class (box_name p)) (Class b) k
loose_all w _ _ (by_unboxing p q k) = ap (λ o. unboxed_fit o q) (boxed_box p) ∙ subtype_all w (Prim p) (Prim q) k
