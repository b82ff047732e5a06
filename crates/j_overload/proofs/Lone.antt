-- A lone applicable candidate: its tests against itself ask nothing and pass.
use Rattle.std.proofs.Common.{◌≡◌, ◌∙◌, sym, ap, subst, refl, ℕ, List, [], ◌∷◌, length, map, Bool, true, false, Some}
use Rattle.std.proofs.Common.{if◌then◌else◌, arith, All}
use Rattle.std.specs.List.{zip, list_all, list_any}
use Rattle.dialogue.specs.Dialogue.{done, bind, each}
use Rattle.dialogue.specs.Told.{Told}
use Rattle.dialogue.specs.ToldLaws.{told_done, told_bind, told_same}
use Rattle.jtypes.specs.World.{World, Rule, name_eq}
use Rattle.jtypes.specs.Arrays.{ArrayOf}
use Rattle.jtypes.specs.Primitives.{prim_eq, widened_to}
use Rattle.jtypes.specs.Subtype.{subtype, class_subtype, classes_reached, longest_row, object_name, is_reference, type_eq}
use Rattle.jtypes.specs.declared.ask.Ask.{Ask}
use Rattle.jtypes.specs.declared.signatures.MethodSig.{MethodSig}
use Rattle.jtypes.specs.declared.types.JType.{JType}
use Rattle.jtypes.specs.declared.types.JType.TheVariants.{Prim, Class, Null, Void, Unknown}
use Rattle.jtypes.proofs.Equality.{or_left, names_decide, prims_decide, type_eq_same}
use Rattle.j_overload.specs.Parameters.{parameter_types, compared_count}
use Rattle.j_overload.specs.Picked.{candidates_at, TakesAt}
use Rattle.j_overload.specs.Rules.{applicable_ones, more_specific, most_specific_ones, first_of_equals, choice_among}
use Rattle.j_overload.specs.Rules.{choice_in}
use Rattle.j_overload.specs.declared.argument.ArgType.{ArgType}
use Rattle.j_overload.specs.declared.choice.Choice.TheVariants.{Method}
use Rattle.j_overload.specs.declared.phase.Phase.{Phase}
use Rattle.j_overload.proofs.Picks.{candidates_at-one}

by_kind : (b : Bool) (d : Rule Bool) (t : Bool) → d ≡ done true → t ≡ true → (if b then d else done t) ≡ done true
by_kind true d t e f = e
by_kind false d t e f = ap (λ x. done x) f

-- the test of a type against itself
pub subtype_self : (t : JType) → subtype t t ≡ done true
unfolding subtype class_subtype
subtype_self (Prim p) =
    ap (λ b. done b) (or_left (prim_eq p p) (list_any (λ r. prim_eq p r) (widened_to p)) ((prims_decide p p).1 refl))
subtype_self (Class a) =
    ap (λ b. if b then done true else bind (classes_reached longest_row a) (λ cs. done (list_any (λ c. name_eq a c) cs)))
    (or_left (name_eq a a) (name_eq a object_name) ((names_decide a a).1 refl))
subtype_self (ArrayOf a) = by_kind (is_reference a) (subtype a a) (type_eq a a) (subtype_self a) (type_eq_same a)
subtype_self Null = refl
subtype_self Void = refl
subtype_self Unknown = refl

abbrev pair_test : JType × JType → Rule Bool
pair_test t = subtype t.0 t.1

pairs_self : (ts : List JType) → each pair_test (zip ts ts) ≡ done (map (λ t. true) ts)
pairs_self [] = refl
pairs_self (t ∷ ts) =
    ap (λ d. bind d (λ y. bind (each pair_test (zip ts ts)) (λ ys. done (y ∷ ys)))) (subtype_self t)
    ∙ ap (λ d. bind d (λ ys. done (true ∷ ys))) (pairs_self ts)

all_pass : (ts : List JType) → list_all (λ b. b) (map (λ t. true) ts) ≡ true
all_pass [] = refl
all_pass (t ∷ ts) = all_pass ts

-- a method against itself
pub more_self : (phase : Phase) (k : ℕ) (m : MethodSig) → more_specific phase k m m ≡ done true
unfolding more_specific
more_self phase k m =
    ap (λ d. bind d (λ passed. done (list_all (λ b. b) passed))) (pairs_self (parameter_types phase m (compared_count k m)))
    ∙ ap (λ b. done b) (all_pass (parameter_types phase m (compared_count k m)))

lone_best : (phase : Phase) (k : ℕ) (c : ℕ × MethodSig) → most_specific_ones phase k (c ∷ []) ≡ done (c ∷ [])
unfolding most_specific_ones
lone_best phase k c =
    ap (λ d. bind (bind (bind d (λ y. done (y ∷ []))) (λ passed. done (list_all (λ b. b) passed)))
    (λ passes. done (if passes then c ∷ [] else []))) (more_self phase k c.1)

lone_choice : (phase : Phase) (k : ℕ) (c : ℕ × MethodSig) → choice_among phase k (c ∷ []) ≡ done (Some (Method c.0))
lone_choice phase k c = ap (λ d. bind d (λ best. done (Some (first_of_equals best)))) (lone_best phase k c)

module _ (phase : Phase) (args : List ArgType) (cs : List MethodSig) (w : World) (s s' : List Ask) where
  told_one : (places : List ℕ) (i : ℕ) (m : MethodSig) → candidates_at cs places ≡ (i, m) ∷ []
      → Told (applicable_ones phase args cs) w s s' (candidates_at cs places) → Told (choice_in phase args cs) w s s' (Some (Method i))
  unfolding choice_in
  told_one places i m e h =
      told_bind (applicable_ones phase args cs) (choice_among phase (length args)) w s s' s' (candidates_at cs places) (Some (Method i)) h
      (subst (λ ms. Told (choice_among phase (length args) ms) w s' s' (Some (Method i))) (sym e)
      (told_same (done (Some (Method i))) (choice_among phase (length args) ((i, m) ∷ [])) w s' s' (Some (Method i))
      (sym (lone_choice phase (length args) (i, m))) (told_done w s' (Some (Method i)))))

  -- the choice of a phase that has one applicable candidate
  pub told_lone : (places : List ℕ) (i : ℕ) → places ≡ i ∷ [] → All (TakesAt cs phase (length args)) places
      → Told (applicable_ones phase args cs) w s s' (candidates_at cs places) → Told (choice_in phase args cs) w s s' (Some (Method i))
  told_lone places i e t h = by_taken (subst (λ is. All (TakesAt cs phase (length args)) is) e t 0 i (omega arith))
    where
      by_taken : TakesAt cs phase (length args) i → Told (choice_in phase args cs) w s s' (Some (Method i))
      by_taken (m, f, l) = told_one places i m (ap (candidates_at cs) e ∙ candidates_at-one cs i m f) h
