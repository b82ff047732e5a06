-- Loops that go outward over the frames that matter.
use Rattle.std.proofs.Common.{◌≡◌, ℕ, List, Option, None, Some, false, suc, drop}
use Rattle.std.proofs.Common.{take}
use Rattle.std.proofs.Common.{length, get_or, ◌<◌, ◌≤◌, refl, sym, subst, map, arith}
use Rattle.std.specs.Prelude.{reverse}
use Rattle.dialogue.specs.Dialogue.{done, first_found}
use Rattle.dialogue.specs.Told.{Told}
use Rattle.jtypes.specs.World.{World, Rule}
use Rattle.jtypes.specs.declared.ask.Ask.{Ask}
use Rattle.jtypes.proofs.Equality.{true_false}
use Rattle.j_names.specs.Calls.{call_in_frame}
use Rattle.j_names.specs.Names.{type_in_frame, variable_in_frame}
use Rattle.j_names.specs.Scopes.{matters, behind, IsLastBefore}
use Rattle.j_names.specs.declared.context.Frame.{Frame}
use Rattle.j_names.specs.declared.context.Frame.TheVariants.{Class as ClassFrame, Declared, Local as LocalFrame}
use Rattle.j_names.specs.declared.context.Frame.TheVariants.{LocalBody, TypeParam}
use Rattle.j_names.proofs.Outward.{outward_more, outward_end, drop_split, pass}

module _ {A : Type 0} (n : List ℕ) (f : Frame → Rule (Option A))
    (silent : (x : Frame) → matters n x ≡ false → f x ≡ done None) (w : World) (s m : List Ask)
    (frames : List Frame) (end : ℕ) (place : Option ℕ) (last : IsLastBefore n end frames place)
    (h : Told (first_found (map f (reverse (drop end frames)))) w s m None) where
  passed : behind place ≤ end → Told (first_found (map f (reverse (drop (behind place) frames)))) w s m None
  passed le =
      subst (λ ys. Told (first_found (map f (reverse ys))) w s m None) (sym (drop_split (behind place) end frames le))
      (pass f (matters n) silent w s m (drop (behind place) (take end frames)) (drop end frames) last.silent h)

  pub none_left : place ≡ None → Told (first_found (map f (reverse frames))) w s m None
  none_left e =
      subst (λ p. Told (first_found (map f (reverse (drop (behind p) frames)))) w s m None) e
      (passed (subst (λ p. behind p ≤ end) (sym e) (omega arith)))

  module _ (at : ℕ) (e : place ≡ Some at) (x : Frame) (within : end ≤ length frames) (is : x ≡ get_or frames at x)
    where
      past_it : Told (first_found (map f (reverse (drop (suc at) frames)))) w s m None
      past_it =
          subst (λ p. Told (first_found (map f (reverse (drop (behind p) frames)))) w s m None) e
          (passed (subst (λ p. behind p ≤ end) (sym e) (omega (arith, last.within at e))))

      inside : at < length frames
      inside = omega (arith, last.within at e, within)

      pub next_past : (t : List Ask) (o : Option A) → Told (f x) w m t o
          → Told (first_found (map f (reverse (drop at frames)))) w s t o
      next_past t o k = outward_more frames at x inside is f w (suc at) refl s m t past_it o k

      pub next_here : (t : List Ask) (a : A) → Told (f x) w m t (Some a)
          → Told (first_found (map f (reverse frames))) w s t (Some a)
      next_here t a k = outward_end frames at x inside is f w (suc at) refl s m t past_it a k

-- frames that don't matter have nothing of the name
pub no_type : (top : Option (List ℕ)) (n : List ℕ) (x : Frame) → matters n x ≡ false
    → type_in_frame top n x ≡ done None
no_type top n (LocalFrame name ty) e = refl
no_type top n (TypeParam name) e = rw e refl
no_type top n (ClassFrame name) e = true_false e
no_type top n (LocalBody is_anonymous supertype fields methods) e = true_false e
no_type top n (Declared name) e = rw e refl

pub no_variable : (top : Option (List ℕ)) (n : List ℕ) (x : Frame) → matters n x ≡ false
    → variable_in_frame top n x ≡ done None
no_variable top n (LocalFrame name ty) e = rw e refl
no_variable top n (TypeParam name) e = refl
no_variable top n (ClassFrame name) e = true_false e
no_variable top n (LocalBody is_anonymous supertype fields methods) e = true_false e
no_variable top n (Declared name) e = refl

pub no_call : (top : Option (List ℕ)) (n : List ℕ) (x : Frame) → matters n x ≡ false
    → call_in_frame top n x ≡ done None
no_call top n (LocalFrame name ty) e = refl
no_call top n (TypeParam name) e = refl
no_call top n (ClassFrame name) e = true_false e
no_call top n (LocalBody is_anonymous supertype fields methods) e = true_false e
no_call top n (Declared name) e = refl
