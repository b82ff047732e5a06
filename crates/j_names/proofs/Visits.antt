-- What the visit of a class gives and asks, by its four ends.
use Rattle.std.proofs.Common.{◌≡◌, ℕ, List, [], ◌∷◌, Bool, true, false, ◌||◌, None, Some, refl, sym, ap}
use Rattle.std.proofs.Common.{subst, zero, suc, ◌∙◌, ◌<◌, ◌-◌, arith}
use Rattle.dialogue.specs.Dialogue.{done, in_turn, In}
use Rattle.dialogue.specs.Told.{Told, Heard}
use Rattle.dialogue.specs.ToldLaws.{told_done, told_ask, told_bind, in_turn_told}
use Rattle.jtypes.specs.World.{World, name_eq}
use Rattle.jtypes.proofs.Equality.{any_in, in_any, names_decide, same_bool, true_false}
use Rattle.jtypes.specs.declared.ask.Ask.{Ask}
use Rattle.jtypes.specs.declared.ask.Ask.TheVariants.{Class as AskClass}
use Rattle.jtypes.specs.declared.signatures.Header.{Header}
use Rattle.j_names.specs.Walk.{Walked, Sought, Onward, is_in, with_seen, after_visit, class_there, visited, walk_up}
use Rattle.j_names.specs.Walk.{walked, walk, from_start}
use Rattle.j_names.specs.Walk.{most_behind, is_interface}
use Rattle.jtypes.specs.Subtype.{object_name}

module _ {S : Type 0} (sought : Sought S) (onward : Onward S) (at : Walked S) (name : List ℕ) (w : World) where
  pub visit_stays : (s : List Ask) → (sought.over at.found || is_in at.seen name) ≡ true
      → Told (visited sought onward at name) w s s at
  unfolding visited
  visit_stays s h = rw h (told_done w s at)

  pub visit_absent : (old new : List Ask) → (sought.over at.found || is_in at.seen name) ≡ false
      → w (AskClass name) ≡ None → Heard old (AskClass name ∷ []) new
      → Told (visited sought onward at name) w old new (with_seen at name at.found)
  unfolding visited
  visit_absent old new h e heard = rw h (told_ask (AskClass name)
      (class_there sought onward at name) w old new new _ heard (rw e (told_done w new _)))

  pub visit_ends : (header : Header) (f : S) (old mid new : List Ask)
      → (sought.over at.found || is_in at.seen name) ≡ false → w (AskClass name) ≡ Some header
      → Heard old (AskClass name ∷ []) mid
      → Told (sought.visit name header at.found) w mid new f → sought.over f ≡ true
      → Told (visited sought onward at name) w old new (walked f at.seen)
  unfolding visited
  visit_ends header f old mid new h e heard t o =
      rw h (told_ask (AskClass name) (class_there sought onward at name) w old mid new _ heard
      (rw e (told_bind (sought.visit name header at.found)
      (after_visit sought onward at name header) w mid new new f _ t (rw o (told_done w new _)))))

  pub visit_goes : (header : Header) (f : S) (r : Walked S) (old mid next new : List Ask)
      → (sought.over at.found || is_in at.seen name) ≡ false → w (AskClass name) ≡ Some header
      → Heard old (AskClass name ∷ []) mid
      → Told (sought.visit name header at.found) w mid next f → sought.over f ≡ false
      → Told (onward (with_seen at name f) header) w next new r → Told (visited sought onward at name) w old new r
  unfolding visited
  visit_goes header f r old mid next new h e heard t o go =
      rw h (told_ask (AskClass name) (class_there sought onward at name) w old mid new r heard
      (rw e (told_bind (sought.visit name header at.found)
      (after_visit sought onward at name header) w mid next new f r t (rw o go))))

-- how the walk goes on from a class with so many supertypes left
pub up_from : {S : Type 0} → Sought S → ℕ → Onward S
up_from sought zero at header = done at
up_from sought (suc n) at header = in_turn (walk_up sought n) at header.supertypes

pub walk_up_is : {S : Type 0} (sought : Sought S) (n : ℕ) → walk_up sought n ≡ visited sought (up_from sought n)
unfolding walk_up up_from
walk_up_is sought zero = refl
walk_up_is sought (suc n) = refl

pub up_told : {S : Type 0} (sought : Sought S) (n : ℕ) (at : Walked S) (name : List ℕ) (w : World) (s t : List Ask)
    (r : Walked S) → Told (visited sought (up_from sought n) at name) w s t r
    → Told (walk_up sought n at name) w s t r
up_told sought n at name w s t r h = subst (λ f. Told (f at name) w s t r) (sym (walk_up_is sought n)) h

-- how the walk goes on where no supertype is left, and where some are
pub up_none : {S : Type 0} (sought : Sought S) (n : ℕ) (at : Walked S) (header : Header) (w : World) (s : List Ask)
    → n ≡ 0 → Told (up_from sought n at header) w s s at
unfolding up_from
up_none sought n at header w s e = rw e (told_done w s at)

pub up_some : {S : Type 0} (sought : Sought S) (n m : ℕ) (at : Walked S) (header : Header) (w : World)
    (s t : List Ask) (r : Walked S) → n ≡ suc m → Told (in_turn (walk_up sought m) at header.supertypes) w s t r
    → Told (up_from sought n at header) w s t r
unfolding up_from
up_some sought n m at header w s t r e h = rw e h

-- whether a class was visited
pub has_is : (r : Bool) (name : List ℕ) (seen : List (List ℕ))
    → ((r ≡ true → In name seen) × (In name seen → r ≡ true)) → r ≡ is_in seen name
has_is r name seen t = same_bool r (is_in seen name) (λ h. in_any name_eq names_decide name seen (t.0 h))
    (λ h. t.1 (any_in name_eq names_decide name seen h))

pub not_in : (name : List ℕ) (seen : List (List ℕ)) → is_in seen name ≡ false → In name seen → ⊥
not_in name seen h i = true_false (sym (in_any name_eq names_decide name seen i) ∙ h)

pub or_false : (r s : Bool) → r ≡ false → s ≡ false → (r || s) ≡ false
or_false r s h k = ap (λ x. x || s) h ∙ k

pub suc_of : (n : ℕ) → 0 < n → n ≡ suc (n - 1)
suc_of zero h = absurd (omega (arith, h))
suc_of (suc n) h = ap suc (omega arith)

pub none_of : (n : ℕ) → (0 < n → ⊥) → n ≡ 0
none_of zero h = refl
none_of (suc n) h = absurd (h (omega arith))

module _ {S : Type 0} (what : Sought S) (w : World) where
  pub walk_told : (none : S) (start : List ℕ) (old new : List Ask) (r : Walked S)
      → Told (visited what (from_start what) (walked none []) start) w old new r
      → Told (walk what none start) w old new r.found
  unfolding walk
  walk_told none start old new r h = told_bind (visited what (from_start what) (walked none []) start)
      (λ at. done at.found) w old new new r r.found h (told_done w new r.found)

  -- a walk from an interface ends with Object
  pub start_interface : (at : Walked S) (header : Header) (old mid new : List Ask) (t u : Walked S)
      → is_interface header.kind ≡ true → Told (in_turn (walk_up what most_behind) at header.supertypes) w old mid t
      → Told (walk_up what most_behind t object_name) w mid new u → Told (from_start what at header) w old new u
  start_interface at header old mid new t u e h k = rw e
      (in_turn_told w header.supertypes object_name old mid new (walk_up what most_behind) at t u h k)

  pub start_class : (at : Walked S) (header : Header) (old new : List Ask) (t : Walked S)
      → is_interface header.kind ≡ false → Told (in_turn (walk_up what most_behind) at header.supertypes) w old new
      t → Told (from_start what at header) w old new t
  start_class at header old new t e h = rw e h
