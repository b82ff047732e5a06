-- The classes that written types name.
use Rattle.std.proofs.Common.{◌≡◌, ◌∙◌, refl, sym, ap, subst, ℕ, List, [], ◌∷◌, ◌++◌, ◌+◌, ◌<◌, Option, None, Some}
use Rattle.std.proofs.Common.{take, length, get_or, append-nil, append_assoc}
use Rattle.dialogue.specs.Dialogue.{each}
use Rattle.dialogue.specs.Told.{Told}
use Rattle.dialogue.specs.ToldLaws.{told_done, told_map}
use Rattle.jtypes.specs.World.{World, Rule}
use Rattle.jtypes.specs.declared.ask.Ask.{Ask}
use Rattle.jtypes.specs.declared.symbol.Symbol.{Symbol}
use Rattle.j_names.specs.declared.context.Frame.{Frame}
use Rattle.j_names.specs.declared.context.UnitContext.{UnitContext}
use Rattle.declared_types.specs.declared.written.Base.{Base}
use Rattle.declared_types.specs.declared.written.Base.TheVariants.{Named}
use Rattle.declared_types.specs.declared.written.NamePart.{NamePart}
use Rattle.declared_types.specs.Resolving.{name_meant}
use Rattle.declared_types.specs.Supertypes.{known, gathered, class_of, class_by_base}
use Rattle.declared_types.proofs.Loops.{each_more}

known-append : {A : Type 0} (os ps : List (Option A)) → known (os ++ ps) ≡ known os ++ known ps
known-append [] ps = refl
known-append (None ∷ os) ps = known-append os ps
known-append (Some a ∷ os) ps = ap (λ xs. a ∷ xs) (known-append os ps)

-- classes that were found among some types, and what their rule gave
pub record Found {A : Type 0} (f : A → Rule (Option (List ℕ))) (xs : List A) (w : World) (old new : List Ask)
    (before after : List (List ℕ)) : Type 0 where
  pub all : List (Option (List ℕ))
  pub told : Told (each f xs) w old new all
  pub names : after ≡ before ++ known all

module _ {A : Type 0} (f : A → Rule (Option (List ℕ))) (xs : List A) (w : World) (old mid : List Ask)
    (before : List (List ℕ)) where
  pub found_none : Found f [] w old old before before
  found_none = record { all = []; told = told_done w old []; names = sym (append-nil before) }

  pub found_more : (i : ℕ) (x : A) → i < length xs → x ≡ get_or xs i x → (now : List (List ℕ))
      → Found f (take i xs) w old mid before now → (new : List Ask) (o : Option (List ℕ)) → Told (f x) w mid new o
      → (after : List (List ℕ)) → after ≡ now ++ known (o ∷ [])
      → Found f (take (i + 1) xs) w old new before after
  found_more i x lt is now h new o t after e = record {
    all = h.all ++ o ∷ [];
    told = each_more w xs i x lt is old mid new f h.all o h.told t;
    names =
        e
        ∙ ap (λ ns. ns ++ known (o ∷ [])) h.names
        ∙ append_assoc before (known h.all) (known (o ∷ []))
        ∙ ap (λ ns. before ++ ns) (sym (known-append h.all (o ∷ [])));
  }

  pub found_all : (after : List (List ℕ)) → Found f xs w old mid before after
      → Told (gathered f before xs) w old mid after
  found_all after h =
      subst (λ ns. Told (gathered f before xs) w old mid ns) (sym h.names)
      (told_map (each f xs) (λ found. before ++ known found) w old mid h.all h.told)

-- a lone name that means a class
pub class_named : (w : World) (cx : UnitContext) (frames : List Frame) (dims : ℕ) (b : Base) (part : NamePart)
    (parts : List NamePart) (old new : List Ask) (s : Symbol) → dims ≡ 0 → b ≡ Named part parts
    → Told (name_meant cx frames part parts) w old new s
    → Told (class_by_base cx frames dims b) w old new (class_of s)
class_named w cx frames dims b part parts old new s z e h =
    rw (z, e) (told_map (name_meant cx frames part parts) class_of w old new s h)
