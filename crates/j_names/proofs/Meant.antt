-- What a simple name means as a type, by the first of its five rules that finds something.
use Rattle.std.proofs.Common.{◌≡◌, subst, ℕ, List, [], ◌∷◌, Option, None, Some, map}
use Rattle.dialogue.specs.Dialogue.{done, first_found}
use Rattle.dialogue.specs.Told.{Told}
use Rattle.dialogue.specs.ToldLaws.{told_done, found_here, found_past, found_last}
use Rattle.jtypes.specs.World.{World, Rule}
use Rattle.jtypes.specs.declared.ask.Ask.{Ask}
use Rattle.j_names.specs.Members.{joined, type_at}
use Rattle.j_names.specs.Names.{outward, top_around, type_in_frame, type_in_class, type_on_demand}
use Rattle.j_names.specs.Names.{type_meant, first_kind}
use Rattle.j_names.specs.declared.context.UnitContext.{UnitContext}
use Rattle.j_names.specs.declared.context.Frame.{Frame}
use Rattle.jtypes.specs.declared.symbol.Symbol.{Symbol}

module _ (w : World) (cx : UnitContext) (frames : List Frame) (n : List ℕ) (top : Option (List ℕ))
    (is_top : top ≡ top_around cx) (s : List Ask) where
  abbrev pub by_frames : Option (List ℕ) → Rule (Option Symbol)
  by_frames p = first_found (map (type_in_frame p n) (outward frames))

  abbrev pub by_classes : Option (List ℕ) → Rule (Option Symbol)
  by_classes p = first_found (map (type_in_class p n) (outward cx.enclosing))

  abbrev pub by_import : Rule (Option Symbol)
  by_import = done (first_kind n cx.imports)

  abbrev pub by_package : Option (List ℕ) → Rule (Option Symbol)
  by_package p = type_at p (joined cx.package n)

  abbrev pub by_demand : Option (List ℕ) → Rule (Option Symbol)
  by_demand p = type_on_demand p cx.imports n

  whole : (t : List Ask) (o : Option Symbol) → Told
      (first_found (by_frames top ∷ by_classes top ∷ by_import ∷ by_package top ∷ by_demand top ∷ [])) w s t o
      → Told (type_meant cx frames n) w s t o
  unfolding type_meant
  whole t o h = subst (λ p. Told (first_found (by_frames p ∷ by_classes p ∷ by_import ∷ by_package p ∷ by_demand p ∷
      [])) w s t o) is_top h

  pub meant_in_frames : (t : List Ask) (x : Symbol) → Told (by_frames top) w s t (Some x)
      → Told (type_meant cx frames n) w s t (Some x)
  meant_in_frames t x h = whole t (Some x) (found_here w (by_frames top)
      (by_classes top ∷ by_import ∷ by_package top ∷ by_demand top ∷ []) s t x h)

  module _ (m : List Ask) (none : Told (by_frames top) w s m None) where
    past_frames : (t : List Ask) (o : Option Symbol)
        → Told (first_found (by_classes top ∷ by_import ∷ by_package top ∷ by_demand top ∷ [])) w m t o
        → Told (type_meant cx frames n) w s t o
    past_frames t o h = whole t o (found_past w (by_frames top)
        (by_classes top ∷ by_import ∷ by_package top ∷ by_demand top ∷ []) s m t o none h)

    pub meant_in_classes : (t : List Ask) (x : Symbol) → Told (by_classes top) w m t (Some x)
        → Told (type_meant cx frames n) w s t (Some x)
    meant_in_classes t x h = past_frames t (Some x)
        (found_here w (by_classes top) (by_import ∷ by_package top ∷ by_demand top ∷ []) m t x h)

    module _ (k : List Ask) (none' : Told (by_classes top) w m k None) where
      past_classes : (t : List Ask) (o : Option Symbol)
          → Told (first_found (by_import ∷ by_package top ∷ by_demand top ∷ [])) w k t o
          → Told (type_meant cx frames n) w s t o
      past_classes t o h = past_frames t o (found_past w (by_classes top)
          (by_import ∷ by_package top ∷ by_demand top ∷ []) m k t o none' h)

      imported : (o : Option Symbol) → o ≡ first_kind n cx.imports → Told by_import w k k o
      imported o e = subst (λ x. Told (done x) w k k o) e (told_done w k o)

      pub meant_imported : (x : Symbol) → Some x ≡ first_kind n cx.imports
          → Told (type_meant cx frames n) w s k (Some x)
      meant_imported x e = past_classes k (Some x) (found_here w by_import
          (by_package top ∷ by_demand top ∷ []) k k x (imported (Some x) e))

      module _ (not : None ≡ first_kind n cx.imports) where
        past_imports : (t : List Ask) (o : Option Symbol)
            → Told (first_found (by_package top ∷ by_demand top ∷ [])) w k t o → Told (type_meant cx frames n) w s t o
        past_imports t o h = past_classes t o (found_past w by_import (by_package top ∷ by_demand top ∷ []) k k t o
            (imported None not) h)

        pub meant_in_package : (t : List Ask) (x : Symbol) → Told (by_package top) w k t (Some x)
            → Told (type_meant cx frames n) w s t (Some x)
        meant_in_package t x h = past_imports t (Some x) (found_here w (by_package top) (by_demand top ∷ []) k t x h)

        pub meant_on_demand : (j t : List Ask) (o : Option Symbol) → Told (by_package top) w k j None
            → Told (by_demand top) w j t o → Told (type_meant cx frames n) w s t o
        meant_on_demand j t o none'' h = past_imports t o
            (found_past w (by_package top) (by_demand top ∷ []) k j t o none'' (found_last w (by_demand top) j t o h))
