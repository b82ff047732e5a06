-- What a simple name means as a variable, by the first of its three rules that finds something.
use Rattle.std.proofs.Common.{◌≡◌, subst, ℕ, List, [], ◌∷◌, Option, None, Some, map}
use Rattle.dialogue.specs.Dialogue.{first_found}
use Rattle.dialogue.specs.Told.{Told}
use Rattle.jtypes.specs.World.{World, Rule}
use Rattle.jtypes.specs.declared.ask.Ask.{Ask}
use Rattle.jtypes.specs.declared.symbol.Symbol.{Symbol}
use Rattle.j_names.specs.Members.{field_of}
use Rattle.j_names.specs.Names.{outward, top_around, variable_in_frame, static_owners, variable_meant}
use Rattle.j_names.specs.declared.context.UnitContext.{UnitContext}
use Rattle.j_names.specs.declared.context.Frame.{Frame}
use Rattle.j_names.proofs.Found.{first_of_three, second_of_three, third_of_three}

module _ (w : World) (cx : UnitContext) (frames : List Frame) (n : List ℕ) (top : Option (List ℕ))
    (is_top : top ≡ top_around cx) (s : List Ask) where
  abbrev pub by_frames : Option (List ℕ) → Rule (Option Symbol)
  by_frames p = first_found (map (variable_in_frame p n) (outward frames))

  abbrev pub by_classes : Option (List ℕ) → Rule (Option Symbol)
  by_classes p = first_found (map (λ e. field_of p n e.name) (outward cx.enclosing))

  abbrev pub by_owners : Option (List ℕ) → Rule (Option Symbol)
  by_owners p = first_found (map (field_of p n) (static_owners cx.imports n))

  whole : (t : List Ask) (o : Option Symbol)
      → Told (first_found (by_frames top ∷ by_classes top ∷ by_owners top ∷ [])) w s t o
      → Told (variable_meant cx frames n) w s t o
  unfolding variable_meant
  whole t o h =
      subst (λ p. Told (first_found (by_frames p ∷ by_classes p ∷ by_owners p ∷ [])) w s t o) is_top h

  pub in_frames : (t : List Ask) (x : Symbol) → Told (by_frames top) w s t (Some x)
      → Told (variable_meant cx frames n) w s t (Some x)
  in_frames t x h = whole t (Some x) (first_of_three w (by_frames top) (by_classes top) (by_owners top) s t t x h)

  module _ (k : List Ask) (none : Told (by_frames top) w s k None) where
    pub in_classes : (t : List Ask) (x : Symbol) → Told (by_classes top) w k t (Some x)
        → Told (variable_meant cx frames n) w s t (Some x)
    in_classes t x h =
        whole t (Some x) (second_of_three w (by_frames top) (by_classes top) (by_owners top) s k t x none h)

    pub in_owners : (m t : List Ask) (o : Option Symbol) → Told (by_classes top) w k m None
        → Told (by_owners top) w m t o → Told (variable_meant cx frames n) w s t o
    in_owners m t o h g =
        whole t o (third_of_three w (by_frames top) (by_classes top) (by_owners top) s k m t o none h g)
