-- What names give, by their number of parts.
use Rattle.std.proofs.Common.{◌≡◌, ◌∙◌, sym, List, [], ◌∷◌, ◌==◌, true, false, length, ne_eqb, arith}
use Rattle.std.proofs.lemmas.Bool.{false≢true}
use Rattle.dialogue.specs.Dialogue.{in_turn}
use Rattle.dialogue.specs.Told.{Told}
use Rattle.dialogue.specs.ToldLaws.{told_bind}
use Rattle.jtypes.specs.World.{World}
use Rattle.jtypes.specs.declared.ask.Ask.{Ask}
use Rattle.jtypes.specs.declared.symbol.Symbol.{Symbol}
use Rattle.j_names.specs.Names.{type_named, type_or_package}
use Rattle.j_names.specs.declared.context.Frame.{Frame}
use Rattle.j_names.specs.declared.context.UnitContext.{UnitContext}
use Rattle.declared_types.specs.declared.written.NamePart.{NamePart}
use Rattle.declared_types.specs.Resolving.{name_meant, part_behind}

module _ (w : World) (cx : UnitContext) (frames : List Frame) (part : NamePart) (old mid : List Ask) where
  pub lone_name : (parts : List NamePart) → (length parts == 0) ≡ true → (s : Symbol)
      → Told (type_named cx frames part.name) w old mid s → Told (name_meant cx frames part parts) w old mid s
  unfolding name_meant
  lone_name [] e s h = h
  lone_name (next ∷ parts) e s h =
      absurd (false≢true (sym (ne_eqb (length (next ∷ parts)) 0 (λ z. omega (arith, z))) ∙ e))

  pub longer_name : (parts : List NamePart) → (length parts == 0) ≡ false → (scope : Symbol)
      → Told (type_or_package cx frames part.name) w old mid scope → (new : List Ask) (s : Symbol)
      → Told (in_turn (part_behind cx) scope parts) w mid new s → Told (name_meant cx frames part parts) w old new s
  unfolding name_meant
  longer_name [] e scope h new s k = absurd (false≢true (sym e))
  longer_name (next ∷ parts) e scope h new s k =
      told_bind (type_or_package cx frames part.name) (λ t. in_turn (part_behind cx) t (next ∷ parts)) w old mid new
      scope s h k
