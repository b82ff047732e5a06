-- The types of members, by what is written.
use Rattle.std.proofs.Common.{◌≡◌, refl, ℕ, List}
use Rattle.dialogue.specs.Dialogue.{done}
use Rattle.dialogue.specs.Told.{Told}
use Rattle.dialogue.specs.ToldLaws.{told_bind, told_map}
use Rattle.jtypes.specs.World.{World, Rule}
use Rattle.jtypes.specs.declared.ask.Ask.{Ask}
use Rattle.jtypes.specs.declared.symbol.Symbol.{Symbol}
use Rattle.jtypes.specs.declared.types.JType.{JType}
use Rattle.declared_types.specs.declared.body.Scope.{Scope}
use Rattle.declared_types.specs.declared.written.Base.{Base}
use Rattle.declared_types.specs.declared.written.Base.TheVariants.{Prim, Named, Itself, Void}
use Rattle.declared_types.specs.declared.written.NamePart.{NamePart}
use Rattle.declared_types.specs.Resolving.{name_meant}
use Rattle.declared_types.specs.Signatures.{plain_type, type_by_base}

module _ (owner : List ℕ) (own : Scope) (dims : ℕ) (base : Base) where
  module _ (w : World) (part : NamePart) (parts : List NamePart) (is : base ≡ Named part parts) (old mid : List Ask)
      (s : Symbol) (h : Told (name_meant own.cx own.frames part parts) w old mid s) where
    pub by_name : (by_meaning : Symbol → Rule JType) (new : List Ask) (t : JType) → Told (by_meaning s) w mid new t
        → Told (type_by_base owner own by_meaning dims base) w old new t
    by_name by_meaning new t k =
        rw is (told_bind (name_meant own.cx own.frames part parts) by_meaning w old mid new s t h k)

    pub plain_by_name : Told (type_by_base owner own (λ m. done (plain_type dims m)) dims base) w old mid
        (plain_type dims s)
    plain_by_name = rw is (told_map (name_meant own.cx own.frames part parts) (plain_type dims) w old mid s h)

  -- what isn't a name asks for no meaning
  pub without_name : ((part : NamePart) (parts : List NamePart) → base ≡ Named part parts → ⊥)
      → (f g : Symbol → Rule JType) → type_by_base owner own f dims base ≡ type_by_base owner own g dims base
  without_name = unnamed base
    where
      unnamed : (b : Base) → ((part : NamePart) (parts : List NamePart) → b ≡ Named part parts → ⊥)
          → (f g : Symbol → Rule JType) → type_by_base owner own f dims b ≡ type_by_base owner own g dims b
      unnamed (Prim p) h f g = refl
      unnamed (Named part parts) h f g = absurd (h part parts refl)
      unnamed Itself h f g = refl
      unnamed Void h f g = refl
