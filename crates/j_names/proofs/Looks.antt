-- The look for the type of a qualified name.
use Rattle.std.proofs.Common.{◌≡◌, List, ℕ, [], ◌∷◌, Option, ap, subst, ◌∙◌}
use Rattle.dialogue.specs.Dialogue.{done}
use Rattle.dialogue.specs.Told.{Told, Heard}
use Rattle.dialogue.specs.ToldLaws.{told_ask, told_done}
use Rattle.jtypes.specs.World.{World}
use Rattle.jtypes.specs.declared.ask.Ask.{Ask}
use Rattle.jtypes.specs.declared.ask.Ask.TheVariants.{Class as AskClass}
use Rattle.jtypes.specs.declared.signatures.Header.{Header}
use Rattle.j_names.specs.Members.{type_at, counting_type}
use Rattle.jtypes.specs.declared.symbol.Symbol.{Symbol}

pub told_type : (top : Option (List ℕ)) (name : List ℕ) (w : World) (old new : List Ask) (h : Option Header)
    (r : Option Symbol) → Heard old (AskClass name ∷ []) new → h ≡ w (AskClass name) → r ≡ counting_type top name h
    → Told (type_at top name) w old new r
unfolding type_at
told_type top name w old new h r heard e is =
    told_ask (AskClass name) (λ header. done (counting_type top name header)) w old new new r heard
    (subst (λ x. Told (done x) w new new r) (is ∙ ap (counting_type top name) e) (told_done w new r))
