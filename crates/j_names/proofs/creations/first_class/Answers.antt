use Rattle.std.proofs.Common.{◌≡◌, ◌∙◌, sym, ap, subst, Some, None}
use Rattle.std.specs.Option.{option_copied}
use Rattle.dialogue.specs.Dialogue.{done}
use Rattle.dialogue.specs.Told.{Told}
use Rattle.dialogue.specs.ToldLaws.{told_done, told_value}
use Rattle.jtypes.specs.World.{first}
use Rattle.j_names.specs.Calls.{where_asked, where_class}
use Rattle.j_names.proofs.Asked.{class_asked, first_is}
use Rattle.j_names.proofs.creations.first_class.Goals as goal

pub returns-in_default : goal.returns-in_default
returns-in_default g c =
    let w = g.C.Classes.world c.args.c.now in
    let there : None ≡ first c.args.supertypes.now =
    sym (ap option_copied c.in_default.is) ∙ c.first.ensures.value ∙ first_is c.args.supertypes.now in
    subst (λ o. Told (where_asked o) w c.args.asks.now c.args.asks.now None) there (told_done w c.args.asks.now None)

pub returns : goal.returns
returns g c =
    let w = g.C.Classes.world c.args.c.now in
    let name = c.in-Some.name.now in
    let there : Some name ≡ first c.args.supertypes.now =
    sym (ap option_copied c.in-Some.is) ∙ c.first.ensures.value ∙ first_is c.args.supertypes.now in
    let header = option_copied c.in_ok-header.header in
    subst (λ o. Told (where_asked o) w c.args.asks.now c.ask_class.new.asks c.in_ok-class.class) there
    (class_asked w c.args.asks.now c.ask_class.new.asks c.ask_class.new.asks c.in_ok-class.class name
    (λ h. done (where_class name h)) header c.in_ok-header.ensures.asks c.in_ok-header.ensures.value
    (told_value w c.ask_class.new.asks c.in_ok-class.class (where_class name header) c.in_ok-class.ensures))
