use Rattle.std.proofs.Common.{subst}
use Rattle.dialogue.specs.Told.{Told}
use Rattle.dialogue.specs.ToldLaws.{told_ask}
use Rattle.jtypes.specs.declared.ask.Ask.TheVariants.{Class as AskClass}
use Rattle.declared_names.specs.Cases.{constant_of}
use Rattle.declared_names.proofs.cases.label_meant.Goals as goal

pub returns : goal.returns
returns g c =
    let w = g.C.Classes.world c.args.c.now in
    let owner = c.in-Class.owner in
    let mid = c.ask_class.new.asks in
    let new = c.constant_of.new.asks in
    let constant = c.in_ok-constant.constant in
    rw c.in-Class.is
    (told_ask (AskClass owner) (constant_of owner c.args.name.now) w c.args.asks.now mid new constant
    c.in_ok-header.ensures.asks
    (subst (λ h. Told (constant_of owner c.args.name.now h) w mid new constant) c.in_ok-header.ensures.value
    c.in_ok-constant.ensures))
