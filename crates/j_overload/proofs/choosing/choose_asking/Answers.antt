use Rattle.dialogue.specs.Dialogue.{done}
use Rattle.dialogue.specs.ToldLaws.{told_done}
use Rattle.j_overload.specs.Rules.{choice_of, choice_in}
use Rattle.j_overload.specs.declared.choice.Choice.TheVariants.{None as NoMethod}
use Rattle.j_overload.specs.declared.phase.Phase.TheVariants.{Strict, Loose, Variable}
use Rattle.j_overload.proofs.Deciding.{told_chosen, told_passed}
use Rattle.j_overload.proofs.choosing.choose_asking.Goals as goal

pub returns-in-Some : goal.returns-in-Some
unfolding choice_of
returns-in-Some g c = told_chosen (choice_in Strict c.args.args.now c.args.candidates.now) _ _ c.args.asks.now c.choice_in.new.asks _ c.in-Some.choice c.in_ok-choice.ensures c.in-Some.is

pub returns-in-Some-2 : goal.returns-in-Some-2
unfolding choice_of
returns-in-Some-2 g c =
    let w = g.C.Classes.world c.args.c.now in
    told_passed (choice_in Strict c.args.args.now c.args.candidates.now) _ w c.args.asks.now c.choice_in.new.asks c.choice_in-2.new.asks _ c.in-Some-2.choice c.in_ok-choice.ensures c.in_default.is
    (told_chosen (choice_in Loose c.args.args.now c.args.candidates.now) _ w c.choice_in.new.asks c.choice_in-2.new.asks _ c.in-Some-2.choice c.in_ok-choice-2.ensures c.in-Some-2.is)

pub returns-in-Some-3 : goal.returns-in-Some-3
unfolding choice_of
returns-in-Some-3 g c =
    let w = g.C.Classes.world c.args.c.now in
    told_passed (choice_in Strict c.args.args.now c.args.candidates.now) _ w c.args.asks.now c.choice_in.new.asks c.choice_in-3.new.asks _ c.in-Some-3.choice c.in_ok-choice.ensures c.in_default.is
    (told_passed (choice_in Loose c.args.args.now c.args.candidates.now) _ w c.choice_in.new.asks c.choice_in-2.new.asks c.choice_in-3.new.asks _ c.in-Some-3.choice c.in_ok-choice-2.ensures c.in_default-2.is
    (told_chosen (choice_in Variable c.args.args.now c.args.candidates.now) _ w c.choice_in-2.new.asks c.choice_in-3.new.asks _ c.in-Some-3.choice c.in_ok-choice-3.ensures c.in-Some-3.is))

pub returns : goal.returns
unfolding choice_of
returns g c =
    let w = g.C.Classes.world c.args.c.now in
    told_passed (choice_in Strict c.args.args.now c.args.candidates.now) _ w c.args.asks.now c.choice_in.new.asks c.choice_in-3.new.asks _ NoMethod c.in_ok-choice.ensures c.in_default.is
    (told_passed (choice_in Loose c.args.args.now c.args.candidates.now) _ w c.choice_in.new.asks c.choice_in-2.new.asks c.choice_in-3.new.asks _ NoMethod c.in_ok-choice-2.ensures c.in_default-2.is
    (told_passed (choice_in Variable c.args.args.now c.args.candidates.now) (done NoMethod) w c.choice_in-2.new.asks c.choice_in-3.new.asks c.choice_in-3.new.asks _ NoMethod c.in_ok-choice-3.ensures c.in_default-3.is
    (told_done w c.choice_in-3.new.asks NoMethod)))
