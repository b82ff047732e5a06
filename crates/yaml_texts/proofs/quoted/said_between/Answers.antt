use Rattle.std.proofs.Common.{refl}
use Rattle.std.proofs.lemmas.List.{take_rest}
use Rattle.yaml_texts.proofs.Said.{further, stops, whole}
use Rattle.yaml_texts.proofs.quoted.said_between.Goals as goal

pub returns-in-None : goal.returns-in-None
returns-in-None c =
    stops c.args.quote c.args.text.now _ c.loop-at.out.items c.loop-at.at c.loop-at-test.true (take_rest c.args.text.now c.loop-at.at) c.in-None.ensures.said c.loop-at.invariant

pub loop-at-preserved : goal.loop-at-preserved
loop-at-preserved c =
    further c.args.quote c.args.text.now _ c.loop-at.out.items c.push_said.new.out.items _ c.loop-at.at c.in-Some.more _ c.loop-at-test.true (take_rest c.args.text.now c.loop-at.at)
    c.in-Some.ensures.said c.in_ok-push_said-in-Some.ensures refl c.loop-at.invariant

pub returns : goal.returns
returns c = whole c.args.quote c.args.text.now c.loop-at.out.items c.loop-at.at c.loop-at-test.false c.loop-at.invariant
