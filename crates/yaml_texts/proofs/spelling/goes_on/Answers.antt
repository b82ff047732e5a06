use Rattle.std.proofs.Common.{sym, ◌∙◌, arith}
use Rattle.std.proofs.lemmas.List.{take_rest}
use Rattle.yaml_texts.proofs.Written.{goes_step}
use Rattle.yaml_texts.proofs.spelling.goes_on.Goals as goal

pub loop-at-preserved : goal.loop-at-preserved
loop-at-preserved c =
    sym (goes_step c.args.flow c.args.text.now _ c.loop-at.at (omega arith) (take_rest c.args.text.now c.loop-at.at) (sym c.ends_plain.ensures ∙ c.if-ends_plain.false)) ∙ c.loop-at.invariant
