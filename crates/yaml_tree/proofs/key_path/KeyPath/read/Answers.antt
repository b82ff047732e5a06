use Rattle.std.proofs.Common.{List, sym, subst}
use Rattle.yaml_tree.specs.declared.key_path.PathStep.{PathStep}
use Rattle.yaml_tree.specs.KeyPaths.{AreNames}
use Rattle.yaml_tree.specs.PathReading.{start_size, GoesOn}
use Rattle.yaml_tree.proofs.PathSteps.{start_read}
use Rattle.yaml_tree.proofs.key_path.KeyPath.read.Goals as goal

pub loop-steps-init : goal.loop-steps-init
loop-steps-init c =
    subst (λ n. GoesOn AreNames c.args.text.now c.new-steps.result.items n) (sym c.start_size-at.ensures)
    (subst (λ (xs : List PathStep). GoesOn AreNames c.args.text.now xs (start_size c.args.text.now)) (sym
    c.new-steps.ensures.items)
    (start_read c.args.text.now))

pub returns-in-None-clause-path : goal.returns-in-None-clause-path
returns-in-None-clause-path c = rw c.in-None.is at c.in_ok-read_behind.ensures.end
