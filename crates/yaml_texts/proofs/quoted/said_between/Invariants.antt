use Rattle.std.proofs.Common.{◌-◌, length}
use Rattle.yaml_texts.proofs.Said.{IsSoFar}
use Rattle.yaml_texts.proofs.quoted.said_between.Given as goal

abbrev pub invariant-loop-at : goal.invariant-loop-at
invariant-loop-at l = IsSoFar l.quote l.text l.out.items l.at

abbrev pub decreases-loop-at : goal.decreases-loop-at
decreases-loop-at l = length l.text - l.at
