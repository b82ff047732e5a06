use Rattle.std.proofs.Common.{◌≡◌, ◌-◌, ◌++◌, false, length, drop}
use Rattle.yaml_lex.specs.Characters.{begins}
use Rattle.yaml_lex.specs.Scalars.{in_line}
use Rattle.yaml_texts.specs.Texts.{further_lines, contents_of}
use Rattle.yaml_texts.proofs.block.push_contents.Given as goal

abbrev pub invariant-loop-at : goal.invariant-loop-at
invariant-loop-at l = record {
  ends : begins in_line (drop l.at l.text) ≡ false;
  same : l.out.items ++ contents_of l.lost (further_lines (drop l.at l.text)) ≡ l.fn.out.items ++ contents_of l.lost (further_lines l.text);
}

abbrev pub decreases-loop-at : goal.decreases-loop-at
decreases-loop-at l = length l.text - l.at
