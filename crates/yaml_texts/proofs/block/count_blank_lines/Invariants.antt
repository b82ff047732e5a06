use Rattle.std.proofs.Common.{◌≡◌, ◌+◌, ◌-◌, ◌≤◌, false, length, drop}
use Rattle.yaml_lex.specs.Characters.{begins}
use Rattle.yaml_lex.specs.Scalars.{in_line}
use Rattle.yaml_texts.specs.Texts.{further_lines, blank_lines}
use Rattle.yaml_texts.proofs.block.count_blank_lines.Given as goal

abbrev pub invariant-loop-at : goal.invariant-loop-at
invariant-loop-at l = record {
  ends : begins in_line (drop l.at l.text) ≡ false;
  few : l.count ≤ l.at;
  inside : l.at ≤ length l.text;
  same : l.count + blank_lines (further_lines (drop l.at l.text)) ≡ blank_lines (further_lines l.text);
}

abbrev pub decreases-loop-at : goal.decreases-loop-at
decreases-loop-at l = length l.text - l.at
