use Rattle.std.proofs.Common.{◌≡◌, ◌++◌, ◌-◌, ◌≤◌, drop, length}
use Rattle.properties_tree.specs.Spelling.{spelled_value, spelled_spaces}
use Rattle.properties_tree.proofs.spelling.spell_value.Given as goal

abbrev pub invariant-loop-spaces : goal.invariant-loop-spaces
invariant-loop-spaces l = record {
  value : spelled_value l.text ≡ l.out.items ++ spelled_spaces (drop l.spaces l.text);
  inside : l.spaces ≤ length l.text;
}

abbrev pub decreases-loop-spaces : goal.decreases-loop-spaces
decreases-loop-spaces l = length l.text - l.spaces
