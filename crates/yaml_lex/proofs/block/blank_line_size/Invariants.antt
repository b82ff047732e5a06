use Rattle.std.proofs.Common.{◌≡◌, ℕ, ◌<◌, drop, get_or, true}
use Rattle.yaml_lex.specs.Characters.{is_blank}
use Rattle.yaml_lex.specs.BlockScalars.{is_blank_line}
use Rattle.yaml_lex.proofs.block.blank_line_size.Given as goal

abbrev pub invariant-loop-at : goal.invariant-loop-at
invariant-loop-at l = record {
  same : is_blank_line (drop l.at l.text) ≡ is_blank_line l.text;
  blank : (k : ℕ) → k < l.at → is_blank (get_or l.text k 0) ≡ true;
}
