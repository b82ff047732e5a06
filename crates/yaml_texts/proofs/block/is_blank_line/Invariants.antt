use Rattle.std.proofs.Common.{◌≡◌, drop}
use Rattle.yaml_lex.specs.BlockScalars.{is_blank_line}
use Rattle.yaml_texts.proofs.block.is_blank_line.Given as goal

abbrev pub invariant-loop-b : goal.invariant-loop-b
invariant-loop-b l = is_blank_line (drop l.b-index l.text) ≡ is_blank_line l.text
