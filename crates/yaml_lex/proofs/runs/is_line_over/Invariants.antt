use Rattle.std.proofs.Common.{◌≡◌, drop}
use Rattle.yaml_lex.specs.Characters.{is_line_over}
use Rattle.yaml_lex.proofs.runs.is_line_over.Given as goal

abbrev pub invariant-loop-b : goal.invariant-loop-b
invariant-loop-b l = is_line_over (drop l.b-index l.text) ≡ is_line_over l.text
