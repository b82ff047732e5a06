use Rattle.std.proofs.Common.{◌≡◌, ◌+◌, ◌≤◌, drop}
use Rattle.yaml_lex.specs.Contexts.{past}
use Rattle.yaml_lex.proofs.context.past.Given as goal

abbrev pub invariant-loop-b : goal.invariant-loop-b
invariant-loop-b l = record {
  next : past l.here (drop l.b-index l.text) ≡ past l.fn.context l.text;
  column : l.here.column ≤ l.fn.context.column + l.b-index;
  depth : l.here.depth ≡ l.fn.context.depth;
}
