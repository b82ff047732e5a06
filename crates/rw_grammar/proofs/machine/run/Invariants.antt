use Rattle.std.proofs.Common.{◌<◌, length}
use Rattle.rw_grammar.specs.Parts.{rule_of}
use Rattle.rw_grammar.specs.Cells.{shape_at, rules_at}
use Rattle.rw_grammar.specs.Machine.{Standing}
use Rattle.rw_grammar.specs.Results.{class_in, all_of}
use Rattle.rw_grammar.proofs.machine.run.Given as goal

abbrev pub invariant-loop : goal.invariant-loop
invariant-loop l =
    let cells = l.fn.known.cells.now in
    let roots = l.fn.known.roots.now in
    record {
      inside : l.current < length cells;
      stands : Standing (rule_of (rules_at cells roots)) (class_in l.leaves) l.fn.start (length roots) (length cells) (shape_at cells) (all_of l.leaves) l.leaf (shape_at cells l.current) l.tasks.items l.parts.items l.nodes;
    }
