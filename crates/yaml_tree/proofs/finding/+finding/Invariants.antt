use Rattle.std.proofs.Common.{◌≡◌, ◌+◌, ◌*◌, ◌++◌, length, drop}
use Rattle.rw_base.specs.Arena.{AreBelow}
use Rattle.rw_base.specs.Laid.{kids_of, forest_of}
use Rattle.rw_grammar.specs.Results.{class_in}
use Rattle.yaml_tree.specs.Found.{at_inner, at_each, from_entries, found, key_text}
use Rattle.yaml_tree.proofs.finding.+finding.Given as goal

abbrev pub decreases-find_in_each : goal.decreases-find_in_each
decreases-find_in_each l = 4 * l.n.0 + 1

abbrev pub decreases-find_in_part : goal.decreases-find_in_part
decreases-find_in_part l = 4 * l.m.0 + 4

abbrev pub decreases-find_from : goal.decreases-find_from
decreases-find_from l = 4 * l.n.0 + 3

abbrev pub decreases-find_from_node : goal.decreases-find_from_node
decreases-find_from_node l = 4 * l.n.0 + 2

abbrev pub decreases-find_in_entries : goal.decreases-find_in_entries
decreases-find_in_entries l = 4 * l.n.0 + 1

abbrev pub decreases-find_from_entry : goal.decreases-find_from_entry
decreases-find_from_entry l = 4 * l.m.0 + 4

abbrev pub invariant-find_in_each-loop-part : goal.invariant-find_in_each-loop-part
invariant-find_in_each-loop-part l =
    let t = l.tree in
    let f = found (class_in t.leaves) (key_text l.bytes t.leaves) l.steps in
    record {
      same : l.out.items ++ at_each (at_inner f) (forest_of t.nodes (drop l.part-index l.parts))
          ≡ l.fn.out.items ++ at_each (at_inner f) (kids_of t.nodes l.n.0);
      below : AreBelow (length t.leaves) l.n.0 (drop l.part-index l.parts);
    }

abbrev pub invariant-find_in_entries-loop-part : goal.invariant-find_in_entries-loop-part
invariant-find_in_entries-loop-part l =
    let t = l.tree in
    let class = class_in t.leaves in
    let text = key_text l.bytes t.leaves in
    let f = found class text l.steps in
    record {
      same : l.out.items
          ++ from_entries class text l.step l.steps f l.in_mapping (forest_of t.nodes (drop l.part-index l.parts))
          ≡ l.fn.out.items ++ from_entries class text l.step l.steps f l.in_mapping (kids_of t.nodes l.n.0);
      below : AreBelow (length t.leaves) l.n.0 (drop l.part-index l.parts);
    }
