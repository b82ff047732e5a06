use Rattle.std.proofs.Common.{arith}
use Rattle.conf_recipes.specs.YamlDeletions.{deletions, is_marked_in}
use Rattle.conf_recipes.proofs.YamlDeletions.{nodes_more}
use Rattle.conf_recipes.proofs.yaml_deletions.deletions.Goals as goal

pub loop-n-preserved : goal.loop-n-preserved
loop-n-preserved c =
    let gone = is_marked_in c.args.gone.now in
    nodes_more c.args.tree.now c.args.bytes.now gone c.loop-n.n c.loop-n.edits.items
    (deletions c.args.tree.now c.args.bytes.now gone) c.push_node_edit.new.edits.items
    (omega (arith, c.node_count-n-end.ensures.count)) c.in_ok-push_node_edit.ensures c.loop-n.invariant
