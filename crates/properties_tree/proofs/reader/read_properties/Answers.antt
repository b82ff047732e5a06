use Rattle.properties_tree.proofs.Goes.{none_read}
use Rattle.properties_tree.proofs.reader.read_properties.Goals as goal

pub loop-at-init : goal.loop-at-init
loop-at-init c = none_read c.args.bytes.now _ _ c.in_ok-leaves.ensures.items c.in_ok-nodes.ensures.items
