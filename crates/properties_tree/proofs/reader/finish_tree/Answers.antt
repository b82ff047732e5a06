use Rattle.std.proofs.Common.{◌∙◌}
use Rattle.properties_tree.proofs.Goes.{tree_is, is_tree}
use Rattle.properties_tree.proofs.reader.finish_tree.Goals as goal

pub made-requires : goal.made-requires
made-requires c =
    is_tree c.args.bytes.now c.args.leaves.items c.args.nodes.items c.args.from c.requires.read
    c.push.new.self.items c.push-2.new.self.items c.from_vec.result c.len-count.result
    c.in_ok-push.ensures.items c.in_ok-push-2.ensures.items (c.from_vec.ensures ∙ c.in_ok-parts.ensures) (c.len-count.ensures ∙ c.args.nodes.ok.0) c.requires.size

pub returns : goal.returns
returns c =
    c.made.ensures ∙ tree_is c.args.bytes.now c.args.leaves.items c.args.nodes.items c.args.from c.requires.read
    c.push.new.self.items c.push-2.new.self.items c.from_vec.result c.len-count.result
    c.in_ok-push.ensures.items c.in_ok-push-2.ensures.items (c.from_vec.ensures ∙ c.in_ok-parts.ensures) (c.len-count.ensures ∙ c.args.nodes.ok.0)
