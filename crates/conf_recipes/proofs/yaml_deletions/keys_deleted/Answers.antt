use Rattle.conf_recipes.proofs.YamlDeleted.{found_marked}
use Rattle.conf_recipes.proofs.yaml_deletions.keys_deleted.Goals as goal

pub marks-requires : goal.marks-requires
marks-requires c =
    found_marked c.args.tree.now c.node_count.ensures.tree c.args.bytes.now c.args.options.now.key_path
    c.in_ok-found.found.items c.deref.result.now c.node_count.result c.in_ok-found.ensures.entries
    c.deref.ensures.value c.node_count.ensures.count
