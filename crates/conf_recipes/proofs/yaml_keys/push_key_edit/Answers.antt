use Rattle.conf_recipes.proofs.YamlKeys.{one_entry}
use Rattle.conf_recipes.proofs.yaml_keys.push_key_edit.Goals as goal

pub returns-in_ok-push-in-Some : goal.returns-in_ok-push-in-Some
returns-in_ok-push-in-Some c =
    one_entry c.args.bytes.now c.args.tree.now c.args.plain.now c.args.new.now c.in-Some.entry _
    c.in-Some.ensures.entry c.args.edits.now.items c.push.new.self.items c.in_ok-key_edit-in-Some.field-0
    c.in_ok-push-in-Some.ensures.items c.in_ok-key_edit-in-Some.ensures
