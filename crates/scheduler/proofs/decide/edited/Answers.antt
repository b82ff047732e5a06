use Rattle.std.proofs.Common.{◌∙◌}
use Rattle.scheduler.proofs.Decided.{edited_by, java_tree, yaml_tree, properties_tree}
use Rattle.scheduler.proofs.decide.edited.Goals as goal

pub returns-in_ok-text-in-Java : goal.returns-in_ok-text-in-Java
returns-in_ok-text-in-Java c =
    edited_by c.args.file.now c.in-Java.tree c.in-Some.bytes c.as_slice-bytes.result.now c.args.edits.now
    c.in_ok-text-in-Java.text.items (java_tree c.args.file.now c.in-Java.tree c.in-Java.is) c.in-Some.is
    (c.as_slice-bytes.ensures ∙ c.get.ensures) c.in_ok-text-in-Java.ensures

pub returns-in_ok-text-in-Yaml : goal.returns-in_ok-text-in-Yaml
returns-in_ok-text-in-Yaml c =
    edited_by c.args.file.now c.in-Yaml.tree c.in-Some.bytes c.as_slice-bytes.result.now c.args.edits.now
    c.in_ok-text-in-Yaml.text.items (yaml_tree c.args.file.now c.in-Yaml.tree c.in-Yaml.is) c.in-Some.is
    (c.as_slice-bytes.ensures ∙ c.get.ensures) c.in_ok-text-in-Yaml.ensures

pub returns-in_ok-text-in-Properties : goal.returns-in_ok-text-in-Properties
returns-in_ok-text-in-Properties c =
    edited_by c.args.file.now c.in_ok-tree-in-Properties.tree c.in-Some.bytes c.as_slice-bytes.result.now c.args.edits.now
    c.in_ok-text-in-Properties.text.items
    (properties_tree c.args.file.now c.in_ok-tree-in-Properties.tree c.in-Properties.tree c.in-Properties.is c.in_ok-tree-in-Properties.ensures)
    c.in-Some.is (c.as_slice-bytes.ensures ∙ c.get.ensures) c.in_ok-text-in-Properties.ensures
