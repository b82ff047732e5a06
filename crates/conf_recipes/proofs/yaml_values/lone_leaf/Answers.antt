use Rattle.std.proofs.Common.{◌∙◌, ap}
use Rattle.rw_base.specs.declared.tree.Leaf.{Leaf}
use Rattle.rw_base.specs.Laid.{kids_of}
use Rattle.rw_grammar.specs.Results.{class_in}
use Rattle.conf_recipes.specs.YamlLeaves.{is_scalar}
use Rattle.conf_recipes.proofs.YamlValues.{lone_yes, lone_no}
use Rattle.conf_recipes.proofs.yaml_values.lone_leaf.Goals as goal

pub returns-then-is_scalar : goal.returns-then-is_scalar
returns-then-is_scalar c =
    let t = c.args.tree.now in
    lone_yes (class_in t.leaves) t.nodes (kids_of t.nodes c.args.m.0) c.parts-parts.result.now _ c.in-Leaf.i
    c.is_scalar.result c.parts-parts.ensures.kids c.if-parts-ne1.false c.in-Leaf.is
    (c.is_scalar.ensures ∙ ap (λ (l : Leaf). is_scalar l.class) c.leaf.ensures.leaf) c.if-is_scalar.true

pub returns-else-is_scalar : goal.returns-else-is_scalar
returns-else-is_scalar c =
    let t = c.args.tree.now in
    lone_no (class_in t.leaves) t.nodes (kids_of t.nodes c.args.m.0) c.parts-parts.result.now _ c.in-Leaf.i
    c.is_scalar.result c.parts-parts.ensures.kids c.if-parts-ne1.false c.in-Leaf.is
    (c.is_scalar.ensures ∙ ap (λ (l : Leaf). is_scalar l.class) c.leaf.ensures.leaf) c.if-is_scalar.false
