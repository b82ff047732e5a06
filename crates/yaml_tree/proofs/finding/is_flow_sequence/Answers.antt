use Rattle.yaml_lex.specs.declared.class.TheConstants.{BRACKET_OPEN}
use Rattle.std.proofs.Common.{sym, ap, ◌∙◌}
use Rattle.rw_base.specs.declared.tree.Leaf.{Leaf}
use Rattle.rw_base.specs.Arena.{kind_of}
use Rattle.rw_base.specs.Laid.{kids_of}
use Rattle.rw_grammar.specs.Results.{class_in}
use Rattle.yaml_tree.proofs.EntrySteps.{flow_none, flow_some}
use Rattle.yaml_tree.proofs.finding.is_flow_sequence.Goals as goal

pub returns-in-None : goal.returns-in-None
returns-in-None c =
    let rows = c.args.tree.now.nodes in
    flow_none (class_in c.args.tree.now.leaves) BRACKET_OPEN (kind_of rows c.args.n.0) (kids_of rows c.args.n.0)
    c.in-None.ensures.leaf

pub returns-in-Some : goal.returns-in-Some
returns-in-Some c =
    let rows = c.args.tree.now.nodes in
    flow_some (class_in c.args.tree.now.leaves) BRACKET_OPEN (kind_of rows c.args.n.0) (kids_of rows c.args.n.0)
    c.in-Some.i
    c.leaf.result.class (sym c.kind.ensures ∙ c.if-kind-ne-FLOW.false) c.in-Some.ensures.leaf
    (ap (λ (l : Leaf). l.class) c.leaf.ensures.leaf)
