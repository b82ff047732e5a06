use Rattle.std.proofs.Common.{◌≡◌, List, ◌∙◌, ap, subst}
use Rattle.std.specs.Prelude.{Ok, Err}
use Rattle.rw_grammar.specs.declared.cells.Cell.{Cell}
use Rattle.rw_grammar.specs.Parts.{Parts}
use Rattle.rw_grammar.specs.Cells.{rules_at}
use Rattle.rw_grammar.specs.Results.{AreRowsOf, Stops}
use Rattle.rw_grammar.proofs.MadeTrees.{made_is, made_tree}
use Rattle.rw_grammar.proofs.greedy.derive_nodes.Goals as goal

pub returns-in-Err-Stop-clause-stop : goal.returns-in-Err-Stop-clause-stop
returns-in-Err-Stop-clause-stop c leaf h =
    let a = c.as_slice.result.now in
    let b = c.as_slice-2.result.now in
    let e : rules_at a b ≡ c.args.table.now = ap (λ (cs : List Cell). rules_at cs b) c.as_slice.ensures.value ∙ (ap (rules_at c.table.inside.cells.items) c.as_slice-2.ensures.value ∙ c.table.view_is) in
    let stops = c.in-Err-Stop.ensures.stop c.in-Err-Stop.leaf (ap Err c.in-Err-Stop.field-0-is) in
    subst (Stops c.args.table.now c.args.start c.args.leaves.now) (cc)
    (subst (λ (rules : List Parts). Stops rules c.args.start c.args.leaves.now c.in-Err-Stop.leaf) e stops)

pub returns-in-None-clause-derived : goal.returns-in-None-clause-derived
returns-in-None-clause-derived c =
    let a = c.as_slice.result.now in
    let b = c.as_slice-2.result.now in
    let e : rules_at a b ≡ c.args.table.now = ap (λ (cs : List Cell). rules_at cs b) c.as_slice.ensures.value ∙ (ap (rules_at c.table.inside.cells.items) c.as_slice-2.ensures.value ∙ c.table.view_is) in
    let r : AreRowsOf c.args.table.now c.args.start c.args.leaves.now c.in-Ok.nodes =
    subst (λ (rules : List Parts). AreRowsOf rules c.args.start c.args.leaves.now c.in-Ok.nodes) e c.in-Ok.ensures.rows in
    record {
      kind = r.kind;
      kids = r.kids;
      derived = r.derived;
      is = made_is c.args.table.now c.args.start c.args.leaves.now c.in-Ok.nodes r;
      flat = c.in_ok-leaf.ensures.none (ap Ok c.in-None.is) r.kind r.kids r.are;
    }

pub returns-in-None-clause-tree : goal.returns-in-None-clause-tree
returns-in-None-clause-tree c =
    let a = c.as_slice.result.now in
    let b = c.as_slice-2.result.now in
    let e : rules_at a b ≡ c.args.table.now = ap (λ (cs : List Cell). rules_at cs b) c.as_slice.ensures.value ∙ (ap (rules_at c.table.inside.cells.items) c.as_slice-2.ensures.value ∙ c.table.view_is) in
    let r : AreRowsOf c.args.table.now c.args.start c.args.leaves.now c.in-Ok.nodes =
    subst (λ (rules : List Parts). AreRowsOf rules c.args.start c.args.leaves.now c.in-Ok.nodes) e c.in-Ok.ensures.rows in
    made_tree c.args.table.now c.args.start c.args.leaves.now c.in-Ok.nodes r c.in_ok-leaf.ensures.few c.requires.leaves
