use Rattle.std.proofs.Common.{◌≡◌, ℕ, ◌-◌, List, refl, sym, ◌∙◌, ap, subst}
use Rattle.std.specs.Prelude.{Err}
use Rattle.rw_base.specs.declared.tree.Leaf.{Leaf}
use Rattle.rw_base.specs.declared.place.ReadFault.TheVariants as read
use Rattle.rw_base.specs.Arena.{Arena}
use Rattle.rw_grammar.specs.Results.{Stops, IsDerived, IsTooDeep, tree_of}
use Rattle.rw_grammar.specs.Reading.{ends-at-bad, is-tree}
use Rattle.rw_grammar.specs.Refusals.{read_fault}
use Rattle.rw_grammar.proofs.Outcomes.{faulted}
use Rattle.rw_grammar.proofs.reading.read_by.Goals as goal

pub returns-in-None-clause-tree : goal.returns-in-None-clause-tree
returns-in-None-clause-tree c =
    let rules = c.args.table.now in
    let start = c.args.start in
    let leaves = c.args.cut.leaves.items in
    let nodes = c.in-Ok.nodes in
    let d : IsDerived rules start leaves (tree_of leaves nodes) =
    subst (λ (ls : List Leaf). IsDerived rules start ls (tree_of ls nodes)) c.as_slice.ensures.value c.in-Ok.ensures.derived in
    let made : ℕ → Arena = λ n. record { leaves = leaves; nodes = nodes; root = n - 1 } in
    let same : c.of_nodes.result ≡ tree_of leaves nodes = c.of_nodes.ensures ∙ ap made c.len.ensures in
    is-tree c.of_nodes.result c.in-None.is (subst (IsDerived rules start leaves) (sym same) d) refl

pub returns-in-Some-clause-refused : goal.returns-in-Some-clause-refused
returns-in-Some-clause-refused c r e =
    let rules = c.args.table.now in
    let start = c.args.start in
    let leaves = c.args.cut.leaves.items in
    let d : IsDerived rules start leaves (tree_of leaves c.in-Ok.nodes) =
    subst (λ (ls : List Leaf). IsDerived rules start ls (tree_of ls c.in-Ok.nodes)) c.as_slice.ensures.value c.in-Ok.ensures.derived in
    let same : r ≡ c.refused_at.result = cc in
    ends-at-bad c.in-Some.bad c.in-Some.is (d.kind, d.kids, d.derived) (ap Err (same ∙ c.refused_at.ensures))

pub returns-in-Err-clause-refused : goal.returns-in-Err-clause-refused
returns-in-Err-clause-refused c r e =
    let rules = c.args.table.now in
    let start = c.args.start in
    let bytes = c.args.bytes.now in
    let fault = c.in-Err.fault in
    let bad = c.args.cut.bad in
    let given : read.Refused r ≡ c.read_fault.result = cc in
    faulted rules start bytes c.args.cut.leaves.items bad fault r
    (λ i is. subst (λ (ls : List Leaf). Stops rules start ls i) c.as_slice.ensures.value (c.in-Err.ensures.stop i (ap Err is)))
    (λ i is. subst (λ (ls : List Leaf). IsTooDeep rules start ls i) c.as_slice.ensures.value (c.in-Err.ensures.too_deep i (ap Err is)))
    (given ∙ (c.read_fault.ensures ∙ ap (λ (ls : List Leaf). read_fault bytes ls bad fault) c.as_slice-in-Err.ensures.value))
