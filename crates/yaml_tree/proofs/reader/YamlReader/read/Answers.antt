use Rattle.std.proofs.Common.{List, length, ap, subst, arith}
use Rattle.std.specs.Prelude.{IfOk, Result, Ok, Err}
use Rattle.rw_base.specs.Arena.{Arena}
use Rattle.rw_base.specs.declared.place.ReadFault.{ReadFault}
use Rattle.rw_grammar.specs.Parts.{Parts}
use Rattle.rw_grammar.specs.Reading.{IsOutcome, is-cut}
use Rattle.yaml_tree.specs.declared.reader.TheConstants.{STREAM}
use Rattle.yaml_tree.specs.Reading.{IsYamlOutcome}
use Rattle.yaml_tree.proofs.Closed.{twelve}
use Rattle.yaml_tree.proofs.reader.YamlReader.read.Goals as goal

if_tree : (P Q : Arena → Type 0) (r : Result Arena ReadFault) → ((t : Arena) → P t → Q t) → IfOk r P → IfOk r Q
if_tree P Q (Ok t) f p = f t p
if_tree P Q (Err e) f p = tt

pub read_by-requires-clause-start : goal.read_by-requires-clause-start
read_by-requires-clause-start c = omega (arith, ap length c.self.invariant, twelve)

pub returns-clause-tree : goal.returns-clause-tree
returns-clause-tree c =
    let bytes = c.args.bytes.now in
    let leaves = c.in_ok-cut.cut.leaves.items in
    let bad = c.in_ok-cut.cut.bad in
    if_tree (λ t. IsOutcome c.self.inside.table STREAM bytes leaves bad (Ok t)) (λ t. IsYamlOutcome bytes (Ok t))
    c.read_by.result
    (λ t p. is-cut leaves bad c.in_default.ensures.small c.in_ok-cut.ensures.leaves
    (subst (λ (rules : List Parts). IsOutcome rules STREAM bytes leaves bad (Ok t)) c.self.invariant p))
    c.read_by.ensures.tree

pub returns-clause-refused : goal.returns-clause-refused
returns-clause-refused c r e =
    let bytes = c.args.bytes.now in
    let leaves = c.in_ok-cut.cut.leaves.items in
    let bad = c.in_ok-cut.cut.bad in
    is-cut leaves bad c.in_default.ensures.small c.in_ok-cut.ensures.leaves
    (subst (λ (rules : List Parts). IsOutcome rules STREAM bytes leaves bad (Err r)) c.self.invariant
    (c.read_by.ensures.refused r e))
