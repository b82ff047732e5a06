use Rattle.std.proofs.Common.{◌≡◌, ◌-◌, ◌++◌, ◌∙◌, List, length, get_or, take, drop}
use Rattle.std.proofs.Common.{sym, ap, refl, arith, append-nil}
use Rattle.std.specs.Prelude.{[], None, Some, if◌then◌else◌}
use Rattle.std.proofs.lemmas.Bool.{eqb-true, eqb-false}
use Rattle.std.proofs.lemmas.List.{take_rest, nil_from_length}
use Rattle.rw_base.specs.Arena.{kind_of}
use Rattle.rw_base.specs.Laid.{kids_of}
use Rattle.rw_base.specs.PartLaws.{below_next}
use Rattle.rw_grammar.specs.Results.{class_in}
use Rattle.yaml_tree.specs.declared.key_path.PathStep.{PathStep}
use Rattle.yaml_tree.specs.declared.key_path.PathStep.TheVariants.{AnyName}
use Rattle.yaml_tree.specs.Entries.{key_in}
use Rattle.yaml_tree.specs.Found.{at_inner, at_each, goes_by, from_entry, from_entries, from_node, found, key_text}
use Rattle.yaml_tree.proofs.FoundSteps.{walk_end, walk_leaf, walk_node, found_none, found_at}
use Rattle.yaml_tree.proofs.finding.+finding.Goals as goal
use Rattle.yaml_tree.proofs.finding.+finding.Goals.{find_in_each-in-Leaf}
use Rattle.yaml_tree.proofs.finding.+finding.Goals.{find_in_each-in-Node+in_ok-find_in_part-in-Node}
use Rattle.yaml_tree.proofs.finding.+finding.Goals.{find_in_entries-in-Leaf}
use Rattle.yaml_tree.proofs.finding.+finding.Goals.{find_in_entries-in-Node+in_ok-find_from_entry-in-Node}

pub find_from-returns-then-is_empty : goal.find_from-returns-then-is_empty
find_from-returns-then-is_empty t c =
    let tree = c.args.tree.now in
    let class = class_in tree.leaves in
    let text = key_text c.args.bytes.now tree.leaves in
    let out = c.args.out.now.items in
    let none : c.args.steps.now ≡ [] =
    nil_from_length c.args.steps.now
    (eqb-true (length c.args.steps.now) 0 (sym c.is_empty.ensures ∙ c.if-is_empty.true)) in
    let kind = kind_of tree.nodes c.args.n.0 in
    let kids = kids_of tree.nodes c.args.n.0 in
    sym (append-nil out)
    ∙ ap (λ x. out ++ x) (sym (ap (λ s. found class text s kind kids) none ∙ found_none class text kind kids))

pub find_from-returns-in-None : goal.find_from-returns-in-None
find_from-returns-in-None t c =
    let tree = c.args.tree.now in
    let rows = tree.nodes in
    let steps = c.args.steps.now in
    let out = c.args.out.now.items in
    let some = eqb-false (length steps) 0 (sym c.is_empty.ensures ∙ c.if-is_empty.false) in
    sym (append-nil out)
    ∙ ap (λ x. out ++ x) (sym (found_at rows (class_in tree.leaves) (key_text c.args.bytes.now tree.leaves) steps
    AnyName
    c.args.n.0 None (omega (arith, some)) c.in-None.ensures.inner))

pub find_from-returns-in_ok-find_from_node-in-Some : goal.find_from-returns-in_ok-find_from_node-in-Some
find_from-returns-in_ok-find_from_node-in-Some t c =
    let tree = c.args.tree.now in
    let rows = tree.nodes in
    let class = class_in tree.leaves in
    let text = key_text c.args.bytes.now tree.leaves in
    let steps = c.args.steps.now in
    let out = c.args.out.now.items in
    let step = c.index-steps-0.result in
    let rest = take (length steps - 1) (drop 1 steps) in
    let m = c.in-Some.value in
    let some = eqb-false (length steps) 0 (sym c.is_empty.ensures ∙ c.if-is_empty.false) in
    let whole = found_at rows class text steps step c.args.n.0 (Some m) (omega (arith, some)) c.in-Some.ensures.inner in
    let first = ap (λ (x : PathStep).
    from_node class text x rest (found class text rest) (kind_of rows m.0) (kids_of rows m.0)) c.index-steps-0.is in
    let others = ap (λ (x : List PathStep).
    from_node class text (get_or steps 0 step) x (found class text x) (kind_of rows m.0) (kids_of rows m.0))
    (take_rest steps 1) in
    c.in_ok-find_from_node-in-Some.ensures ∙ ap (λ x. out ++ x) (first ∙ (others ∙ sym whole))

pub find_in_each-loop-part-preserved : goal.find_in_each-loop-part-preserved
find_in_each-loop-part-preserved t c =
    let tree = c.args.tree.now in
    let f = found (class_in tree.leaves) (key_text c.args.bytes.now tree.leaves) c.args.steps.now in
    let rows = tree.nodes in
    let ps = c.parts-parts.result.now in
    let k = c.loop-part.part-index in
    let all = c.args.out.now.items ++ at_each (at_inner f) (kids_of rows c.args.n.0) in
    let below = below_next (length tree.leaves) c.args.n.0 ps k c.loop-part.invariant.below c.loop-part-test.true in
    elim c.match-part.branch [
      | find_in_each-in-Leaf w ↦ record {
        same = rw w.out-is (walk_leaf (at_each (at_inner f)) (λ n. at_inner f) rows ps all c.loop-part.out.items
            (λ l g. refl) k _ c.loop-part-test.true _ w.in-Leaf.is c.loop-part.invariant.same);
        below = below;
      }
      | find_in_each-in-Node+in_ok-find_in_part-in-Node w ↦ record {
        same = rw w.out-is (walk_node (at_each (at_inner f)) (λ n. at_inner f) rows ps all c.loop-part.out.items
            (λ n kind kids g. refl) k _ c.loop-part-test.true _ _ w.in-Node.is w.in_ok-find_in_part-in-Node.ensures
            c.loop-part.invariant.same);
        below = below;
      }
    ]

pub find_in_each-returns : goal.find_in_each-returns
find_in_each-returns t c =
    let tree = c.args.tree.now in
    let f = found (class_in tree.leaves) (key_text c.args.bytes.now tree.leaves) c.args.steps.now in
    walk_end (at_each (at_inner f)) (λ n. at_inner f) tree.nodes c.parts-parts.result.now
    (c.args.out.now.items ++ at_each (at_inner f) (kids_of tree.nodes c.args.n.0)) c.loop-part.out.items refl
    c.loop-part.part-index c.loop-part-test.false c.loop-part.invariant.same

pub find_in_entries-loop-part-preserved : goal.find_in_entries-loop-part-preserved
find_in_entries-loop-part-preserved t c =
    let tree = c.args.tree.now in
    let class = class_in tree.leaves in
    let text = key_text c.args.bytes.now tree.leaves in
    let f = found class text c.args.steps.now in
    let step = c.args.step.now in
    let steps = c.args.steps.now in
    let b = c.is_flow_mapping-in_mapping.result in
    let rows = tree.nodes in
    let ps = c.parts-parts.result.now in
    let k = c.loop-part.part-index in
    let all = c.args.out.now.items ++ from_entries class text step steps f b (kids_of rows c.args.n.0) in
    let below = below_next (length tree.leaves) c.args.n.0 ps k c.loop-part.invariant.below c.loop-part-test.true in
    elim c.match-part.branch [
      | find_in_entries-in-Leaf w ↦ record {
        same = rw w.out-is (walk_leaf (from_entries class text step steps f b)
            (λ n kind kids. if goes_by class text step (key_in class b kind kids)
            then from_entry class text steps f n kids else [])
            rows ps all c.loop-part.out.items
            (λ l g. refl) k _ c.loop-part-test.true _ w.in-Leaf.is c.loop-part.invariant.same);
        below = below;
      }
      | find_in_entries-in-Node+in_ok-find_from_entry-in-Node w ↦ record {
        same = rw w.out-is (walk_node (from_entries class text step steps f b)
            (λ n kind kids. if goes_by class text step (key_in class b kind kids)
            then from_entry class text steps f n kids else [])
            rows ps all c.loop-part.out.items
            (λ n kind kids g. refl) k _ c.loop-part-test.true _ _ w.in-Node.is w.in_ok-find_from_entry-in-Node.ensures
            c.loop-part.invariant.same);
        below = below;
      }
    ]

pub find_in_entries-returns : goal.find_in_entries-returns
find_in_entries-returns t c =
    let tree = c.args.tree.now in
    let class = class_in tree.leaves in
    let text = key_text c.args.bytes.now tree.leaves in
    let f = found class text c.args.steps.now in
    let step = c.args.step.now in
    let steps = c.args.steps.now in
    let b = c.is_flow_mapping-in_mapping.result in
    let kids = kids_of tree.nodes c.args.n.0 in
    walk_end (from_entries class text step steps f b)
    (λ n kind kids. if goes_by class text step (key_in class b kind kids)
    then from_entry class text steps f n kids else [])
    tree.nodes c.parts-parts.result.now
    (c.args.out.now.items ++ from_entries class text step steps f b kids) c.loop-part.out.items refl
    c.loop-part.part-index c.loop-part-test.false c.loop-part.invariant.same
    ∙ ap (λ x. c.args.out.now.items ++ from_entries class text step steps f x kids) c.is_flow_mapping-in_mapping.ensures
