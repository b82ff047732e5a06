use Rattle.std.proofs.Common.{◌≡◌, length, [], ◌∷◌, ◌++◌, refl, ◌∙◌, ap, subst, arith, slice_index_or}
use Rattle.std.proofs.lemmas.Grind.{common_steps}
use Rattle.rw_grammar.specs.Parts.{rule_of}
use Rattle.rw_grammar.specs.Cells.{shape_at, rules_at}
use Rattle.rw_grammar.specs.Viability.{StopsAt}
use Rattle.rw_grammar.specs.Results.{class_in, all_of}
use Rattle.rw_grammar.proofs.Acting.{each_fine, root_is}
use Rattle.rw_grammar.proofs.Runs.{standing_start}
use Rattle.rw_grammar.proofs.Leaves.{goes_to, takes_leaf, stops_here, resumes, place_within, closes, finishes, ends_early}
use Rattle.rw_grammar.proofs.machine.run.Goals as goal

pub loop-init : goal.loop-init
loop-init c =
    let root = root_is c.args.known.cells.now c.args.known.roots.now c.args.known.empty.now c.args.known.columns.now c.requires.table c.args.start (slice_index_or c.args.known.roots.now c.args.start 0) c.requires.start refl in
    record {
      inside = root.0;
      stands = standing_start (rule_of (rules_at c.args.known.cells.now c.args.known.roots.now)) (class_in c.args.leaves.now) c.args.start (length c.args.known.roots.now) (length c.args.known.cells.now) (shape_at c.args.known.cells.now) (all_of c.args.leaves.now) (each_fine c.args.known.cells.now c.args.known.roots.now c.args.known.empty.now c.args.known.columns.now c.requires.table)
          (shape_at c.args.known.cells.now (slice_index_or c.args.known.roots.now c.args.start 0)) c.keep.new.tasks.items c.new-parts.result.items c.new-nodes.result root.1 (grind (arith, common_steps)) (grind (arith, common_steps)) (grind (arith, common_steps));
    }

pub returns-in-Stuck-clause-stop : goal.returns-in-Stuck-clause-stop
returns-in-Stuck-clause-stop c at h = subst (StopsAt (rule_of (rules_at c.args.known.cells.now c.args.known.roots.now)) (class_in c.args.leaves.now) (rule_of (rules_at c.args.known.cells.now c.args.known.roots.now) c.args.start) (all_of c.args.leaves.now)) (cc) (stops_here (rule_of (rules_at c.args.known.cells.now c.args.known.roots.now)) c.args.start (length c.args.known.roots.now) (length c.args.known.cells.now) (shape_at c.args.known.cells.now) c.args.leaves.now (each_fine c.args.known.cells.now c.args.known.roots.now c.args.known.empty.now c.args.known.columns.now c.requires.table) c.loop.leaf c.loop.tasks.items c.step.new.tasks.items c.loop.parts.items c.loop.nodes c.loop.current c.len.result c.class_at-class.result c.in_ok-moved.moved c.class_at-class.ensures c.in_ok-moved.ensures c.loop.invariant.stands c.in-Stuck.is)

pub loop-preserved-in-To : goal.loop-preserved-in-To
loop-preserved-in-To c =
    let t = goes_to (rule_of (rules_at c.args.known.cells.now c.args.known.roots.now)) c.args.start (length c.args.known.roots.now) (length c.args.known.cells.now) (shape_at c.args.known.cells.now) c.args.leaves.now (each_fine c.args.known.cells.now c.args.known.roots.now c.args.known.empty.now c.args.known.columns.now c.requires.table) c.loop.leaf c.loop.tasks.items c.step.new.tasks.items c.loop.parts.items c.loop.nodes c.loop.current c.len.result c.class_at-class.result c.in_ok-moved.moved c.class_at-class.ensures c.in_ok-moved.ensures c.loop.invariant.stands c.in-To.next c.in-To.is c.loop.invariant.inside (grind (arith, common_steps)) in
    record { inside = t.0; stands = t.1 }

pub overflow_add-leaf : goal.overflow_add-leaf
overflow_add-leaf c = let t = takes_leaf (rule_of (rules_at c.args.known.cells.now c.args.known.roots.now)) c.args.start (length c.args.known.roots.now) (length c.args.known.cells.now) (shape_at c.args.known.cells.now) c.args.leaves.now (each_fine c.args.known.cells.now c.args.known.roots.now c.args.known.empty.now c.args.known.columns.now c.requires.table) c.loop.leaf c.loop.tasks.items c.step.new.tasks.items c.loop.parts.items c.loop.nodes c.loop.current c.len.result c.class_at-class.result c.in_ok-moved.moved c.class_at-class.ensures c.in_ok-moved.ensures c.loop.invariant.stands c.in-Took.next c.in-Took.is in omega (arith, t.1, c.requires.few)

pub loop-preserved-in-Took : goal.loop-preserved-in-Took
loop-preserved-in-Took c =
    let t = takes_leaf (rule_of (rules_at c.args.known.cells.now c.args.known.roots.now)) c.args.start (length c.args.known.roots.now) (length c.args.known.cells.now) (shape_at c.args.known.cells.now) c.args.leaves.now (each_fine c.args.known.cells.now c.args.known.roots.now c.args.known.empty.now c.args.known.columns.now c.requires.table) c.loop.leaf c.loop.tasks.items c.step.new.tasks.items c.loop.parts.items c.loop.nodes c.loop.current c.len.result c.class_at-class.result c.in_ok-moved.moved c.class_at-class.ensures c.in_ok-moved.ensures c.loop.invariant.stands c.in-Took.next c.in-Took.is in
    record {
      inside = t.0;
      stands = rw c.in_ok-take_leaf-in-Took.ensures t.2;
    }

pub returns-then-leaf-leaves-clause-rows : goal.returns-then-leaf-leaves-clause-rows
returns-then-leaf-leaves-clause-rows c =
    let e : c.step.new.tasks.items ≡ [] = grind (arith, common_steps) in
    finishes (rule_of (rules_at c.args.known.cells.now c.args.known.roots.now)) c.args.start (length c.args.known.roots.now) (length c.args.known.cells.now) (shape_at c.args.known.cells.now) c.args.leaves.now (each_fine c.args.known.cells.now c.args.known.roots.now c.args.known.empty.now c.args.known.columns.now c.requires.table) c.loop.leaf c.loop.tasks.items c.step.new.tasks.items c.loop.parts.items c.loop.nodes c.loop.current c.len.result c.class_at-class.result c.in_ok-moved.moved c.class_at-class.ensures c.in_ok-moved.ensures c.loop.invariant.stands (rules_at c.args.known.cells.now c.args.known.roots.now) refl c.in-Ended.is e c.if-leaf-leaves.true

pub returns-in_default-clause-stop : goal.returns-in_default-clause-stop
returns-in_default-clause-stop c at h =
    let e : c.step.new.tasks.items ≡ [] = grind (arith, common_steps) in
    subst (StopsAt (rule_of (rules_at c.args.known.cells.now c.args.known.roots.now)) (class_in c.args.leaves.now) (rule_of (rules_at c.args.known.cells.now c.args.known.roots.now) c.args.start) (all_of c.args.leaves.now)) (cc) (ends_early (rule_of (rules_at c.args.known.cells.now c.args.known.roots.now)) c.args.start (length c.args.known.roots.now) (length c.args.known.cells.now) (shape_at c.args.known.cells.now) c.args.leaves.now (each_fine c.args.known.cells.now c.args.known.roots.now c.args.known.empty.now c.args.known.columns.now c.requires.table) c.loop.leaf c.loop.tasks.items c.step.new.tasks.items c.loop.parts.items c.loop.nodes c.loop.current c.len.result c.class_at-class.result c.in_ok-moved.moved c.class_at-class.ensures c.in_ok-moved.ensures c.loop.invariant.stands c.in-Ended.is e c.if-leaf-leaves.false)

pub loop-preserved-in-Derive : goal.loop-preserved-in-Derive
loop-preserved-in-Derive c =
    let t = resumes (rule_of (rules_at c.args.known.cells.now c.args.known.roots.now)) c.args.start (length c.args.known.roots.now) (length c.args.known.cells.now) (shape_at c.args.known.cells.now) c.args.leaves.now (each_fine c.args.known.cells.now c.args.known.roots.now c.args.known.empty.now c.args.known.columns.now c.requires.table) c.loop.leaf c.loop.tasks.items c.step.new.tasks.items c.loop.parts.items c.loop.nodes c.loop.current c.len.result c.class_at-class.result c.in_ok-moved.moved c.class_at-class.ensures c.in_ok-moved.ensures c.loop.invariant.stands c.in-Derive.next c.pop.new.self.items c.in-Ended.is (c.in-Some.ensures.items ∙ ap (λ w. c.pop.new.self.items ++ w ∷ []) c.in-Derive.is) in
    record { inside = t.0; stands = t.1 }

pub close-requires : goal.close-requires
close-requires c =
    place_within (rule_of (rules_at c.args.known.cells.now c.args.known.roots.now)) c.args.start (length c.args.known.roots.now) (length c.args.known.cells.now) (shape_at c.args.known.cells.now) c.args.leaves.now (each_fine c.args.known.cells.now c.args.known.roots.now c.args.known.empty.now c.args.known.columns.now c.requires.table) c.loop.leaf c.loop.tasks.items c.step.new.tasks.items c.loop.parts.items c.loop.nodes c.loop.current c.len.result c.class_at-class.result c.in_ok-moved.moved c.class_at-class.ensures c.in_ok-moved.ensures c.loop.invariant.stands c.in-Close.rule c.in-Close.place c.in-Close.first c.pop.new.self.items c.in-Ended.is (c.in-Some.ensures.items ∙ ap (λ w. c.pop.new.self.items ++ w ∷ []) c.in-Close.is)

pub loop-preserved : goal.loop-preserved
loop-preserved c =
    let t = closes (rule_of (rules_at c.args.known.cells.now c.args.known.roots.now)) c.args.start (length c.args.known.roots.now) (length c.args.known.cells.now) (shape_at c.args.known.cells.now) c.args.leaves.now (each_fine c.args.known.cells.now c.args.known.roots.now c.args.known.empty.now c.args.known.columns.now c.requires.table) c.loop.leaf c.loop.tasks.items c.step.new.tasks.items c.loop.parts.items c.loop.nodes c.loop.current c.len.result c.class_at-class.result c.in_ok-moved.moved c.class_at-class.ensures c.in_ok-moved.ensures c.loop.invariant.stands c.in-Close.rule c.in-Close.place c.in-Close.first c.pop.new.self.items c.close.new.parts.items c.close.new.nodes c.in-Ended.is (c.in-Some.ensures.items ∙ ap (λ w. c.pop.new.self.items ++ w ∷ []) c.in-Close.is)
    c.in_ok-close-in-Close.ensures.alone c.in_ok-close-in-Close.ensures.parts c.in_ok-close-in-Close.ensures.row in
    record { inside = c.loop.invariant.inside; stands = t }
