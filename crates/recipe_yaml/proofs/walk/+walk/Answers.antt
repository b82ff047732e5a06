use Rattle.std.proofs.Common.{rules, ◌≡◌, length, get_or, ap, sym, subst, ◌∙◌, refl, arith, false}
use Rattle.std.specs.Prelude.{Ok, Err}
use Rattle.recipe_yaml.specs.Walks.{entry, conditions, each, IsGone}
use Rattle.recipe_yaml.proofs.Gone.{condition_goes, condition_fault, conditions_start, conditions_more, conditions_fault, conditions_end, each_more, each_fault, each_end, recipe_fault_in_conditions, recipe_fault_in_list, recipe_goes}
use Rattle.recipe_yaml.proofs.walk.+walk.Goals as goal

-- ---- a precondition

pub walk_condition-returns-in_err-walk_entry-clause-gone : goal.walk_condition-returns-in_err-walk_entry-clause-gone
walk_condition-returns-in_err-walk_entry-clause-gone m c paths are =
    let walk = entry c.args.book.now paths c.args.levels c.args.around.now in
    let gone = condition_fault walk c.args.listed.now c.args.walked.now c.walk_entry.new.walked c.open-outer.new.walked _ c.in_err-walk_entry.field-0.0 c.walk_entry.new.walked (c.in_err-walk_entry.ensures.gone paths are) c.open-outer.ensures.opened refl in
    search (rules, gone)

pub walk_condition-returns-clause-gone : goal.walk_condition-returns-clause-gone
walk_condition-returns-clause-gone m c paths are =
    let walk = entry c.args.book.now paths c.args.levels c.args.around.now in
    condition_goes walk c.args.listed.now c.args.walked.now c.walk_entry.new.walked c.open-outer.new.walked _ tt tt _ c.close.new.walked (c.in_ok-walk_entry.ensures.gone paths are) c.open-outer.ensures.opened refl c.open-outer.ensures.outer c.in_ok-close.ensures

-- ---- preconditions

pub walk_conditions-loop-listed-init : goal.walk_conditions-loop-listed-init
walk_conditions-loop-listed-init m c = record {
  few = c.requires.few;
  gone = λ paths are. conditions_start (entry c.args.book.now paths c.args.levels c.args.around.now) c.args.above.now c.in_ok-positions.positions.items c.args.entries.now c.args.walked.now c.in_ok-positions.ensures.items;
}

pub walk_conditions-loop-listed-preserved : goal.walk_conditions-loop-listed-preserved
walk_conditions-loop-listed-preserved m c = record {
  few = c.in_ok-walk_condition.ensures.few;
  gone = λ paths are.
      let walk = entry c.args.book.now paths c.args.levels c.args.around.now in
      conditions_more walk c.args.entries.now c.loop-listed.listed-index c.listed-item.result c.loop-listed.positions.items c.loop-listed.walked c.walk_condition.new.walked (conditions walk c.args.above.now c.args.entries.now c.args.walked.now) c.push_position.new.positions.items tt (omega arith) (sym c.listed-item.is) (c.loop-listed.invariant.gone paths are) (c.in_ok-walk_condition.ensures.gone paths are) c.in_ok-push_position.ensures;
}

pub walk_conditions-returns-in_err-walk_condition-clause-gone : goal.walk_conditions-returns-in_err-walk_condition-clause-gone
walk_conditions-returns-in_err-walk_condition-clause-gone m c paths are =
    let walk = entry c.args.book.now paths c.args.levels c.args.around.now in
    let gone = conditions_fault walk c.args.entries.now c.loop-listed.listed-index c.listed-item.result c.loop-listed.positions.items c.loop-listed.walked c.walk_condition.new.walked (conditions walk c.args.above.now c.args.entries.now c.args.walked.now) c.in_err-walk_condition.field-0.0 (omega arith) (sym c.listed-item.is) (c.loop-listed.invariant.gone paths are) (c.in_err-walk_condition.ensures.gone paths are) in
    search (rules, gone)

pub walk_conditions-returns-clause-gone : goal.walk_conditions-returns-clause-gone
walk_conditions-returns-clause-gone m c paths are =
    let walk = entry c.args.book.now paths c.args.levels c.args.around.now in
    conditions_end walk c.args.entries.now c.loop-listed.listed-index c.loop-listed.positions.items c.loop-listed.walked (conditions walk c.args.above.now c.args.entries.now c.args.walked.now) (omega arith) (c.loop-listed.invariant.gone paths are)

-- ---- a list

pub walk_list-loop-listed-preserved : goal.walk_list-loop-listed-preserved
walk_list-loop-listed-preserved m c = record {
  few = c.in_ok-walk_entry.ensures.few;
  gone = λ paths are.
      let walk = entry c.args.book.now paths c.args.levels c.args.around.now in
      each_more walk c.args.entries.now c.loop-listed.listed-index c.listed-item.result c.args.above.now c.loop-listed.walked c.walk_entry.new.walked (each (walk false c.args.above.now) c.args.entries.now c.args.walked.now) tt (omega arith) (sym c.listed-item.is) (c.loop-listed.invariant.gone paths are) (c.in_ok-walk_entry.ensures.gone paths are);
}

pub walk_list-returns-in_err-walk_entry-clause-gone : goal.walk_list-returns-in_err-walk_entry-clause-gone
walk_list-returns-in_err-walk_entry-clause-gone m c paths are =
    let walk = entry c.args.book.now paths c.args.levels c.args.around.now in
    let gone = each_fault walk c.args.entries.now c.loop-listed.listed-index c.listed-item.result c.args.above.now c.loop-listed.walked c.walk_entry.new.walked (each (walk false c.args.above.now) c.args.entries.now c.args.walked.now) c.walk_entry.new.walked c.in_err-walk_entry.field-0.0 (omega arith) (sym c.listed-item.is) (c.loop-listed.invariant.gone paths are) (c.in_err-walk_entry.ensures.gone paths are) in
    search (rules, gone)

pub walk_list-returns-clause-gone : goal.walk_list-returns-clause-gone
walk_list-returns-clause-gone m c paths are =
    let walk = entry c.args.book.now paths c.args.levels c.args.around.now in
    each_end walk c.args.entries.now c.loop-listed.listed-index c.args.above.now c.loop-listed.walked (each (walk false c.args.above.now) c.args.entries.now c.args.walked.now) (omega arith) (c.loop-listed.invariant.gone paths are)

-- ---- a recipe

pub walk_recipe-returns-in_err-positions-clause-gone : goal.walk_recipe-returns-in_err-positions-clause-gone
walk_recipe-returns-in_err-positions-clause-gone m c paths are =
    let walk = entry c.args.book.now paths c.args.levels c.args.around.now in
    let gone = recipe_fault_in_conditions walk c.args.above.now c.args.written.now c.args.walked.now c.note.new.walked c.as_slice-conditions.result.now c.in_err-positions.field-0.0 c.note.ensures c.as_slice-conditions.ensures (c.in_err-positions.ensures.gone paths are) in
    search (rules, gone)

pub walk_recipe-returns-in_err-walk_list-clause-gone : goal.walk_recipe-returns-in_err-walk_list-clause-gone
walk_recipe-returns-in_err-walk_list-clause-gone m c paths are =
    let walk = entry c.args.book.now paths c.args.levels c.args.around.now in
    let gone = recipe_fault_in_list walk c.args.above.now c.args.written.now c.args.walked.now c.note.new.walked c.as_slice-conditions.result.now c.walk_conditions.new.walked c.in_ok-positions.positions.items c.deref.result.now c.as_slice-list.result.now c.in_err-walk_list.field-0.0
    c.note.ensures c.as_slice-conditions.ensures (c.in_ok-positions.ensures.gone paths are) c.as_slice-list.ensures c.deref.ensures.value (c.in_err-walk_list.ensures.gone paths are) in
    search (rules, gone)

pub walk_recipe-returns-clause-gone : goal.walk_recipe-returns-clause-gone
walk_recipe-returns-clause-gone m c paths are =
    let walk = entry c.args.book.now paths c.args.levels c.args.around.now in
    recipe_goes walk c.args.above.now c.args.written.now c.args.walked.now c.note.new.walked c.as_slice-conditions.result.now c.walk_conditions.new.walked c.in_ok-positions.positions.items c.deref.result.now c.as_slice-list.result.now (Ok c.walk_list.new.walked)
    c.note.ensures c.as_slice-conditions.ensures (c.in_ok-positions.ensures.gone paths are) c.as_slice-list.ensures c.deref.ensures.value (c.in_ok-walk_list.ensures.gone paths are)
