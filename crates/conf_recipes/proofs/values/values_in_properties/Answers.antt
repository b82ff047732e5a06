use Rattle.std.proofs.Common.{ℕ, ◌++◌, List, get_or, sym, ap, ◌∙◌, arith}
use Rattle.properties_tree.specs.Entries.{properties_of, no_entry}
use Rattle.conf_recipes.specs.PropertiesRecipes.{value_edits, values_of}
use Rattle.conf_recipes.proofs.ValueEdits.{got, kept, ended, values_fit}
use Rattle.conf_recipes.proofs.values.values_in_properties.Goals as goal
use Rattle.conf_recipes.proofs.values.values_in_properties.Goals.{then-branch+in_ok-push_value, else-branch}

pub loop-n-preserved : goal.loop-n-preserved
loop-n-preserved c =
    let es = (properties_of c.args.bytes.now).entries in
    let options = c.args.options.now in
    let all = values_of c.args.bytes.now options in
    elim c.if-branch.branch [
      | then-branch+in_ok-push_value w ↦
          got options es c.loop-n.n c.loop-n.edits.items c.if-branch.edits.items all (omega (arith, c.entry_count-n-end.ensures.count)) (sym c.in_ok-gets_value.ensures ∙ w.if-branch.true)
          (ap (λ v. v.items) w.edits-is ∙ (w.in_ok-push_value.ensures ∙ ap (λ (v : List ℕ). c.loop-n.edits.items ++ value_edits v c.loop-n.n (get_or es c.loop-n.n no_entry)) w.as_slice.ensures)) c.loop-n.invariant
      | else-branch w ↦ rw w.edits-is (kept options es c.loop-n.n c.loop-n.edits.items all (omega (arith, c.entry_count-n-end.ensures.count)) (sym c.in_ok-gets_value.ensures ∙ w.if-branch.false) c.loop-n.invariant)
    ]

pub returns-clause-edits : goal.returns-clause-edits
returns-clause-edits c =
    ended c.args.options.now (properties_of c.args.bytes.now).entries c.loop-n.n c.loop-n.edits.items (values_of c.args.bytes.now c.args.options.now)
    (omega (arith, c.entry_count-n-end.ensures.count)) c.loop-n.invariant

pub returns-clause-fit : goal.returns-clause-fit
returns-clause-fit c =
    values_fit c.args.options.now c.args.tree.now c.args.bytes.now c.loop-n.edits.items c.entry_count-n-end.result c.entry_count-n-end.ensures.count c.entry_count-n-end.ensures.leaves
    (ended c.args.options.now (properties_of c.args.bytes.now).entries c.loop-n.n c.loop-n.edits.items (values_of c.args.bytes.now c.args.options.now) (omega (arith, c.entry_count-n-end.ensures.count)) c.loop-n.invariant)
