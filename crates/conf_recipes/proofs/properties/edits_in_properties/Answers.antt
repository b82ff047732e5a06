use Rattle.std.proofs.Common.{◌≡◌, ◌<◌, ◌++◌, ◌∷◌, [], length, get_or, sym, ap, subst, ◌∙◌, arith}
use Rattle.rw_base.specs.Laws.{leaf_edits_are_edits}
use Rattle.rw_base.specs.NewText.{AreLeafEdits}
use Rattle.std.specs.Str.{bytes_eq}
use Rattle.properties_tree.specs.Decoding.{key_text}
use Rattle.properties_tree.specs.Entries.{properties_of, no_entry}
use Rattle.properties_tree.specs.Layout.{key_leaf_of}
use Rattle.conf_recipes.specs.PropertiesEdits.{key_edit, edits_of}
use Rattle.conf_recipes.proofs.KeyEdits.{found, passed, ended, are_leaf_edits, told_by}
use Rattle.conf_recipes.proofs.properties.edits_in_properties.Goals as goal
use Rattle.conf_recipes.proofs.properties.edits_in_properties.Goals.{then-same+in_ok-key_edit+in_ok-push, else-same}

pub loop-n-preserved : goal.loop-n-preserved
loop-n-preserved c =
    let es = (properties_of c.args.bytes.now).entries in
    let old = c.args.options.now.old_property_key in
    let new = c.args.options.now.new_property_key in
    let n = c.loop-n.n in
    let all = edits_of c.args.bytes.now c.args.options.now in
    let lt : n < length es = omega (arith, c.entry_count-n-end.ensures.count) in
    let this = key_text (get_or es n no_entry) in
    let told : bytes_eq this old ≡ c.in_ok-same.same = ap (bytes_eq this) (sym c.as_slice.ensures) ∙ told_by c.in_ok-same.same this c.as_slice.result.now c.in_ok-same.ensures in
    elim c.if-same.branch [
      | then-same+in_ok-key_edit+in_ok-push w ↦
          let edit : w.in_ok-key_edit.field-0 ≡ key_edit (key_leaf_of n) new = w.in_ok-key_edit.ensures ∙ (ap (λ leaf. key_edit leaf w.as_slice-then-same.result.now) w.key_leaf-leaf.ensures.number ∙ ap (key_edit (key_leaf_of n)) w.as_slice-then-same.ensures) in
          let edits : c.if-same.edits.items ≡ c.loop-n.edits.items ++ key_edit (key_leaf_of n) new ∷ [] = ap (λ v. v.items) w.edits-is ∙ (w.in_ok-push.ensures.items ∙ ap (λ e. c.loop-n.edits.items ++ e ∷ []) edit) in
          rw edits (found old new es n c.loop-n.edits.items all lt c.loop-n.invariant (told ∙ w.if-same.true))
      | else-same w ↦ rw w.edits-is (passed old new es n c.loop-n.edits.items all lt c.loop-n.invariant (told ∙ w.if-same.false))
    ]

pub returns-clause-edits : goal.returns-clause-edits
returns-clause-edits c =
    let es = (properties_of c.args.bytes.now).entries in
    ended c.args.options.now.old_property_key c.args.options.now.new_property_key es c.loop-n.n c.loop-n.edits.items (edits_of c.args.bytes.now c.args.options.now) (omega (arith, c.entry_count-n-end.ensures.count)) c.loop-n.invariant

pub returns-clause-leaves : goal.returns-clause-leaves
returns-clause-leaves c =
    let es = (properties_of c.args.bytes.now).entries in
    let all = ended c.args.options.now.old_property_key c.args.options.now.new_property_key es c.loop-n.n c.loop-n.edits.items (edits_of c.args.bytes.now c.args.options.now) (omega (arith, c.entry_count-n-end.ensures.count)) c.loop-n.invariant in
    subst (AreLeafEdits (length c.args.tree.now.leaves)) (sym all)
    (are_leaf_edits c.args.options.now.old_property_key c.args.options.now.new_property_key (length c.args.tree.now.leaves) 0 es (omega (arith, c.entry_count-n-end.ensures.leaves, c.entry_count-n-end.ensures.count)))

pub returns-clause-fit : goal.returns-clause-fit
returns-clause-fit c =
    let es = (properties_of c.args.bytes.now).entries in
    let all = ended c.args.options.now.old_property_key c.args.options.now.new_property_key es c.loop-n.n c.loop-n.edits.items (edits_of c.args.bytes.now c.args.options.now) (omega (arith, c.entry_count-n-end.ensures.count)) c.loop-n.invariant in
    leaf_edits_are_edits c.args.tree.now c.loop-n.edits.items
    (subst (AreLeafEdits (length c.args.tree.now.leaves)) (sym all)
    (are_leaf_edits c.args.options.now.old_property_key c.args.options.now.new_property_key (length c.args.tree.now.leaves) 0 es (omega (arith, c.entry_count-n-end.ensures.leaves, c.entry_count-n-end.ensures.count))))
