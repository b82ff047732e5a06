use Rattle.std.proofs.Common.{List, ℕ, Bool, arith}
use Rattle.std.specs.Str.{bytes_eq}
use Rattle.properties_tree.specs.Entries.{properties_of}
use Rattle.conf_recipes.specs.PropertiesRecipes.{deletes_of}
use Rattle.conf_recipes.proofs.Deleted.{ended, deletes_fit}
use Rattle.conf_recipes.proofs.deleting.deletes_in_properties.Goals as goal

pub returns-clause-edits : goal.returns-clause-edits
returns-clause-edits c =
    ended (λ key. bytes_eq key c.args.options.now.property_key) (properties_of c.args.bytes.now).entries c.loop-n.n c.loop-n.edits.items (deletes_of c.args.bytes.now c.args.options.now)
    (omega (arith, c.entry_count-n-end.ensures.count)) c.loop-n.invariant

pub returns-clause-fit : goal.returns-clause-fit
returns-clause-fit c =
    let goes : List ℕ → Bool = λ key. bytes_eq key c.args.options.now.property_key in
    deletes_fit goes c.args.tree.now c.args.bytes.now c.loop-n.edits.items c.requires
    (ended goes (properties_of c.args.bytes.now).entries c.loop-n.n c.loop-n.edits.items (deletes_of c.args.bytes.now c.args.options.now) (omega (arith, c.entry_count-n-end.ensures.count)) c.loop-n.invariant)
