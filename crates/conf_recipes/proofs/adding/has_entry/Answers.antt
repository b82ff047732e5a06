use Rattle.std.proofs.Common.{arith}
use Rattle.properties_tree.specs.Entries.{properties_of}
use Rattle.conf_recipes.proofs.Added.{found_nowhere}
use Rattle.conf_recipes.proofs.adding.has_entry.Goals as goal

pub returns : goal.returns
returns c = found_nowhere c.args.key.now (properties_of c.args.bytes.now).entries c.loop-n.n (omega (arith, c.entry_count-n-end.ensures.count)) c.loop-n.invariant
