use Rattle.std.proofs.Common.{List, ℕ, subst}
use Rattle.std.proofs.lemmas.List.{take_rest}
use Rattle.properties_tree.specs.Sizes.{BeginsPassed, BeginsEntry}
use Rattle.properties_tree.proofs.Goes.{passed_read, entry_read}
use Rattle.properties_tree.proofs.reader.read_line.Goals as goal

pub returns-in-Passed-clause-read : goal.returns-in-Passed-clause-read
returns-in-Passed-clause-read c =
    passed_read c.args.bytes.now c.args.leaves.now.items c.args.nodes.now.items c.args.from c.args.at c.in-Passed.size
    (subst (λ (t : List ℕ). BeginsPassed t c.in-Passed.size) (take_rest c.args.bytes.now c.args.at) c.in-Passed.ensures) c.requires.read

pub returns-in_ok-push_entry-in-Entry-clause-read : goal.returns-in_ok-push_entry-in-Entry-clause-read
returns-in_ok-push_entry-in-Entry-clause-read c =
    rw (c.in_ok-push_entry-in-Entry.ensures.leaves, c.in_ok-push_entry-in-Entry.ensures.nodes)
    (entry_read c.args.bytes.now c.args.leaves.now.items c.args.nodes.now.items c.args.from c.args.at c.entry_sizes-sizes.result
    (subst (λ (t : List ℕ). BeginsEntry t c.entry_sizes-sizes.result) (take_rest c.args.bytes.now c.args.at) c.entry_sizes-sizes.ensures) c.requires.read)
