use Rattle.std.proofs.Common.{rules}
use Rattle.std.proofs.lemmas.List.Sorted.{answers_always, ranks_by}
use Rattle.memory_stores.proofs.Order.{total}
use Rattle.memory_stores.proofs.Searched.{is_sort_of, path_of, path_less, IsSortOf}
use Rattle.memory_stores.proofs.table.Table.new.Goals as goal

sorted : (c : goal.After-sort_unstable_by) → IsSortOf c.args.files.items c.sort_unstable_by.new.self.items
sorted c =
    let facts = c.sort_unstable_by.ensures in
    let rising = facts.sorted path_less (ranks_by total path_of) (answers_always _ _ _ (λ f a r g called. search rules)) in
    is_sort_of c.args.files.items c.in_ok-rows.rows.items _ c.in_ok-rows.ensures facts.permutation rising c.requires

pub invariant_of-result : goal.invariant_of-result
invariant_of-result c = (sorted c).sorted

pub returns : goal.returns
returns c = (sorted c).states
