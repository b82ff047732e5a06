use Rattle.std.proofs.Common.{[], arith}
use Rattle.std.specs.Cmp.Lexicographic.{nat_list_cmp_total}
use Rattle.std.proofs.lemmas.Map.Keys.{sorted_from_all_adjacent}
use Rattle.rw_host.proofs.listing.are_in_order.Goals as goal

pub returns : goal.returns
returns c told = sorted_from_all_adjacent nat_list_cmp_total c.args.paths.now [] (λ k lt. c.loop-i.invariant k (omega arith))
