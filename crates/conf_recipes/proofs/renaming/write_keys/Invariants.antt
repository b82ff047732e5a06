use Rattle.conf_recipes.proofs.Copied.{IsWritten, left_behind}
use Rattle.conf_recipes.proofs.renaming.write_keys.Given as goal

abbrev pub invariant-loop-next : goal.invariant-loop-next
invariant-loop-next l = IsWritten l.key l.spelled l.bytes l.out.items l.copied l.next

abbrev pub decreases-loop-next : goal.decreases-loop-next
decreases-loop-next l = left_behind l.bytes l.next
