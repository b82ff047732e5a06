use Rattle.std.proofs.Common.{length, subst, sym, ap, ◌∙◌, arith}
use Rattle.rw_host.specs.Files.{IsInOrder}
use Rattle.memory_stores.specs.States.{now_of}
use Rattle.memory_stores.proofs.Maps.{keys_rise}
use Rattle.memory_stores.proofs.Now.{len_keys}
use Rattle.memory_stores.proofs.table.Table.list.Goals as goal

pub returns-clause-in_order : goal.returns-clause-in_order
returns-clause-in_order c = subst IsInOrder (sym c.in_ok-paths.ensures) (keys_rise (now_of c.args.self.now.states))

pub returns-clause-at_most : goal.returns-clause-at_most
returns-clause-at_most c =
    let paths = c.in_ok-paths.field-0 in
    let count = ap length c.in_ok-paths.ensures ∙ len_keys (now_of c.args.self.now.states) in
    omega (arith, paths.ok, count, c.len.ensures, c.if-len-most.false)
