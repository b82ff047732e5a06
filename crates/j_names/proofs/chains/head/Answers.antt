use Rattle.std.proofs.Common.{arith}
use Rattle.j_names.proofs.Linking.{nothing_behind}
use Rattle.j_names.proofs.chains.head.Goals as goal

pub returns-else-number-heads : goal.returns-else-number-heads
returns-else-number-heads c =
    nothing_behind c.args.number c.args.links.now
    (λ at l lt is same. omega (arith, c.requires.of_numbers at l lt is, same, c.if-number-heads.false))
