use Rattle.std.proofs.Common.{arith}
use Rattle.java_reader.proofs.laws.cuts_are_one.Goals as goal

pub returns : goal.returns
returns c = c.texts_are_cut_one_way.ensures c.args.bytes.now (λ i. omega (arith, c.type_inv.bytes i))
