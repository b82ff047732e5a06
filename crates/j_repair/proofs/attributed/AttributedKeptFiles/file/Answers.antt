use Rattle.std.proofs.Common.{ap, length, sym, arith}
use Rattle.j_repair.proofs.Kept.{kept_at}
use Rattle.j_repair.proofs.attributed.AttributedKeptFiles.file.Goals as goal

pub returns-clause-kept : goal.returns-clause-kept
returns-clause-kept c =
    kept_at c.self.inside.files c.as_slice.result.now c.args.i c.index-as_slice-i.result c.get.result.now c.self.invariant
    (omega (arith, c.requires, ap length c.self.view_is)) c.as_slice.ensures (sym c.index-as_slice-i.is) c.get.ensures
