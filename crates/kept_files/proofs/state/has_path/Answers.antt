use Rattle.std.proofs.Common.{arith}
use Rattle.kept_files.proofs.StateLaws.{has_false}
use Rattle.kept_files.proofs.state.has_path.Goals as goal

pub returns : goal.returns
returns c = has_false c.args.files.now c.args.path.now c.loop-file.file-index (omega arith) c.loop-file.invariant
