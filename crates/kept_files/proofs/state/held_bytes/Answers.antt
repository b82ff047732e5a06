use Rattle.std.proofs.Common.{◌-◌, ◌^◌, min, arith}
use Rattle.kept_files.specs.States.{held_bytes}
use Rattle.kept_files.proofs.StateLaws.{held_end}
use Rattle.kept_files.proofs.state.held_bytes.Goals as goal

pub returns : goal.returns
returns c = held_end c.args.files.now c.loop-file.file-index c.loop-file.held (min (held_bytes c.args.files.now) (2 ^ 64 - 1)) (omega arith) c.loop-file.invariant.few c.loop-file.invariant.sum
