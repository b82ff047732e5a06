use Rattle.std.proofs.Common.{◌≡◌, take}
use Rattle.declared_types.specs.Resolving.{as_frames}
use Rattle.declared_types.proofs.resolving.as_frames.Given as goal

abbrev pub invariant-loop-param : goal.invariant-loop-param
invariant-loop-param l = l.frames ≡ as_frames (take l.param-index l.params)
