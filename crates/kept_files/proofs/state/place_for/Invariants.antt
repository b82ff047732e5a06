use Rattle.kept_files.proofs.StateLaws.{GoesOn}
use Rattle.kept_files.proofs.state.place_for.Given as goal

abbrev pub invariant-loop-at : goal.invariant-loop-at
invariant-loop-at l = GoesOn l.file l.files l.at
