use Rattle.std.proofs.Common.{◌≤◌, None, drop, map, length}
use Rattle.std.specs.Prelude.{reverse}
use Rattle.std.specs.Option.{option_copied}
use Rattle.dialogue.specs.Dialogue.{first_found}
use Rattle.dialogue.specs.Told.{Told}
use Rattle.j_names.specs.Names.{variable_in_frame}
use Rattle.j_names.proofs.variables.variable_in_frames.Given as goal

abbrev pub invariant-loop-at : goal.invariant-loop-at
invariant-loop-at g l = record {
  within : l.end ≤ length l.frames;
  told : Told (first_found (map (variable_in_frame (option_copied l.fn.top) l.n) (reverse (drop l.end l.frames))))
      (g.C.Classes.world l.c) l.initial.asks l.asks None;
}

abbrev pub decreases-loop-at : goal.decreases-loop-at
decreases-loop-at g l = l.end
