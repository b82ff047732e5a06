-- What functions that follow a judgement of trees do with the scopes.
use Rattle.std.specs.Prelude.{◌≡◌, List, ◌++◌}
use Rattle.jtypes.specs.World.{World}
use Rattle.j_names.specs.declared.context.Frame.{Frame}
use Rattle.judging.specs.declared.log.Log.{Log}
use Rattle.judging.specs.Judging.{Judging, Judged}

-- a function that judges a node gives its value, and puts the scopes that the node leaves behind those around it
pub record NodeJudged {V : Type 0} (d : Judging (V × List Frame)) (w : World) (old new : Log) (around scopes : List Frame)
    (value : V) : Type 0 where
  pub left : List Frame
  pub judged : Judged d w old new (value, left)
  pub frames : scopes ≡ around ++ left

-- a function that brings scopes into place for a part puts them behind those around the node
pub record Scoped (d : Judging (List Frame)) (w : World) (old new : Log) (around scopes : List Frame) : Type 0 where
  pub before : List Frame
  pub judged : Judged d w old new before
  pub frames : scopes ≡ around ++ before
