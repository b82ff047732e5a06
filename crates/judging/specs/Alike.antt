-- A judgement rests on the answers to its questions alone.
use Rattle.std.specs.Prelude.{◌≡◌}
use Rattle.dialogue.specs.Dialogue.{run, asked, AnswerAlike}
use Rattle.jtypes.specs.World.{World}
use Rattle.judging.specs.Judging.{Judging}

-- in a world that answers alike what the judgement asked in another, it gives, notes and asks the same
pub record IsDecidedByAnswers {A : Type 0} (d : Judging A) : Type 0 where
  pub gives : (w v : World) → AnswerAlike w v (asked d w) → run d v ≡ run d w
  pub asks : (w v : World) → AnswerAlike w v (asked d w) → asked d v ≡ asked d w
