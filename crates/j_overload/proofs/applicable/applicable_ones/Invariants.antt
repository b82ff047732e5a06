use Rattle.std.proofs.Common.{take, All, length}
use Rattle.std.specs.List.{enumerate_from}
use Rattle.dialogue.specs.Told.{Told}
use Rattle.j_overload.specs.TestEach.{those}
use Rattle.j_overload.specs.Picked.{candidates_at, TakesAt}
use Rattle.j_overload.specs.Rules.{applicable}
use Rattle.j_overload.proofs.applicable.applicable_ones.Given as goal

abbrev pub invariant-loop-place : goal.invariant-loop-place
invariant-loop-place g l = record {
  told : Told (those (λ c. applicable l.fn.phase l.args c.1) (take l.place (enumerate_from 0 l.candidates))) (g.C.Classes.world l.c) l.initial.asks l.asks (candidates_at l.candidates l.places);
  takes : All (TakesAt l.candidates l.fn.phase (length l.args)) l.places;
}
