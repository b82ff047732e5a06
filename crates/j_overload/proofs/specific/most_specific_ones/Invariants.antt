use Rattle.std.proofs.Common.{take, All}
use Rattle.dialogue.specs.Told.{Told}
use Rattle.j_overload.specs.TestEach.{all_of, those}
use Rattle.j_overload.specs.Picked.{candidates_at, TakesAt}
use Rattle.j_overload.specs.Rules.{more_specific}
use Rattle.j_overload.proofs.specific.most_specific_ones.Given as goal

abbrev pub invariant-loop-place : goal.invariant-loop-place
invariant-loop-place g l = record {
  told : Told (those (λ c. all_of (λ d. more_specific l.fn.phase l.fn.count c.1 d.1) (candidates_at l.candidates l.places)) (candidates_at l.candidates (take l.place-index l.places))) (g.C.Classes.world l.c) l.initial.asks l.asks (candidates_at l.candidates l.best);
  takes : All (TakesAt l.candidates l.fn.phase l.fn.count) l.best;
}
