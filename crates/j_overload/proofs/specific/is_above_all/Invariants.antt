use Rattle.std.proofs.Common.{take}
use Rattle.dialogue.specs.Told.{Told}
use Rattle.j_overload.specs.TestEach.{all_of}
use Rattle.j_overload.specs.Picked.{candidates_at}
use Rattle.j_overload.specs.Rules.{more_specific}
use Rattle.j_overload.proofs.specific.is_above_all.Given as goal

abbrev pub invariant-loop-place : goal.invariant-loop-place
invariant-loop-place g l = Told (all_of (λ d. more_specific l.fn.phase l.fn.count l.m d.1) (candidates_at l.candidates (take l.place-index l.places))) (g.C.Classes.world l.c) l.initial.asks l.asks l.above
