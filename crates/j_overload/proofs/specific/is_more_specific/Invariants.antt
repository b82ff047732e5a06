use Rattle.std.proofs.Common.{take}
use Rattle.std.specs.List.{zip}
use Rattle.dialogue.specs.Told.{Told}
use Rattle.jtypes.specs.Subtype.{subtype}
use Rattle.j_overload.specs.TestEach.{all_of}
use Rattle.j_overload.specs.Parameters.{parameter_types, compared_count}
use Rattle.j_overload.proofs.specific.is_more_specific.Given as goal

abbrev pub invariant-loop-at : goal.invariant-loop-at
invariant-loop-at g l = Told (all_of (λ t. subtype t.0 t.1) (take l.at (zip (parameter_types l.phase l.m (compared_count l.count l.n)) (parameter_types l.phase l.n (compared_count l.count l.n))))) (g.C.Classes.world l.c) l.initial.asks l.asks l.all
