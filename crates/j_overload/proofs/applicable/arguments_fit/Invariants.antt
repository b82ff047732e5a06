use Rattle.std.proofs.Common.{length, take}
use Rattle.std.specs.List.{zip}
use Rattle.dialogue.specs.Told.{Told}
use Rattle.j_overload.specs.TestEach.{all_of}
use Rattle.j_overload.specs.Parameters.{parameter_types}
use Rattle.j_overload.specs.Rules.{argument_fit}
use Rattle.j_overload.proofs.applicable.arguments_fit.Given as goal

abbrev pub invariant-loop-at : goal.invariant-loop-at
invariant-loop-at g l = Told (all_of (λ t. argument_fit l.fn.phase t.0 t.1) (take l.at (zip l.args (parameter_types l.fn.phase l.m (length l.args))))) (g.C.Classes.world l.c) l.initial.asks l.asks l.all
