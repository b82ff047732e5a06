use Rattle.std.proofs.Common.{◌≡◌}
use Rattle.method_pattern.specs.Matching.{ParamTakes}
use Rattle.method_pattern.specs.declared.pattern.ParamPattern.{ParamPattern}
use Rattle.method_pattern.specs.declared.pattern.ParamPattern.TheVariants.{Rest}
use Rattle.method_pattern.proofs.Tries.{Try, tries_left}
use Rattle.method_pattern.proofs.params.params_fit.Given as goal

abbrev pub invariant-loop-others : goal.invariant-loop-others
invariant-loop-others l = Try (λ (p : ParamPattern). p ≡ Rest) ParamTakes l.params l.types l.left l.rest l.behind l.from

abbrev pub decreases-loop-others : goal.decreases-loop-others
decreases-loop-others l = tries_left (λ (p : ParamPattern). p ≡ Rest) ParamTakes l.params l.types l.left l.behind l.from
