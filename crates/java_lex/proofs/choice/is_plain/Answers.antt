use Rattle.std.proofs.Common.{◌≡◌, ◌+◌, ◌↔◌, refl, arith}
use Rattle.java_lex.specs.declared.class.TheConstants.{ID}
use Rattle.java_lex.specs.Marks.{IsPlain, lone}
use Rattle.java_lex.specs.Segments.{class_at}
use Rattle.java_lex.proofs.SegmentSteps.{plain_next}
use Rattle.java_lex.proofs.choice.is_plain.Goals as goal

pub returns-then-at-end : goal.returns-then-at-end
returns-then-at-end c =
    let name : class_at c.args.leaves.now c.names.at ≡ ID = omega arith in
    let there : c.args.end ≡ c.names.at + 1 = omega arith in
    (λ _. c.names.invariant.1 (lone name there), λ _. refl)

pub names-preserved : goal.names-preserved
names-preserved c =
    let step : IsPlain (class_at c.args.leaves.now) c.names.at c.args.end ↔ IsPlain (class_at c.args.leaves.now) (c.names.at + 2) c.args.end =
    plain_next (class_at c.args.leaves.now) c.names.at c.args.end (omega arith) (omega arith) (omega arith) in
    (λ s. step.0 (c.names.invariant.0 s), λ s. c.names.invariant.1 (step.1 s))
