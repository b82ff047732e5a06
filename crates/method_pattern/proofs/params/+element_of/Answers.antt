use Rattle.std.proofs.Common.{◌-◌, subst, arith}
use Rattle.jtypes.specs.declared.types.JType.{JType}
use Rattle.method_pattern.specs.Elements.{IsElement}
use Rattle.method_pattern.proofs.ElementSteps.{deeper}
use Rattle.method_pattern.proofs.params.+element_of.Goals as goal

pub returns-in-Array : goal.returns-in-Array
returns-in-Array t c =
    deeper c.element_of.result c.args.t.now c.in-Array.element c.args.dimensions (c.args.dimensions - 1) (omega arith) c.in-Array.is
    (subst (λ (x : JType). IsElement c.element_of.result x (c.args.dimensions - 1)) c.get.ensures c.element_of.ensures)
