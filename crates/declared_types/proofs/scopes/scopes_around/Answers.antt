use Rattle.std.proofs.Common.{◌∙◌, ap, [], ◌∷◌, ◌++◌}
use Rattle.declared_types.specs.Erasure.{scope_around}
use Rattle.declared_types.proofs.Enumerating.{numbered_more}
use Rattle.declared_types.proofs.scopes.scopes_around.Goals as goal

pub loop-depth-preserved : goal.loop-depth-preserved
loop-depth-preserved c =
    c.in_ok-push.ensures.items
    ∙ ap (λ ss. ss ++ c.in_ok-scope.scope ∷ []) c.loop-depth.invariant
    ∙ numbered_more (scope_around c.args.d.now.cx) c.as_slice-around.result.now c.loop-depth.depth
    c.index-around-depth.result c.loop-depth-test.true c.index-around-depth.is c.in_ok-scope.scope c.in_ok-scope.ensures
