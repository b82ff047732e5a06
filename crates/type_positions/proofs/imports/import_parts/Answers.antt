use Rattle.std.proofs.lemmas.List.{drop_all}
use Rattle.type_positions.proofs.NameSteps.{here}
use Rattle.type_positions.proofs.ImportSteps.{imports_end, imports_next}
use Rattle.type_positions.proofs.imports.import_parts.Goals as goal

pub loop-at-init : goal.loop-at-init
loop-at-init g c = λ new y h. h

pub loop-at-preserved : goal.loop-at-preserved
loop-at-preserved g c = λ new y h.
    c.loop-at.invariant new y
    (imports_next c.args.cx.now c.args.is_static c.ends_static-static_end.result c.loop-at.symbol c.in_ok-symbol.symbol y c.index-parts-at.result _ _ _ _ _ _
    (here c.args.parts.now c.loop-at.at c.index-parts-at.result c.loop-at-test.true c.index-parts-at.is) c.ends_static-static_end.ensures c.in_ok-symbol.ensures h)

pub returns : goal.returns
returns g c =
    c.loop-at.invariant c.loop-at.log c.loop-at.symbol
    (imports_end c.args.cx.now c.args.is_static c.loop-at.symbol _ _ c.loop-at.log (drop_all c.loop-at.at c.args.parts.now c.loop-at-test.false))
