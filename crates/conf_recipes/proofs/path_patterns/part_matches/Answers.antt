use Rattle.std.proofs.Common.{length, false, ap, ◌∙◌, arith}
use Rattle.std.proofs.lemmas.List.{length-replicate}
use Rattle.conf_recipes.specs.PathPatterns.{part_matches}
use Rattle.conf_recipes.proofs.Marks.{part_start, part_end}
use Rattle.conf_recipes.proofs.path_patterns.part_matches.Goals as goal

pub loop-i-init : goal.loop-i-init
loop-i-init c =
    let text = c.args.part.now in
    record {
      long = ap length c.in_ok-marks.ensures ∙ omega (arith, length-replicate (length text) false);
      same = part_start text c.args.pattern.now c.in_ok-marks.marks.items c.in_ok-marks.ensures;
    }

pub returns : goal.returns
returns c =
    let text = c.args.part.now in
    part_end text c.args.pattern.now c.loop-i.i c.loop-i.marks.items c.index.result.now (part_matches c.args.pattern.now text) (omega arith) c.loop-i.invariant.long c.index.ensures c.loop-i.invariant.same
