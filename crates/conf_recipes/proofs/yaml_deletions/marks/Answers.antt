use Rattle.std.proofs.Common.{◌≡◌, ◌∙◌, ap, length, replicate, false}
use Rattle.std.proofs.lemmas.List.{length-replicate}
use Rattle.conf_recipes.proofs.YamlDeletions.{marks_start, marks_end}
use Rattle.conf_recipes.proofs.yaml_deletions.marks.Goals as goal

pub loop-n-init : goal.loop-n-init
loop-n-init c =
    let same : c.in_ok-marks.marks.items ≡ replicate c.args.count false =
    c.in_ok-marks.ensures.items_if_clones_equal (λ y e. e) in
    record {
      long = ap length same ∙ length-replicate c.args.count false;
      fine = c.requires;
      same = marks_start c.args.count c.args.found.now c.in_ok-marks.marks.items same c.requires;
    }

pub returns : goal.returns
returns c =
    marks_end c.args.found.now c.loop-n.marks.items c.loop-n.n-index c.loop-n-test.false c.loop-n.invariant.same
