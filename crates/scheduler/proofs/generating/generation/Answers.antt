use Rattle.std.proofs.Common.{◌≡◌, ◌∷◌, ap, length, arith}
use Rattle.std.specs.Vec.Iter.{into_iter_items, into_iter_len}
use Rattle.scheduler.specs.Runs.{generation}
use Rattle.scheduler.proofs.After.{none_left}
use Rattle.scheduler.proofs.Generated.{stage, added_more, added_end}
use Rattle.scheduler.proofs.generating.generation.Goals as goal

pub loop-file-preserved : goal.loop-file-preserved
loop-file-preserved g c =
    let xs = into_iter_items c.loop-file.file-iterator in
    let left = into_iter_items c.next.new.self in
    let cut : xs ≡ c.in-Some.file ∷ left = c.in-Some.ensures.steps.0 in
    let old = stage c.loop-file.made.files.items c.loop-file.made.events.items in
    let new = stage c.with_file.new.made.files.items c.with_file.new.made.events.items in
    record {
      made = λ read are. added_more read xs old (generation read c.args.leaf.now c.args.value.now.texts c.args.kept.now) c.in-Some.file left new cut (c.in_ok-with_file.ensures.made read are) (c.loop-file.invariant.made read are);
      kept = c.in_ok-with_file.ensures.kept;
      len = omega (arith, c.in-Some.ensures.steps.1, c.loop-file.invariant.len, ap length cut);
    }

pub returns-clause-made : goal.returns-clause-made
returns-clause-made g c read are =
    let xs = into_iter_items c.loop-file.file-iterator in
    added_end read xs (stage c.loop-file.made.files.items c.loop-file.made.events.items) (generation read c.args.leaf.now c.args.value.now.texts c.args.kept.now)
    (none_left xs (into_iter_len c.loop-file.file-iterator) c.in-None.ensures.steps.0 c.loop-file.invariant.len) (c.loop-file.invariant.made read are)
