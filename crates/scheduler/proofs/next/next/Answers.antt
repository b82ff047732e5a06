use Rattle.std.proofs.Common.{◌≡◌, ◌∷◌, ap, length, arith}
use Rattle.std.specs.Vec.Iter.{into_iter_items, into_iter_len}
use Rattle.scheduler.specs.Steps.{next}
use Rattle.scheduler.proofs.After.{put_more, first_kept, others_kept, put_end, none_left}
use Rattle.scheduler.proofs.next.next.Goals as goal

pub loop-file-preserved : goal.loop-file-preserved
loop-file-preserved c =
    let xs = into_iter_items c.loop-file.file-iterator in
    let left = into_iter_items c.next.new.self in
    let cut : xs ≡ c.in-Some.file ∷ left = c.in-Some.ensures.steps.0 in
    let old = c.loop-file.out.items in
    let new = c.put_file.new.files.items in
    let all = next c.args.files.now c.args.fates.now in
    record {
      put = put_more xs left old new all c.in-Some.file cut c.in_ok-put_file.ensures.put c.loop-file.invariant.put;
      kept = c.in_ok-put_file.ensures.kept c.loop-file.invariant.kept (first_kept xs left old new all c.in-Some.file cut c.loop-file.invariant.left);
      left = others_kept xs left old new all c.in-Some.file cut c.loop-file.invariant.left;
      len = omega (arith, c.in-Some.ensures.steps.1, c.loop-file.invariant.len, ap length cut);
    }

pub returns-clause-next : goal.returns-clause-next
returns-clause-next c =
    let xs = into_iter_items c.loop-file.file-iterator in
    put_end xs c.loop-file.out.items (next c.args.files.now c.args.fates.now)
    (none_left xs (into_iter_len c.loop-file.file-iterator) c.in-None.ensures.steps.0 c.loop-file.invariant.len) c.loop-file.invariant.put
