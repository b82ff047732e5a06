use Rattle.std.proofs.Common.{◌≡◌, ◌∷◌, map, ap, length, arith}
use Rattle.std.specs.Vec.Iter.{into_iter_items, into_iter_len}
use Rattle.j_repair.specs.Changes.{file_of, paths_of}
use Rattle.j_repair.proofs.Kept.{none_left, read_more, paths_more, kept_more, kept_end, read_end}
use Rattle.j_repair.proofs.attributed.all_read.Goals as goal

pub loop-file-preserved : goal.loop-file-preserved
loop-file-preserved g c =
    let xs = into_iter_items c.loop-file.file-iterator in
    let left = into_iter_items c.next.new.self in
    let cut : xs ≡ c.in-Some.file ∷ left = c.in-Some.ensures.steps.0 in
    let done = c.loop-file.out.items in
    let new = c.push.new.self.items in
    let file = c.in_ok-file.file in
    let pushed = c.in_ok-push.ensures.items in
    let same = c.in_ok-new.ensures in
    record {
      files = λ read are. read_more xs left c.in-Some.file done new file c.in_ok-new.field-0 cut pushed same read (map (file_of read) c.args.files.items) (c.in_ok-file.ensures.is read are) (c.loop-file.invariant.files read are);
      paths = paths_more xs left c.in-Some.file done new file c.in_ok-new.field-0 cut pushed same (paths_of c.args.files.items) c.in_ok-file.ensures.path c.loop-file.invariant.paths;
      kept = kept_more xs left c.in-Some.file done new file c.in_ok-new.field-0 cut pushed same c.loop-file.invariant.kept c.in_ok-file.ensures.kept;
      len = omega (arith, c.in-Some.ensures.steps.1, c.loop-file.invariant.len, ap length cut);
    }

pub returns-clause-kept : goal.returns-clause-kept
returns-clause-kept g c =
    kept_end (into_iter_items c.loop-file.file-iterator) c.args.files.items c.loop-file.out.items (none_left (into_iter_items c.loop-file.file-iterator) (into_iter_len c.loop-file.file-iterator) c.in-None.ensures.steps.0 c.loop-file.invariant.len) c.requires c.loop-file.invariant.paths c.loop-file.invariant.kept

pub returns-clause-files : goal.returns-clause-files
returns-clause-files g c read are =
    read_end read (into_iter_items c.loop-file.file-iterator) c.loop-file.out.items (map (file_of read) c.args.files.items) (none_left (into_iter_items c.loop-file.file-iterator) (into_iter_len c.loop-file.file-iterator) c.in-None.ensures.steps.0 c.loop-file.invariant.len) (c.loop-file.invariant.files read are)
