use Rattle.std.proofs.Common.{◌≡◌, ◌∷◌, ◌∙◌, length, sym, ap, arith}
use Rattle.std.specs.Vec.Iter.{into_iter_items}
use Rattle.rewrite_cli.specs.Journals.{laid}
use Rattle.rewrite_cli.proofs.Idling.{idle_then}
use Rattle.rewrite_cli.proofs.Walked.{text_more, refused_more, bytes_more, text_all, refused_all}
use Rattle.rewrite_cli.proofs.checking.check_files.Goals as goal

pub loop-path-preserved : goal.loop-path-preserved
loop-path-preserved g c =
    let files = laid c.args.entries.now (g.S.Store.files c.args.store.now) in
    let left = into_iter_items c.next.new.self in
    let all = into_iter_items c.loop-path.path-iterator in
    let cut : all ≡ c.in-Some.path ∷ left = c.in-Some.ensures.steps.0 in
    record {
      text = λ told read are.
          text_more files c.in-Some.path left all cut read _ _ (ap (laid c.args.entries.now) c.loop-path.invariant.files) c.as_str.ensures.bytes _ _ _
          (c.in_ok-check_file.ensures.text told read are) (c.loop-path.invariant.text told read are);
      refused = λ told read are.
          refused_more files c.in-Some.path left all cut read _ _ (ap (laid c.args.entries.now) c.loop-path.invariant.files) c.as_str.ensures.bytes _ _ _
          (c.in_ok-check_file.ensures.refused told read are) (c.loop-path.invariant.refused told read are);
      bytes = λ told.
          bytes_more files c.in-Some.path left all cut _ _ (ap (laid c.args.entries.now) c.loop-path.invariant.files) c.as_str.ensures.bytes _ _ _
          (c.in_ok-check_file.ensures.bytes told) (c.loop-path.invariant.bytes told);
      len = omega (arith, c.in-Some.ensures.steps.1, c.loop-path.invariant.len, ap length cut);
      small = c.in_ok-check_file.ensures.in_limit;
      files = c.check_file.ensures.files ∙ c.loop-path.invariant.files;
      idle = idle_then g.S.Store.tells_images g.S.Store.is_unsynced g.S.Store.moment g.S.Store.left_since g.S.Store.image _ _ _ c.loop-path.invariant.idle c.check_file.ensures.idle;
      count = omega (arith, c.loop-path.invariant.count, c.check_file.ensures.count);
    }

pub returns-clause-text : goal.returns-clause-text
returns-clause-text g c = λ told read are.
    text_all (laid c.args.entries.now (g.S.Store.files c.args.store.now)) read c.loop-path.findings.text.items _ (into_iter_items c.loop-path.path-iterator)
    (sym c.loop-path.invariant.len ∙ c.in-None.ensures.steps.0)
    (c.loop-path.invariant.text told read are)

pub returns-clause-refused : goal.returns-clause-refused
returns-clause-refused g c = λ told read are.
    refused_all (laid c.args.entries.now (g.S.Store.files c.args.store.now)) read c.loop-path.findings.any_refused _ (into_iter_items c.loop-path.path-iterator)
    (sym c.loop-path.invariant.len ∙ c.in-None.ensures.steps.0)
    (c.loop-path.invariant.refused told read are)
