use Rattle.std.proofs.Common.{◌≡◌, ◌∷◌, ◌++◌, ◌∙◌, length, sym, ap, subst, arith}
use Rattle.std.specs.Vec.Iter.{into_iter_items}
use Rattle.rw_host.specs.Files.{IsInOrder}
use Rattle.j_repair.specs.Changes.{paths_of}
use Rattle.rewrite_cli.specs.Journals.{laid}
use Rattle.rewrite_cli.proofs.Idling.{idle_then}
use Rattle.rewrite_cli.proofs.Walked.{bytes_more, no_items}
use Rattle.rewrite_cli.proofs.SourceSteps.{sources_more, sources_all, stubs_more, stubs_all, order_all}
use Rattle.rewrite_cli.proofs.sources.find_files.Goals as goal

pub loop-path-preserved : goal.loop-path-preserved
loop-path-preserved g c =
    let files = laid c.args.entries.now (g.S.Store.files c.args.store.now) in
    let left = into_iter_items c.next.new.self in
    let all = into_iter_items c.loop-path.path-iterator in
    let cut : all ≡ c.in-Some.path ∷ left = c.in-Some.ensures.steps.0 in
    record {
      found = λ told.
          sources_more files c.in-Some.path left all cut _ _ (ap (laid c.args.entries.now) c.loop-path.invariant.files) (λ i. c.in-Some.path) _ _ _
          (c.in_ok-find_file.ensures.files told) (c.loop-path.invariant.found told);
      stubs = λ told.
          stubs_more files c.in-Some.path left all cut _ _ (ap (laid c.args.entries.now) c.loop-path.invariant.files) (λ i. c.in-Some.path) _ _ _
          (c.in_ok-find_file.ensures.stubs told) (c.loop-path.invariant.stubs told);
      order = c.in_ok-find_file.ensures.in_order left (subst (λ ps. IsInOrder (paths_of c.loop-path.found.files.items ++ ps)) cut c.loop-path.invariant.order);
      bytes = λ told.
          bytes_more files c.in-Some.path left all cut _ _ (ap (laid c.args.entries.now) c.loop-path.invariant.files) (λ i. c.in-Some.path) _ _ _
          (c.in_ok-find_file.ensures.bytes told) (c.loop-path.invariant.bytes told);
      len = omega (arith, c.in-Some.ensures.steps.1, c.loop-path.invariant.len, ap length cut);
      small = c.in_ok-find_file.ensures.in_limit;
      files = c.find_file.ensures.store_files ∙ c.loop-path.invariant.files;
      idle = idle_then g.S.Store.tells_images g.S.Store.is_unsynced g.S.Store.moment g.S.Store.left_since g.S.Store.image _ _ _ c.loop-path.invariant.idle c.find_file.ensures.idle;
      count = omega (arith, c.loop-path.invariant.count, c.find_file.ensures.count);
      other_count = c.find_file.ensures.other_count ∙ c.loop-path.invariant.other_count;
    }

pub returns-clause-files : goal.returns-clause-files
returns-clause-files g c = λ told.
    sources_all (laid c.args.entries.now (g.S.Store.files c.args.store.now)) c.loop-path.found.files.items _ (into_iter_items c.loop-path.path-iterator)
    (no_items (into_iter_items c.loop-path.path-iterator) (sym c.loop-path.invariant.len ∙ c.in-None.ensures.steps.0))
    (c.loop-path.invariant.found told)

pub returns-clause-stubs : goal.returns-clause-stubs
returns-clause-stubs g c = λ told.
    stubs_all (laid c.args.entries.now (g.S.Store.files c.args.store.now)) c.loop-path.found.stubs.items _ (into_iter_items c.loop-path.path-iterator)
    (no_items (into_iter_items c.loop-path.path-iterator) (sym c.loop-path.invariant.len ∙ c.in-None.ensures.steps.0))
    (c.loop-path.invariant.stubs told)

pub returns-clause-in_order : goal.returns-clause-in_order
returns-clause-in_order g c =
    order_all (paths_of c.loop-path.found.files.items) (into_iter_items c.loop-path.path-iterator)
    (no_items (into_iter_items c.loop-path.path-iterator) (sym c.loop-path.invariant.len ∙ c.in-None.ensures.steps.0))
    c.loop-path.invariant.order
