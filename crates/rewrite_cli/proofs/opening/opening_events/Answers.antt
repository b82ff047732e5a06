use Rattle.std.proofs.Common.{◌≡◌, ◌+◌, ◌∷◌, ◌∙◌, drop, length, sym, refl, ap, arith}
use Rattle.std.specs.Vec.Iter.{into_iter_items}
use Rattle.rewrite_cli.specs.Ends.{count_before}
use Rattle.rewrite_cli.proofs.Walked.{no_items}
use Rattle.rewrite_cli.proofs.Weaving.{all_woven, part_is, rest_is, within, woven_end, woven_more}
use Rattle.rewrite_cli.proofs.opening.opening_events.Goals as goal

pub loop-stub-preserved : goal.loop-stub-preserved
loop-stub-preserved g c =
    let left = into_iter_items c.next.new.self in
    let all = into_iter_items c.loop-stub.stub-iterator in
    let cut : all ≡ c.in-Some.stub ∷ left = c.in-Some.ensures.steps.0 in
    let files = c.files-files.result.now in
    let from = c.loop-stub.from in
    let count = c.count_before.result in
    record {
      told = λ read are.
          woven_more read files _ from count (from + count) c.in-Some.stub left all c.loop-stub.events.items _ c.push_stub.new.events.items _ cut
          (c.count_before.ensures.count ∙ ap (λ fs. count_before fs c.as_str.result.now) (rest_is files from) ∙ ap (count_before (drop from files)) c.as_str.ensures.bytes) refl
          (part_is files from count) c.in_ok-push_files.ensures (c.in_ok-push_stub.ensures read are) (c.loop-stub.invariant.told read are);
      in_range = within files from count c.loop-stub.invariant.in_range c.count_before.ensures.in_range;
      len = omega (arith, c.in-Some.ensures.steps.1, c.loop-stub.invariant.len, ap length cut);
    }

pub returns : goal.returns
returns g c = λ read are repository k s.
    woven_end read c.files-files.result.now _ c.loop-stub.from (into_iter_items c.loop-stub.stub-iterator) c.loop-stub.events.items _ _
    (no_items (into_iter_items c.loop-stub.stub-iterator) (sym c.loop-stub.invariant.len ∙ c.in-None.ensures.steps.0))
    (rest_is c.files-files.result.now c.loop-stub.from) c.in_ok-push_files-2.ensures (c.loop-stub.invariant.told read are)
    ∙ all_woven read repository c.files-files.result.now c.args.stubs.items are (c.files-files.ensures.files ∙ k) s
