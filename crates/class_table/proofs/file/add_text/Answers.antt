use Rattle.std.proofs.Common.{◌≡◌, ◌∙◌, ◌++◌, sym, ap, length, refl}
use Rattle.rw_base.specs.PartLaws.{below_next}
use Rattle.class_table.specs.Words.{Word}
use Rattle.class_table.specs.Files.{text_in}
use Rattle.class_table.proofs.Steps.{at_start}
use Rattle.class_table.proofs.Gathering.{word_more, no_word, words_end}
use Rattle.class_table.proofs.file.add_text.Goals as goal
use Rattle.class_table.proofs.file.add_text.Goals.{in-Node, in-Leaf+in_ok-extend_from_slice-in-Leaf}

pub loop-part-init : goal.loop-part-init
loop-part-init c = record {
  same = ap (λ x. c.args.out.now.items ++ text_in x)
      (sym (at_start c.args.tree.now c.args.bytes.now c.args.n.0 _ c.parts-parts.ensures.kids));
  below = c.parts-parts.ensures.below;
}

pub loop-part-preserved : goal.loop-part-preserved
loop-part-preserved c =
    let t = c.args.tree.now in
    let b = c.args.bytes.now in
    let ps = c.parts-parts.result.now in
    let k = c.loop-part.part-index in
    let lt = c.loop-part-test.true in
    let old = c.loop-part.out.items in
    let same = c.loop-part.invariant.same in
    let below = below_next (length t.leaves) c.args.n.0 ps k c.loop-part.invariant.below lt in
    elim c.match-part.branch [
      | in-Node w ↦ record {
        same = rw w.out-is (no_word text_in (λ (w : Word). w.text) (λ w f. refl) (λ n kids f. refl) refl t b ps k old _
            same _ _ lt w.in-Node.is);
        below = below;
      }
      | in-Leaf+in_ok-extend_from_slice-in-Leaf w ↦ record {
        same = rw w.out-is (word_more text_in (λ (w : Word). w.text) (λ w f. refl) (λ n kids f. refl) refl t b ps k old
            _ same _ w.in-Leaf.i _ lt w.in-Leaf.is
            (w.in_ok-extend_from_slice-in-Leaf.ensures.items ∙ ap (λ x. old ++ x) w.text.ensures));
        below = below;
      }
    ]

pub returns : goal.returns
returns c =
    words_end text_in (λ (w : Word). w.text) (λ w f. refl) (λ n kids f. refl) refl c.args.tree.now c.args.bytes.now
    c.parts-parts.result.now c.loop-part.part-index c.loop-part.out.items _ c.loop-part.invariant.same
    c.loop-part-test.false
