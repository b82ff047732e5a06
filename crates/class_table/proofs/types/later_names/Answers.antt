use Rattle.std.proofs.Common.{◌≡◌, ◌∙◌, ◌+◌, ◌++◌, ◌==◌, [], ◌∷◌, sym, ap, subst, length, drop, refl, append-nil}
use Rattle.std.proofs.Common.{if◌then◌else◌, List}
use Rattle.std.specs.Prelude.{IfOk}
use Rattle.rw_base.specs.declared.tree.Leaf.{Leaf}
use Rattle.rw_base.specs.PartLaws.{below_next}
use Rattle.java_lex.specs.declared.class.TheConstants.{ID}
use Rattle.declared_types.specs.declared.written.NamePart.{NamePart}
use Rattle.class_table.specs.Words.{Word, Parts, trees_of}
use Rattle.class_table.specs.TypesWritten.{names_in, part_of_name}
use Rattle.class_table.proofs.Steps.{when, unless}
use Rattle.class_table.proofs.Gathering.{word_more, no_word, words_end}
use Rattle.class_table.proofs.NameWords.{name_word, names_take}
use Rattle.class_table.proofs.types.later_names.Goals as goal
use Rattle.class_table.proofs.types.later_names.Goals.{in-Node, in-Leaf+else-leaf-eq-ID}
use Rattle.class_table.proofs.types.later_names.Goals.{in-Leaf+then-leaf-eq-ID+in_ok-name-in-Leaf+in_ok-push-in-Leaf}

pub loop-at-preserved : goal.loop-at-preserved
loop-at-preserved c =
    let t = c.args.tree.now in
    let b = c.args.bytes.now in
    let ps = c.parts-parts.result.now in
    let k = c.loop-at.at in
    let lt = c.loop-at-test.true in
    let old = c.loop-at.out.items in
    let same = c.loop-at.invariant.same in
    let below = below_next (length t.leaves) c.args.n.0 ps k c.loop-at.invariant.below lt in
    elim c.match-parts-at.branch [
      | in-Node w ↦ record {
        same = rw w.out-is (no_word names_in name_word names_take (λ n kids f. refl) refl t b ps k old _ same _ _ lt
            w.in-Node.is);
        below = below;
      }
      | in-Leaf+then-leaf-eq-ID+in_ok-name-in-Leaf+in_ok-push-in-Leaf w ↦ record {
        same = rw w.out-is (word_more names_in name_word names_take (λ n kids f. refl) refl t b ps k old _ same _
            w.in-Leaf.i _ lt w.in-Leaf.is
            (w.in_ok-push-in-Leaf.ensures.items
            ∙ ap (λ x. old ++ x)
            (ap (λ x. part_of_name x ∷ []) (w.in_ok-name-in-Leaf.ensures ∙ w.text.ensures)
            ∙ sym (when _ _ _ _ (ap (λ (l : Leaf). l.class) (sym w.leaf.ensures.leaf) ∙ w.if-leaf-eq-ID.true)))));
        below = below;
      }
      | in-Leaf+else-leaf-eq-ID w ↦ record {
        same = rw w.out-is (word_more names_in name_word names_take (λ n kids f. refl) refl t b ps k old _ same _
            w.in-Leaf.i _ lt w.in-Leaf.is
            (sym (append-nil old) ∙ ap (λ x. old ++ x)
            (sym (unless _ _ _ _ (λ e. w.if-leaf-eq-ID.false (ap (λ (l : Leaf). l.class) w.leaf.ensures.leaf ∙ e))))));
        below = below;
      }
    ]

pub returns : goal.returns
returns c =
    let t = c.args.tree.now in
    let b = c.args.bytes.now in
    subst (λ x. IfOk c.kept.result (λ list. list ≡ x))
    (words_end names_in name_word names_take (λ n kids f. refl) refl t b c.parts-parts.result.now c.loop-at.at
    c.loop-at.out.items _ c.loop-at.invariant.same c.loop-at-test.false
    ∙ ap (λ ps. names_in (trees_of t b (drop 1 ps))) c.parts-parts.ensures.parts)
    c.kept.ensures
