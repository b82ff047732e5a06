use Rattle.std.proofs.Common.{◌≡◌, ℕ, ◌+◌, ◌<◌, ◌≤◌, List, [], ◌∷◌, ◌++◌, length, take, sym, ◌∙◌, ap, subst, arith, add-one}
use Rattle.std.specs.Prelude.{slice_index}
use Rattle.std.proofs.Math.Seq.{take-suc}
use Rattle.rw_base.specs.declared.tree.Part.{Part}
use Rattle.rw_base.specs.declared.tree.NodeRow.{NodeRow}
use Rattle.rw_base.specs.Arena.{row_at, no_row}
use Rattle.rw_grammar.specs.Depth.{worth, highest_of, all_heights}
use Rattle.rw_grammar.proofs.DepthLaws.{heights_more, highest_below, worth_one, few_more}
use Rattle.rw_grammar.proofs.depth.heights_of.Goals as goal

more_taken : (xs : List NodeRow) (k : ℕ) → k < length xs → take (k + 1) xs ≡ take k xs ++ row_at xs k ∷ []
unfolding row_at
more_taken xs k lt = rw add-one (take-suc xs k no_row lt)

pub overflow_add-height : goal.overflow_add-height
overflow_add-height c =
    let ps = c.parts-parts.result.now in
    let low = highest_below (slice_index c.loop-n.heights.items) c.loop-n.n ps c.loop-n.invariant.few in
    let same = ap (λ (xs : List ℕ). highest_of (slice_index xs) ps) c.as_slice.ensures.value in
    omega (arith, c.weight.ensures, worth_one (length ps), c.highest.ensures, same, low, c.loop-n-test.true, c.len-count.type_inv)

pub loop-n-preserved : goal.loop-n-preserved
loop-n-preserved c =
    let hs = c.loop-n.heights.items in
    let rows = c.args.nodes.now in
    let i = c.loop-n.n in
    let r = row_at rows i in
    let ps = c.parts-parts.result.now in
    let inv = c.loop-n.invariant in
    let h = c.weight.result + c.highest.result in
    let is : h ≡ worth (length r.parts) + highest_of (slice_index hs) r.parts =
    ap (λ w. w + c.highest.result) c.weight.ensures
    ∙ (ap (λ w. worth (length ps) + w) (c.highest.ensures ∙ ap (λ (xs : List ℕ). highest_of (slice_index xs) ps) c.as_slice.ensures.value)
    ∙ ap (λ (qs : List Part). worth (length qs) + highest_of (slice_index hs) qs) c.parts-parts.ensures) in
    let pushed = c.in_ok-push.ensures.items in
    record {
      are = pushed ∙ (ap (λ w. hs ++ w ∷ []) is ∙ (ap (λ (xs : List ℕ). xs ++ (worth (length r.parts) + highest_of (slice_index xs) r.parts) ∷ []) inv.are ∙ (sym (heights_more (take i rows) r) ∙ ap all_heights (sym (more_taken rows i (omega (arith, c.loop-n-test.true, c.len-count.ensures)))))));
      few = λ n. subst (λ (xs : List ℕ). slice_index xs n ≤ i + 1) (sym pushed) (few_more hs h i inv.few (omega (arith, is, worth_one (length r.parts), highest_below (slice_index hs) i r.parts inv.few)) n);
    }
